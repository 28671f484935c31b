-- What holds of the places for cursors between commands.
use Rattle.std.specs.Prelude.{◌≡◌, List, length, Option, Some, None}
use Rattle.newt_spec_graph.specs.Lists.{Each}
use Rattle.newt_spec_query.specs.Cursor.{Cursor}
use Rattle.newt_engine_hits.specs.Fits.{PlaceFits}

-- an open cursor that stands on a hit has a key of its query's index (this project's own)
abbrev pub KeyFits : Option Cursor → Type 0
KeyFits None = Unit {0}
KeyFits (Some k) = PlaceFits k.query.spec.index k.place

-- There are 32 places, and each cursor's key fits. (this project's own)
pub record DeskFits (cursors : List (Option Cursor)) : Type 0 where
  pub places : length cursors ≡ 32
  pub keys : Each KeyFits cursors
