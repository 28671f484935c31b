-- The world that units, cursors and devices stand for.
use Rattle.std.specs.Prelude.{ℕ, List, Option}
use Rattle.newt_host.specs.Outside.{Outside}
use Rattle.newt_spec_store.specs.Store.{Store}
use Rattle.newt_spec_query.specs.Cursor.{Cursor}
use Rattle.newt_spec_world.specs.World.{World}
use Rattle.newt_laws_world.specs.Cursors.{with_cursors}
use Rattle.newt_engine_units.specs.declared.units.Units.{Units}
use Rattle.newt_engine_units.specs.Stands.{world_of}

-- the world of the stores that are mounted, with these cursors (this project's own)
abbrev pub world_with : {C : Type 0} → (List ℕ → Option Store) → Units C → List (Option Cursor) → Outside → World
world_with reads units cursors outside = with_cursors cursors (world_of reads units outside)
