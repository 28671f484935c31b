-- What a reading of a unit's backup promises. All of it is this project's own.
use Rattle.std.specs.Prelude.{◌≡◌, ℕ, Bool, IsTrue, Some, IfOk, Result}
use Rattle.newt_graph.specs.Graph.{RawGraph}
use Rattle.newt_host.specs.Moments.{image}
use Rattle.newt_host.specs.Outside.{Outside, OnlyReads}
use Rattle.newt_pagebook.specs.declared.book.BookFault.{BookFault}
use Rattle.newt_spec_store.specs.Store.{Store}
use Rattle.newt_backup.specs.Backup.{IsKept, backup}
use Rattle.newt_store_catalog.specs.Readable.{readable}
use Rattle.newt_store_catalog.specs.Reading.{SearchEnds}

-- The graph is the backup of the store that the unit's image is read as, or why there is none; and
-- nothing happens to the unit.
pub record BacksUp (told : Bool) (unit : ℕ) (before after : Outside)
    (result : Result RawGraph BookFault) : Type 0 where
  pub backup_is : IsTrue told → IfOk result (λ g. (s : Store) ×
      (readable (image unit before.now) ≡ Some s) × IsKept s × (g ≡ backup s))
  pub looks : OnlyReads unit before after
  pub ends : SearchEnds told unit before after result
