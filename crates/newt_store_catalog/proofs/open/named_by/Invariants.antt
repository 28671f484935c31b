use Rattle.std.proofs.Common.{◌≡◌, take}
use Rattle.newt_store_catalog.specs.Opening.{objects_named}
use Rattle.newt_store_catalog.proofs.open.named_by.Given as goal

abbrev pub invariant-loop-row : goal.invariant-loop-row
invariant-loop-row l = l.ids.items ≡ objects_named (take l.row-index l.rows)
