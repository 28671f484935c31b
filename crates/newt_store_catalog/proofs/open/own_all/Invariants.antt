use Rattle.std.proofs.Common.{take}
use Rattle.newt_store_catalog.specs.Opening.{owner_of, OwnsThese}
use Rattle.newt_store_catalog.proofs.open.own_all.Given as goal

abbrev pub invariant-loop-object : goal.invariant-loop-object
invariant-loop-object l = OwnsThese (take l.object-index l.ids) l.id (owner_of l.fn.owners) (owner_of l.owners)
