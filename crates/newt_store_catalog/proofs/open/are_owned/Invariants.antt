use Rattle.std.proofs.Common.{◌≡◌, ℕ, ◌%◌, take, IsSome}
use Rattle.newt_spec_graph.specs.Lists.{Among}
use Rattle.newt_store_catalog.specs.Opening.{owner_of}
use Rattle.newt_store_catalog.proofs.open.are_owned.Given as goal

abbrev pub invariant-loop-id : goal.invariant-loop-id
invariant-loop-id l = (id : ℕ) → Among (take l.id-index l.ids) id → id % 2 ≡ 0 → IsSome (owner_of l.owners id)
