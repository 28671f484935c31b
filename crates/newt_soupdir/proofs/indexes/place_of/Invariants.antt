use Rattle.std.proofs.Common.{◌≡◌, ◌+◌, length}
use Rattle.std.specs.List.{position_from}
use Rattle.newt_spec_store.specs.Keys.{same_spec}
use Rattle.newt_soupdir.proofs.indexes.place_of.Given as goal

abbrev pub invariant-loop-left : goal.invariant-loop-left
invariant-loop-left l = record {
  same : position_from (λ other. same_spec other l.spec) l.at l.left ≡ position_from (λ other. same_spec other l.spec) 0 l.specs;
  count : l.at + length l.left ≡ length l.specs;
}

abbrev pub decreases-loop-left : goal.decreases-loop-left
decreases-loop-left l = length l.left
