use Rattle.std.proofs.Common.{◌≡◌, ◌+◌, length}
use Rattle.std.specs.List.{position_from}
use Rattle.newt_spec_store.specs.Keys.{paths_of, same_paths}
use Rattle.newt_soupdir.proofs.indexes.place_with_paths.Given as goal

abbrev pub invariant-loop-left : goal.invariant-loop-left
invariant-loop-left l = record {
  same : position_from (λ other. same_paths (paths_of other) l.paths) l.at l.left ≡ position_from (λ other. same_paths (paths_of other) l.paths) 0 l.specs;
  count : l.at + length l.left ≡ length l.specs;
}

abbrev pub decreases-loop-left : goal.decreases-loop-left
decreases-loop-left l = length l.left
