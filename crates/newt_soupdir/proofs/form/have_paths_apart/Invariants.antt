use Rattle.std.proofs.Common.{◌≡◌, length, map}
use Rattle.newt_spec_graph.specs.Lists.{all_apart}
use Rattle.newt_spec_store.specs.Keys.{paths_of, same_paths}
use Rattle.newt_soupdir.proofs.form.have_paths_apart.Given as goal

abbrev pub invariant-loop-left : goal.invariant-loop-left
invariant-loop-left l = all_apart same_paths (map paths_of l.left) ≡ all_apart same_paths (map paths_of l.specs)

abbrev pub decreases-loop-left : goal.decreases-loop-left
decreases-loop-left l = length l.left
