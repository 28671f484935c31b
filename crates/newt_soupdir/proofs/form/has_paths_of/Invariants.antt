use Rattle.std.proofs.Common.{◌≡◌, length, map}
use Rattle.std.specs.List.{list_any}
use Rattle.newt_spec_store.specs.Keys.{paths_of, same_paths}
use Rattle.newt_soupdir.proofs.form.has_paths_of.Given as goal

abbrev pub invariant-loop-left : goal.invariant-loop-left
invariant-loop-left l = list_any (same_paths (paths_of l.spec)) (map paths_of l.left) ≡ list_any (same_paths (paths_of l.spec)) (map paths_of l.specs)

abbrev pub decreases-loop-left : goal.decreases-loop-left
decreases-loop-left l = length l.left
