use Rattle.std.proofs.Common.{◌≡◌, length}
use Rattle.newt_base.specs.Names.{same_name}
use Rattle.newt_spec_graph.specs.Lists.{all_apart}
use Rattle.newt_tags.proofs.names.are_names_apart.Given as goal

abbrev pub invariant-loop-left : goal.invariant-loop-left
invariant-loop-left l = all_apart same_name l.left ≡ all_apart same_name l.names

abbrev pub decreases-loop-left : goal.decreases-loop-left
decreases-loop-left l = length l.left
