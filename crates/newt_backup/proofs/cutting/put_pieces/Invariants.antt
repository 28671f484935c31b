use Rattle.std.proofs.Common.{◌≡◌, ◌++◌, length, map}
use Rattle.newt_graph.specs.declared.node.Node.TheVariants.{Binary}
use Rattle.newt_backup.specs.Backup.{pieces}
use Rattle.newt_backup.proofs.cutting.put_pieces.Given as goal

abbrev pub invariant-loop-left : goal.invariant-loop-left
invariant-loop-left l = l.nodes.items ++ map (Binary 5) (pieces l.left) ≡ l.fn.nodes.items ++ map (Binary 5) (pieces l.bytes)

abbrev pub decreases-loop-left : goal.decreases-loop-left
decreases-loop-left l = length l.left
