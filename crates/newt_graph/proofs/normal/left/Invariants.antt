use Rattle.std.proofs.Common.{◌≡◌, ◌+◌, take}
use Rattle.std.specs.List.{sum_by}
use Rattle.newt_graph.specs.Graph.{payload}
use Rattle.newt_graph.proofs.normal.left.Given as goal

abbrev pub invariant-loop-node : goal.invariant-loop-node
invariant-loop-node l = l.left + sum_by payload (take l.node-index l.nodes) ≡ l.most
