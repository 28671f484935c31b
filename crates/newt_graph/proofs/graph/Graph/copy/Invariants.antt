use Rattle.std.proofs.Common.{◌≡◌, take}
use Rattle.newt_graph.proofs.graph.Graph.copy.Given as goal

abbrev pub invariant-loop-node : goal.invariant-loop-node
invariant-loop-node l = l.nodes.items ≡ take l.node-index l.self.nodes
