use Rattle.std.proofs.Common.{◌≡◌, take, sum_by}
use Rattle.newt_graph.specs.Graph.{payload}
use Rattle.newt_entries.proofs.fit.bytes_of.Given as goal

abbrev pub invariant-loop-node : goal.invariant-loop-node
invariant-loop-node l = l.total ≡ sum_by payload (take l.node-index l.nodes)
