use Rattle.std.proofs.Common.{◌≡◌, ◌+◌, drop}
use Rattle.std.specs.List.{sum_by}
use Rattle.newt_spec_nsof.specs.Lengths.{large_len}
use Rattle.newt_backup.proofs.nodes.larges_len.Given as goal

-- what is counted, and what is still to be counted
abbrev pub invariant-loop-node : goal.invariant-loop-node
invariant-loop-node l = l.total + sum_by large_len (drop l.node-index l.nodes) ≡ sum_by large_len l.nodes
