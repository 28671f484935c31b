use Rattle.std.proofs.Common.{◌≡◌, map, take}
use Rattle.newt_spec_nsof.specs.Lengths.{bare}
use Rattle.newt_entries.proofs.graphs.all_bare.Given as goal

abbrev pub invariant-loop-node : goal.invariant-loop-node
invariant-loop-node l = l.out.items ≡ map bare (take l.node-index l.nodes)
