use Rattle.std.proofs.Common.{◌≡◌, map, take}
use Rattle.std.specs.List.{flat_map}
use Rattle.newt_entries.specs.Filling.{bytes_in}
use Rattle.newt_entries.proofs.graphs.larges_in.Given as goal

abbrev pub invariant-loop-node : goal.invariant-loop-node
invariant-loop-node l = map (λ bytes. bytes.items) l.out.items ≡ flat_map bytes_in (take l.node-index l.nodes)
