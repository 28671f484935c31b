use Rattle.std.proofs.Common.{◌≡◌, ◌++◌, length, map, drop}
use Rattle.std.specs.Prelude.{All}
use Rattle.std.specs.Vec.Iter.{into_iter_items, into_iter_len}
use Rattle.newt_entries.specs.Filling.{put_in, HasBytes}
use Rattle.newt_entries.proofs.graphs.put_in.Given as goal

abbrev pub invariant-loop-node : goal.invariant-loop-node
invariant-loop-node l = record {
  value : l.out.items ++ put_in (drop l.node-index l.nodes) (map (λ bytes. bytes.items) (into_iter_items l.left)) ≡ put_in l.nodes (map (λ bytes. bytes.items) l.fn.larges.items);
  counted : into_iter_len l.left ≡ length (into_iter_items l.left);
  bytes : All HasBytes l.out.items;
}
