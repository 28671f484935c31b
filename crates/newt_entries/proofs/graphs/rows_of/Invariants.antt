use Rattle.std.proofs.Common.{◌≡◌, ◌≤◌, ◌+◌, ◌++◌, length, map, zip}
use Rattle.std.specs.Prelude.{All}
use Rattle.newt_graph.specs.Graph.{payload}
use Rattle.newt_spec_store.specs.Laid.{row_of_large}
use Rattle.newt_laws_images.proofs.Records.{larges_from}
use Rattle.newt_entries.specs.Entry.{row_at}
use Rattle.newt_entries.proofs.graphs.rows_of.Given as goal

abbrev pub invariant-loop-left : goal.invariant-loop-left
invariant-loop-left l = record {
  rows : map row_at l.rows.items ++ map row_of_large (zip (larges_from l.number l.left) l.unused) ≡ map row_of_large (zip (larges_from 0 l.nodes) l.ids);
  counted : l.number + length l.left ≡ length l.nodes;
  short : All (λ node. payload node ≤ 1000000) l.left;
}

abbrev pub decreases-loop-left : goal.decreases-loop-left
decreases-loop-left l = length l.left
