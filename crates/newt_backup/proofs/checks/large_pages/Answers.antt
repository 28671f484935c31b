use Rattle.std.proofs.Common.{arith, ◌≤◌, sum, map, flat_map}
use Rattle.newt_graph.specs.declared.node.Node.{Node}
use Rattle.newt_graph.specs.Graph.{payload}
use Rattle.newt_spec_image.specs.Objects.{pages_for}
use Rattle.newt_spec_store.specs.Cost.{large_length}
use Rattle.newt_entries.proofs.Steps.{all-rest, rest-size}
use Rattle.newt_backup.proofs.Pages.{pages-step}
use Rattle.newt_backup.proofs.checks.large_pages.Goals as goal

pub loop-left-preserved : goal.loop-left-preserved
loop-left-preserved c =
    let left = c.loop-left.left.now in
    record {
      counted = pages-step c.node-item.result left c.loop-left.pages c.node_pages-pages.result (sum (map pages_for (flat_map large_length c.args.nodes.now))) c.in-len1-up.len_at_least c.node-item.is c.loop-left.invariant.counted c.node_pages-pages.ensures.pages;
      few = let size = rest-size 1 left in omega (arith, size, c.loop-left.invariant.few, c.node_pages-pages.ensures.few, c.in-len1-up.len_at_least);
      short = all-rest (λ (node : Node). payload node ≤ 1000000) left c.in-len1-up.len_at_least c.loop-left.invariant.short;
    }
