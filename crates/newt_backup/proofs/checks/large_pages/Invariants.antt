use Rattle.std.proofs.Common.{◌≡◌, ◌≤◌, ◌+◌, ◌*◌, length, map, flat_map, sum, All}
use Rattle.newt_graph.specs.Graph.{payload}
use Rattle.newt_spec_image.specs.Objects.{pages_for}
use Rattle.newt_spec_store.specs.Cost.{large_length}
use Rattle.newt_backup.proofs.checks.large_pages.Given as goal

abbrev pub invariant-loop-left : goal.invariant-loop-left
invariant-loop-left l = record {
  counted : l.pages + sum (map pages_for (flat_map large_length l.left)) ≡ sum (map pages_for (flat_map large_length l.nodes));
  few : l.pages + 2001 * length l.left ≤ 2001 * 65535;
  short : All (λ node. payload node ≤ 1000000) l.left;
}

abbrev pub decreases-loop-left : goal.decreases-loop-left
decreases-loop-left l = length l.left
