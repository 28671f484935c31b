use Rattle.std.proofs.Common.{◌≡◌, ◌+◌, length, map}
use Rattle.newt_entries.specs.Entry.{row_at, names_from}
use Rattle.newt_entries.proofs.fit.are_named.Given as goal

abbrev pub invariant-loop-left : goal.invariant-loop-left
invariant-loop-left l = record {
  same : names_from l.number l.left (map row_at l.named) ≡ names_from 0 l.nodes (map row_at l.rows);
  counted : l.number + length l.left ≡ length l.nodes;
}

abbrev pub decreases-loop-left : goal.decreases-loop-left
decreases-loop-left l = length l.left
