use Rattle.std.proofs.Common.{◌≡◌, ◌+◌, ◌==◌, length}
use Rattle.std.specs.List.{position_from}
use Rattle.newt_index_ranges.proofs.ranges.place_of.Given as goal

abbrev pub invariant-loop-left : goal.invariant-loop-left
invariant-loop-left l = record {
  same : position_from (λ row. row.sig == l.sig) l.at l.left ≡ position_from (λ row. row.sig == l.sig) 0 l.rows;
  count : l.at + length l.left ≡ length l.rows;
}

abbrev pub decreases-loop-left : goal.decreases-loop-left
decreases-loop-left l = length l.left
