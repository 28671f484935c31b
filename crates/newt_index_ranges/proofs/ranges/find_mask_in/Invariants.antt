use Rattle.std.proofs.Common.{◌≡◌, length}
use Rattle.newt_index_ranges.specs.Rows.{ranges_of}
use Rattle.newt_index_ranges.proofs.ranges.find_mask_in.Given as goal

abbrev pub invariant-loop-left : goal.invariant-loop-left
invariant-loop-left l = ranges_of l.sig l.left ≡ ranges_of l.sig l.rows

abbrev pub decreases-loop-left : goal.decreases-loop-left
decreases-loop-left l = length l.left
