use Rattle.std.proofs.Common.{◌≡◌, length, find}
use Rattle.newt_index_ranges.specs.Rows.{carries}
use Rattle.newt_index_ranges.proofs.indexes.Indexes.find.Given as goal

abbrev pub invariant-loop-left : goal.invariant-loop-left
invariant-loop-left l = find (carries l.spec) l.left ≡ find (carries l.spec) l.fn.self

abbrev pub decreases-loop-left : goal.decreases-loop-left
decreases-loop-left l = length l.left
