use Rattle.std.proofs.Common.{◌≡◌, ◌++◌, map, take, drop}
use Rattle.newt_index_ranges.specs.Rows.{without_entry}
use Rattle.newt_index_ranges.proofs.indexes.remove_from_all.Given as goal

abbrev pub invariant-loop-i : goal.invariant-loop-i
invariant-loop-i l = l.ranges ≡ map (without_entry l.fn.uid) (take l.i l.fn.ranges) ++ drop l.i l.fn.ranges
