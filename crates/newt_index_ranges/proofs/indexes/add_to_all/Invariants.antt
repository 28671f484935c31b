use Rattle.std.proofs.Common.{◌≡◌, ◌++◌, map, take, drop}
use Rattle.newt_index_ranges.specs.Rows.{with_entry}
use Rattle.newt_index_ranges.proofs.indexes.add_to_all.Given as goal

abbrev pub invariant-loop-i : goal.invariant-loop-i
invariant-loop-i l = l.ranges ≡ map (with_entry l.fn.uid l.graph) (take l.i l.fn.ranges) ++ drop l.i l.fn.ranges
