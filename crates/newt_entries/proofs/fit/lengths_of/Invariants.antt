use Rattle.std.proofs.Common.{◌≡◌, ◌≤◌, ◌*◌, take, sum_by}
use Rattle.newt_entries.proofs.fit.lengths_of.Given as goal

abbrev pub invariant-loop-row : goal.invariant-loop-row
invariant-loop-row l = record {
  sum : l.total ≡ sum_by (λ row. row.length) (take l.row-index l.rows);
  below : l.total ≤ l.row-index * 4294967295;
}
