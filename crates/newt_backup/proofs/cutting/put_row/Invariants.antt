use Rattle.std.proofs.Common.{◌≡◌, ◌++◌}
use Rattle.newt_backup.specs.Backup.{in_a_row}
use Rattle.newt_backup.proofs.cutting.put_row.Given as goal

abbrev pub invariant-loop-k : goal.invariant-loop-k
invariant-loop-k l = l.values.items ≡ l.fn.values.items ++ in_a_row l.at l.k
