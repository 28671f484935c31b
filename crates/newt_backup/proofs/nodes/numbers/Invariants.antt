use Rattle.std.proofs.Common.{◌≡◌, ◌++◌, ◌≤◌, ◌+◌, length, map, All}
use Rattle.newt_backup.specs.Backup.{cuts, cuts_at}
use Rattle.newt_backup.specs.Contents.{text_of, IsSmall}
use Rattle.newt_backup.proofs.nodes.numbers.Given as goal

abbrev pub invariant-loop-left : goal.invariant-loop-left
invariant-loop-left l = record {
  put : l.values.items ++ cuts_at l.next (map text_of l.left) ≡ cuts_at l.at (map text_of l.entries);
  few : l.next + length (cuts l.next (map text_of l.left)) ≤ 65535;
  fit : All IsSmall l.left;
}

abbrev pub decreases-loop-left : goal.decreases-loop-left
decreases-loop-left l = length l.left
