use Rattle.std.proofs.Common.{◌≡◌, length, map}
use Rattle.newt_backup.specs.Checks.{after}
use Rattle.newt_entries.specs.Full.{told}
use Rattle.newt_backup.proofs.checks.after.Given as goal

abbrev pub invariant-loop-left : goal.invariant-loop-left
invariant-loop-left l = after l.row.sig l.row.next_uid l.low (map told l.left) ≡ after l.row.sig l.row.next_uid 0 (map told l.entries)

abbrev pub decreases-loop-left : goal.decreases-loop-left
decreases-loop-left l = length l.left
