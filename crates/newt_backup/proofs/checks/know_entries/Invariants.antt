use Rattle.std.proofs.Common.{All, length}
use Rattle.newt_backup.specs.Contents.{IsSound}
use Rattle.newt_backup.proofs.checks.know_entries.Given as goal

-- where those that are left are sound, all are
abbrev pub invariant-loop-left : goal.invariant-loop-left
invariant-loop-left l = All IsSound l.left → All IsSound l.entries

abbrev pub decreases-loop-left : goal.decreases-loop-left
decreases-loop-left l = length l.left
