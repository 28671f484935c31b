use Rattle.std.proofs.Common.{◌≡◌, ◌≤◌, ◌+◌, length}
use Rattle.std.specs.List.{sum_by}
use Rattle.newt_backup.proofs.read.are_short.Given as goal

-- what is left of the room, and what is still to be counted
abbrev pub invariant-loop-left : goal.invariant-loop-left
invariant-loop-left l = record {
  counted : 7_989_000 + sum_by (λ text. length text.items) l.left ≡ l.room + sum_by (λ text. length text.items) l.texts;
  few : l.room ≤ 7_989_000;
}

abbrev pub decreases-loop-left : goal.decreases-loop-left
decreases-loop-left l = length l.left
