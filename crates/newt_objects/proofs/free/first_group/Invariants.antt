use Rattle.std.proofs.Common.{◌≡◌, ℕ, ◌*◌, ◌<◌, ◌≤◌, true, Some, slice_get}
use Rattle.newt_objects.proofs.free.first_group.Given as goal

abbrev pub invariant-loop-number : goal.invariant-loop-number
invariant-loop-number l = (q : ℕ) → l.taken.low * 32 ≤ q → q < l.number → slice_get l.taken.flags.items q ≡ Some true
