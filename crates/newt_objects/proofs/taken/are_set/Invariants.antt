use Rattle.std.proofs.Common.{◌≡◌, ℕ, ◌<◌, ◌≤◌, true, slice_get, Some}
use Rattle.newt_objects.proofs.taken.are_set.Given as goal

abbrev pub invariant-loop-number : goal.invariant-loop-number
invariant-loop-number l = (number : ℕ) → l.first ≤ number → number < l.number → slice_get l.flags number ≡ Some true
