use Rattle.std.proofs.Common.{◌≡◌, ℕ, ◌<◌, false, slice_get, Some}
use Rattle.newt_objects.proofs.taken.are_free.Given as goal

abbrev pub invariant-loop-number : goal.invariant-loop-number
invariant-loop-number l = (k number : ℕ) → k < l.number-index → slice_get l.numbers k ≡ Some number → slice_get l.flags number ≡ Some false
