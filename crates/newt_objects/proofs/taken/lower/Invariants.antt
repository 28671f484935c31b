use Rattle.std.proofs.Common.{◌≡◌, ℕ, ◌<◌, ◌≤◌, slice_get, Some}
use Rattle.newt_objects.specs.Taken.{group_of}
use Rattle.newt_objects.proofs.taken.lower.Given as goal

abbrev pub invariant-loop-number : goal.invariant-loop-number
invariant-loop-number l = record {
  bound : l.low ≤ l.fn.low;
  each : (k number : ℕ) → k < l.number-index → slice_get l.numbers k ≡ Some number → l.low ≤ group_of number;
}
