use Rattle.std.proofs.Common.{◌≢◌, ◌+◌, ◌*◌, ◌<◌, ◌≤◌, ℕ, None}
use Rattle.newt_objects.specs.Held.{held}
use Rattle.newt_store.proofs.plan.free_from.Given as goal

abbrev pub invariant-loop-half : goal.invariant-loop-half
invariant-loop-half l = (k : ℕ) → l.from ≤ k → k < l.half → held l.objects (2 * k + l.parity) ≢ None
