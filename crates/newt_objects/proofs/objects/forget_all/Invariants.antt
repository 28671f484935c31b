use Rattle.std.proofs.Common.{◌≡◌, ℕ, length}
use Rattle.newt_objects.specs.Headers.{held_in}
use Rattle.newt_objects.proofs.objects.forget_all.Given as goal

abbrev pub invariant-loop-plan : goal.invariant-loop-plan
invariant-loop-plan l = (id : ℕ) → held_in l.rows id ≡ held_in l.fn.rows id

abbrev pub decreases-loop-plan : goal.decreases-loop-plan
decreases-loop-plan l = length l.plans.items
