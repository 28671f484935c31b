use Rattle.std.proofs.Common.{◌≡◌, ℕ, List, Bool, Some, length}
use Rattle.newt_nsof_read.specs.Stack.{AreOpen, resumed}
use Rattle.newt_nsof_read.proofs.objects.settle.Given as goal

abbrev pub invariant-loop-container : goal.invariant-loop-container
invariant-loop-container l = record {
  stack : AreOpen l.seen l.stack.items;
  reading : (wide : Bool) (rest : List ℕ) → resumed wide 200 l.stack.items (Some (l.value, l.seen, rest)) ≡ resumed wide 200 l.fn.stack.items (Some (l.fn.value, l.fn.seen, rest));
}

abbrev pub decreases-loop-container : goal.decreases-loop-container
decreases-loop-container l = length l.stack.items
