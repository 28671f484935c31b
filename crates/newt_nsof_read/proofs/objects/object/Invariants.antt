use Rattle.std.proofs.Common.{◌≡◌, ◌-◌, length}
use Rattle.newt_nsof_read.specs.Reading.{object_at}
use Rattle.newt_nsof_read.specs.Stack.{AreOpen, resumed}
use Rattle.newt_nsof_read.proofs.Fields.{IsBytes}
use Rattle.newt_nsof_read.proofs.objects.object.Given as goal

abbrev pub invariant-loop-stack : goal.invariant-loop-stack
invariant-loop-stack l = record {
  fits : IsBytes l.rest;
  stack : AreOpen l.seen l.stack.items;
  reading : resumed l.wide 200 l.stack.items (object_at l.wide (200 - length l.stack.items) l.seen l.rest) ≡ object_at l.wide 200 l.fn.seen l.bytes;
}

abbrev pub decreases-loop-stack : goal.decreases-loop-stack
decreases-loop-stack l = length l.rest
