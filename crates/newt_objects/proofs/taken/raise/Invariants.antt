use Rattle.std.proofs.Common.{◌≡◌}
use Rattle.newt_objects.specs.Taken.{AreFull}
use Rattle.newt_objects.proofs.taken.raise.Given as goal

abbrev pub invariant-loop-group : goal.invariant-loop-group
invariant-loop-group l = record {
  low : l.taken.low ≡ l.group;
  flags : l.taken.flags.items ≡ l.fn.taken.flags.items;
  full : AreFull l.taken;
}
