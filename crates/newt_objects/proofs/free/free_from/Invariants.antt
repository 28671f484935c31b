use Rattle.std.proofs.Common.{◌≡◌, ◌*◌, take}
use Rattle.newt_objects.specs.Extents.{free_below}
use Rattle.newt_objects.specs.Headers.{held_in}
use Rattle.newt_objects.specs.Taken.{IsTaken}
use Rattle.newt_objects.proofs.free.free_from.Given as goal

abbrev pub invariant-loop-group : goal.invariant-loop-group
invariant-loop-group l = record {
  free : l.free.items ≡ take l.count (free_below (l.group * 32) l.rows.entries l.batch);
  taken : IsTaken (held_in l.rows) l.taken;
}
