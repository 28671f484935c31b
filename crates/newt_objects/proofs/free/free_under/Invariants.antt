use Rattle.std.proofs.Common.{◌≡◌, take}
use Rattle.newt_objects.specs.Extents.{free_below}
use Rattle.newt_objects.proofs.free.free_under.Given as goal

abbrev pub invariant-loop-number : goal.invariant-loop-number
invariant-loop-number l = l.free.items ≡ take l.count (free_below l.number l.rows.entries l.batch)
