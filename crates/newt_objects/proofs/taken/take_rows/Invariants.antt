use Rattle.std.proofs.Common.{map, []}
use Rattle.std.specs.Map.Iter.{deref}
use Rattle.newt_objects.specs.Taken.{IsLive, row_at}
use Rattle.newt_objects.proofs.taken.take_rows.Given as goal

abbrev pub invariant-loop-row : goal.invariant-loop-row
invariant-loop-row l = IsLive (row_at []) l.fn.flags.items → IsLive (row_at (map deref l.yielded)) l.flags.items
