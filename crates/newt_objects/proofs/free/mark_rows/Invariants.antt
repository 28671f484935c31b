use Rattle.std.proofs.Common.{map}
use Rattle.std.specs.List.{list_any}
use Rattle.std.specs.Map.Iter.{deref}
use Rattle.newt_objects.specs.Extents.{has_number, MarksAlso}
use Rattle.newt_objects.proofs.free.mark_rows.Given as goal

abbrev pub invariant-loop-row : goal.invariant-loop-row
invariant-loop-row l = MarksAlso (λ q. list_any (has_number q) (map deref l.yielded)) l.fn.taken.items l.taken.items
