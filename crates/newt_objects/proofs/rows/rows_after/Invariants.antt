use Rattle.std.proofs.Common.{◌≡◌, map}
use Rattle.std.specs.Map.Iter.{deref_pair}
use Rattle.newt_objects.proofs.Listed.{ids_of}
use Rattle.newt_objects.proofs.rows.rows_after.Given as goal

abbrev pub invariant-loop-id : goal.invariant-loop-id
invariant-loop-id l = l.ids.items ≡ ids_of (map deref_pair l.yielded)
