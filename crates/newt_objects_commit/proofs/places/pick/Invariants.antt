use Rattle.std.proofs.Common.{◌≡◌, ◌++◌, map}
use Rattle.std.specs.Map.Iter.{deref_pair}
use Rattle.newt_objects_commit.specs.Places.{picked}
use Rattle.newt_objects_commit.proofs.places.pick.Given as goal

abbrev pub invariant-loop-key : goal.invariant-loop-key
invariant-loop-key l = l.ids.items ≡ l.fn.ids.items ++ picked l.sig (map deref_pair l.yielded)
