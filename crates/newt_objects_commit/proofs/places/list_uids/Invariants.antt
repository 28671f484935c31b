use Rattle.std.proofs.Common.{◌≡◌, ◌++◌, map}
use Rattle.std.specs.Map.Iter.{deref_pair}
use Rattle.newt_objects_commit.specs.Places.{uids_at}
use Rattle.newt_objects_commit.proofs.places.list_uids.Given as goal

abbrev pub invariant-loop-key : goal.invariant-loop-key
invariant-loop-key l = l.uids.items ≡ l.fn.uids.items ++ uids_at l.sig (map deref_pair l.yielded)
