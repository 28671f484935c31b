use Rattle.std.proofs.Common.{◌≡◌, ◌-◌, ◌≤◌, length, replicate, None}
use Rattle.newt_work.proofs.works.free_places.Given as goal

abbrev pub invariant-fill : goal.invariant-fill
invariant-fill l = record { free : l.places.items ≡ replicate (length l.places.items) None; few : length l.places.items ≤ 16 }

abbrev pub decreases-fill : goal.decreases-fill
decreases-fill l = 16 - length l.places.items
