use Rattle.std.proofs.Common.{◌≡◌, ◌-◌, ◌≤◌, length, replicate, None}
use Rattle.newt_notify.proofs.watches.free_places.Given as goal

abbrev pub invariant-fill : goal.invariant-fill
invariant-fill l = record { free : l.places.items ≡ replicate (length l.places.items) None; few : length l.places.items ≤ 8 }

abbrev pub decreases-fill : goal.decreases-fill
decreases-fill l = 8 - length l.places.items
