-- The slots are those of the units so far.
use Rattle.std.proofs.Common.{◌≡◌, take, map, length}
use Rattle.newt_engine_units.specs.Stands.{unmounted}
use Rattle.newt_engine_units.proofs.units.Units.of.Given as goal

abbrev pub invariant-loop-has : goal.invariant-loop-has
invariant-loop-has g l = (l.slots.items ≡ map unmounted (take l.has-index l.has-items)) × (length l.slots.items ≡ l.has-index)
