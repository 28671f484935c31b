use Rattle.std.proofs.Common.{◌≡◌, ℕ, ◌*◌, List, Option, take}
use Rattle.newt_spec_image.specs.Objects.{Extent}
use Rattle.newt_objects.specs.Extents.{free_below, AreFlagsOf}
use Rattle.newt_objects.proofs.free.take_group.Given as goal

abbrev pub invariant-loop-number : goal.invariant-loop-number
invariant-loop-number l = (rows : List (ℕ × Option Extent)) → AreFlagsOf rows l.flags → l.fn.free.items ≡ take l.count (free_below (l.group * 32) rows l.batch) → l.free.items ≡ take l.count (free_below l.number rows l.batch)
