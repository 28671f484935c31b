-- None of the first cursors does.
use Rattle.std.proofs.Common.{◌≡◌, ◌<◌, ℕ, false}
use Rattle.std.specs.Prelude.{slice_get}
use Rattle.newt_spec_world.specs.World.{flat}
use Rattle.newt_engine_cursors.specs.Reached.{asks_on}
use Rattle.newt_engine_cursors.proofs.settling.asks_any.Given as goal

abbrev pub invariant-loop-cursor : goal.invariant-loop-cursor
invariant-loop-cursor l = record {
  none : (c : ℕ) → c < l.cursor → asks_on l.store l.soup l.uid (flat (slice_get l.desk c)) ≡ false;
}
