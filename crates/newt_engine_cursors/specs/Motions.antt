-- How a cursor is moved. All of it is this project's own.
use Rattle.std.specs.Prelude.{◌≡◌, ℕ, Bool, true, false, List, Some, is_none, Result, Ok, Err}
use Rattle.newt_base.specs.declared.Refusal.TheVariants.{Cursor as NoCursor}
use Rattle.newt_spec_store.specs.Keys.{IndexSpec}
use Rattle.newt_spec_graph.specs.Lists.{Among}
use Rattle.newt_spec_query.specs.Hits.{Hit}
use Rattle.newt_spec_query.specs.Cursor.{Cursor, Place, on, moved, place_at_key}
use Rattle.newt_spec_world.specs.Changed.{Step, stepped}
use Rattle.newt_spec_world.specs.World.{World, cursor, hits_of}
use Rattle.newt_keys.specs.KeyForm.{IsKeyOf}
use Rattle.newt_store_change.specs.declared.fault.StoreFault.{StoreFault}
use Rattle.newt_store_change.specs.declared.fault.StoreFault.TheVariants.{Refused, Stop}
use Rattle.newt_engine_cursors.specs.declared.show.Shown.{Shown}
use Rattle.newt_engine_cursors.specs.declared.stepping.Motion.{Motion}
use Rattle.newt_engine_cursors.specs.declared.stepping.Motion.TheVariants as motion
use Rattle.newt_engine_cursors.specs.Calls.{Shows}
use Rattle.newt_engine_hits.specs.Fits.{PlaceFits}
use Rattle.newt_engine_hits.specs.Ways.{outermost, stepping}

-- how a cursor steps that is moved so (a word of these definitions)
abbrev pub step_of : Motion → Step
step_of (motion.Step way) hs index place = stepping way hs index place
step_of (motion.Leap way) hs index place = outermost way hs
step_of (motion.By n) hs index place = moved n hs index place
step_of (motion.Key key) hs index place = place_at_key hs index key

-- a key that is moved to is one of the declaration (this project's own)
abbrev pub MotionFits : IndexSpec → Motion → Type 0
MotionFits index (motion.Key key) = IsKeyOf index key
MotionFits index _ = Unit {0}

-- a cursor that is moved so comes to a hit or to a side, and does not stay where it is (this project's own)
abbrev pub leads_to_hits : Motion → Bool
leads_to_hits (motion.By n) = false
leads_to_hits _ = true

-- a place is on one of these hits, or on none (this project's own)
abbrev pub IsAmong : List Hit → Place → Type 0
IsAmong hs (on h) = Among hs h
IsAmong hs _ = Unit {0}

-- the place is on a hit of the query of a cursor that is open, or on no entry (this project's own)
abbrev pub ComesAmong : World → ℕ → Place → Type 0
ComesAmong w n place = (k : Cursor) → cursor w n ≡ Some k → IsAmong (hits_of w k.query) place

-- A cursor of the index may be moved so from this place. (this project's own)
pub record CanMove (index : IndexSpec) (from : Place) (by : Motion) : Type 0 where
  pub place : PlaceFits index from
  pub motion : MotionFits index by

-- A cursor of the world w that is open is stepped, which makes the world v, and it is shown. One that is not open is refused, and nothing has changed.
-- (this project's own)
abbrev pub Steers : World → World → ℕ → Step → Result Shown StoreFault → Type 0
Steers w v n step (Ok shown) = (is_none (cursor w n) ≡ false) × Shows (stepped w n step) v n shown
Steers w v n step (Err (Refused refusal)) = (is_none (cursor w n) ≡ true) × (refusal ≡ NoCursor) × (v ≡ w)
Steers w v n step (Err (Stop stop)) = Unit {0}
