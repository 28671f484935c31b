-- What it is to stand for a host.
use Rattle.std.specs.Prelude.{ℕ, Bool, IsTrue, List, Option}
use Rattle.newt_host.specs.Outside.{Outside}
use Rattle.newt_laws_steps.specs.StandsFor.{Marks, StandsFor}
use Rattle.newt_laws_world.specs.Settled.{IsSettled, MountedApart}
use Rattle.newt_spec_query.specs.Cursor.{Cursor}
use Rattle.newt_spec_store.specs.Store.{Store}
use Rattle.newt_engine_units.specs.declared.units.Units.{Units}
use Rattle.newt_engine_units.specs.Stands.{Eight, Stands, due_in, mounted_in}
use Rattle.newt_engine_cursors.specs.Fits.{DeskFits}
use Rattle.newt_engine_cursors.specs.World.{world_with}
use Rattle.newt_engine.specs.declared.world.World.{World}
use Rattle.newt_spec_world.specs.World as plain

module _ {C : Type 0} (reads : List ℕ → Option Store) (place : C → ℕ) (stands : Bool → C → Outside → Type 0) where
  -- The units stand for a host of eight units, and the cursors with them for the known world of its devices, in which nothing is known of a unit of which a sync
  -- is due: no two mounted stores have one signature, and no cursor has another key than its entry.
  pub record Standing (told : Bool) (units : Units C) (cursors : List (Option Cursor)) (outside : Outside) : Type 0 where
    pub stand : Stands place stands told units outside
    pub eight : Eight outside
    pub desk : DeskFits cursors
    pub apart : IsTrue told → MountedApart (world_with reads units cursors outside)
    pub settled : IsTrue told → IsSettled (world_with reads units cursors outside)

  -- the engine's world stands for a host
  abbrev pub IsStanding : Bool → World C → Outside → Type 0
  IsStanding told world outside = Standing told world.units world.desk outside

-- the known world that it stands for
abbrev pub stood_for : {C : Type 0} → (List ℕ → Option Store) → World C → Outside → plain.World
stood_for reads world outside = world_with reads world.units world.desk outside

-- what units and cursors keep of a world
abbrev pub marks_with : {C : Type 0} → Units C → List (Option Cursor) → Marks
marks_with units cursors = record {
  mounted = mounted_in units.slots.items;
  due = due_in units.slots.items;
  default = units.default;
  minute = units.minute;
  cursors = cursors;
}

-- and what the engine's world does
abbrev pub marks_of : {C : Type 0} → World C → Marks
marks_of world = marks_with world.units world.desk

-- the engine's world and the devices stand for this world, among others where a sync is due
abbrev pub means : {C : Type 0} → (List ℕ → Option Store) → World C → Outside → plain.World → Type 0
means reads world outside w = StandsFor reads (marks_of world) outside w

-- its units stand for a host
abbrev pub UnitsStand : {C : Type 0} → (C → ℕ) → (Bool → C → Outside → Type 0) → Bool → World C → Outside → Type 0
UnitsStand place stands told world outside = Stands place stands told world.units outside

-- the places for cursors of the engine's world are what they are to be
abbrev pub CursorsFit : {C : Type 0} → World C → Type 0
CursorsFit world = DeskFits world.desk
