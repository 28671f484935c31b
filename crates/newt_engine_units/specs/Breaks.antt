-- What is said where the device of a unit has failed. All of it is this project's own.
use Rattle.std.specs.Prelude.{◌≡◌, ◌≢◌, ℕ, Bool, true, false, List, Option, Some, IsSome}
use Rattle.newt_host.specs.Moments.{Moment, MayLeave, changes, image}
use Rattle.newt_host.specs.Outside.{Outside}
use Rattle.newt_laws_steps.specs.Answering.{Answering}
use Rattle.newt_laws_steps.specs.StandsFor.{seen}
use Rattle.newt_pagebook.specs.declared.book.Stop.{Stop}
use Rattle.newt_pagebook.specs.declared.book.Stop.TheVariants.{Memory, Device}
use Rattle.newt_spec_store.specs.Store.{Store}
use Rattle.newt_spec_world.specs.Step.{formats, is_format_of, looks_at, writes}
use Rattle.newt_spec_world.specs.World.{World}
use Rattle.newt_spec_world.specs.declared.command.Command.{Command}
use Rattle.newt_store_change.specs.declared.fault.StoreFault.{StoreFault}
use Rattle.newt_store_change.specs.declared.fault.StoreFault.TheVariants.{Refused, Stop as Ends}

-- what holds of the unit whose device has failed, where that is why a call ends
abbrev pub AtStop : (ℕ → Type 0) → Stop → Type 0
AtStop P Memory = Unit {0}
AtStop P (Device u) = P u

abbrev pub AtDevice : (ℕ → Type 0) → StoreFault → Type 0
AtDevice P (Refused refusal) = Unit {0}
AtDevice P (Ends stop) = AtStop P stop

-- the unit has a device, and no other device has failed in the call
pub record FailsAlone (before after : Outside) (u : ℕ) : Type 0 where
  pub attached : IsSome (before.card u)
  pub others : (n : ℕ) → n ≢ u → after.dev_faults n ≡ before.dev_faults n

-- a unit is read as it was, and a crash leaves of it what it might have left before
pub record IsLeftAs (u : ℕ) (before after : Moment) : Type 0 where
  pub image : image u after ≡ image u before
  pub left : (left : List ℕ) → MayLeave u after left → MayLeave u before left

-- the command does not format the unit: where it would, the unit is read as a store
abbrev pub HasStoreToFormat : (List ℕ → Option Store) → World → Command → ℕ → Moment → Type 0
HasStoreToFormat reads w c u now =
    formats (seen reads w now c) c u ≡ true → IsSome (reads (image u now))

-- What holds at each moment while a command turns the world w into v, where of these units a sync
-- is due, and w does not know what they hold: a unit that w knows is left as it has it, or v; one
-- of which a sync is due is left as it was, unless it is formatted; and nothing has happened to a
-- unit that is neither written nor formatted, nor looked at where a sync of it is due.
pub record Meanwhile (reads : List ℕ → Option Store) (due : ℕ → Bool) (w : World) (c : Command)
    (v : World) (start now : Moment) : Type 0 where
  pub answering : Answering reads w c v start now
  pub unsure : (u : ℕ) → due u ≡ true → HasStoreToFormat reads w c u start → IsLeftAs u start now
  pub beside : (u : ℕ) → writes w c u ≡ false → is_format_of c u ≡ false
      → (looks_at c ≡ Some u → due u ≡ false) → changes u now ≡ changes u start
