-- What a command that changes nothing leaves of what is known in memory, whatever the devices hold.
-- All of it is this project's own.
use Rattle.std.specs.Prelude.{◌≡◌, ℕ, Bool, true, false, Option, Some, Result, Ok, Err}
use Rattle.newt_spec_world.specs.declared.command.Command.{Command}
use Rattle.newt_spec_world.specs.declared.command.Command.TheVariants as command
use Rattle.newt_store_change.specs.declared.fault.StoreFault.{StoreFault}
use Rattle.newt_store_change.specs.declared.fault.StoreFault.TheVariants.{Refused, Stop}
use Rattle.newt_engine_units.specs.Stands.{due_in, mounted_in}
use Rattle.newt_engine_units.specs.declared.units.Units.{Units}

-- the command shows an entry, and does nothing else
abbrev pub shows_entry : Command → Bool
shows_entry (command.Get unit name uid) = true
shows_entry (command.Getx unit name uid) = true
shows_entry _ = false

-- the command is to leave all as it was: it was refused, or it shows an entry
abbrev pub IsIdle : {T : Type 0} → Command → Result T StoreFault → Type 0
IsIdle command (Ok value) = shows_entry command ≡ true
IsIdle command (Err (Refused refusal)) = Unit {0}
IsIdle command (Err (Stop stop)) = ⊥

-- The same units are mounted, of the same ones a sync is due, and the default unit and the minute
-- are what they were. But where a sync was due of the unit that is looked at, it may have been made.
pub record KeepsUnits {C : Type 0} (looked : Option ℕ) (old new : Units C) : Type 0 where
  pub marks : (u : ℕ) → mounted_in new.slots.items u ≡ mounted_in old.slots.items u
  pub dues : (u : ℕ) → (looked ≡ Some u → due_in old.slots.items u ≡ false)
      → due_in new.slots.items u ≡ due_in old.slots.items u
  pub default : new.default ≡ old.default
  pub minute : new.minute ≡ old.minute
