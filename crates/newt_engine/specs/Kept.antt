-- What a command that changes nothing leaves of what is known in memory, whatever the host tells.
-- All of it is this project's own.
use Rattle.std.specs.Prelude.{◌≡◌, Bool, true, false, Result, Ok, Err}
use Rattle.newt_reply.specs.Said.{said}
use Rattle.newt_reply.specs.declared.reply.Reply.{Reply}
use Rattle.newt_spec_world.specs.Reply as plain
use Rattle.newt_spec_world.specs.Step.{looks_at}
use Rattle.newt_spec_world.specs.declared.command.Command.{Command}
use Rattle.newt_store_change.specs.declared.fault.StoreFault.{StoreFault}
use Rattle.newt_store_change.specs.declared.fault.StoreFault.TheVariants.{Refused, Stop}
use Rattle.newt_engine_units.specs.Kept.{KeepsUnits, shows_entry}
use Rattle.newt_engine.specs.Groups.{is_between}
use Rattle.newt_engine.specs.declared.world.World.{World}

-- the reply is of a command that leaves all as it was: it was refused, or an entry was shown
abbrev pub leaves_all : Command → plain.Reply → Bool
leaves_all command (plain.Reply.refused refusal) = true
leaves_all command (plain.Reply.thrown unit) = false
leaves_all command reply = shows_entry command

-- the same of what a command answers
abbrev pub LeavesAll : Command → Result Reply StoreFault → Type 0
LeavesAll command (Ok it) = leaves_all command (said it) ≡ true
LeavesAll command (Err (Refused refusal)) = Unit {0}
LeavesAll command (Err (Stop stop)) = ⊥

-- What is known of the units is as it was; and so are the cursors, but where the command moves an
-- entry to another unit.
pub record KeepsWorld {C : Type 0} (command : Command) (old new : World C) : Type 0 where
  pub units : KeepsUnits (looks_at command) old.units new.units
  pub desk : is_between command ≡ false → new.desk ≡ old.desk
