-- What a refused command leaves of what is known in memory, whatever the host tells. All of it is
-- this project's own.
use Rattle.std.specs.Prelude.{◌≡◌, Bool, true, false}
use Rattle.newt_spec_world.specs.Reply.{Reply}
use Rattle.newt_spec_world.specs.declared.command.Command.{Command}
use Rattle.newt_engine.specs.Kept.{KeepsWorld}
use Rattle.newt_engine_whole.specs.declared.whole.Whole.{Whole}

-- the reply is a refusal
abbrev pub is_refusal : Reply → Bool
is_refusal (Reply.refused refusal) = true
is_refusal _ = false

-- The units and the cursors stay as a refusal leaves them, and so do watches and working copies.
pub record KeepsWhole {C : Type 0} (command : Command) (old new : Whole C) : Type 0 where
  pub world : KeepsWorld command old.world new.world
  pub watches : new.watches ≡ old.watches
  pub works : new.works ≡ old.works
