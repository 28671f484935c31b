-- Steps: how a command turns one world, with what is beside it, into the next.
use Rattle.std.specs.Prelude.{◌≡◌, ℕ, List, Option, Result, IfOk}
use Rattle.newt_host.specs.Moments.{Moment, Always}
use Rattle.newt_laws_steps.specs.Answering.{Answering}
use Rattle.newt_reply.specs.Said.{said}
use Rattle.newt_reply.specs.declared.reply.Reply as given
use Rattle.newt_spec_script.specs.Rows.{Stepping}
use Rattle.newt_spec_store.specs.Store.{Store}
use Rattle.newt_spec_world.specs.Reply.{Reply}
use Rattle.newt_spec_whole.specs.Whole.{Whole}
use Rattle.newt_spec_world.specs.declared.command.Command.{Command}
use Rattle.newt_laws_steps.specs.Thrown.{FaultsTold, Threw}

-- A command was given in a world. Whatever became of the call, there is a step; its reply tells the
-- faults of devices that were counted; and at each moment a crash leaves each unit as in the one
-- world or in the other. Where the command was answered, the reply is that of the step, and the
-- next world is one of those that are stood for then.
pub record Stepped {E : Type 0} (step : Stepping Whole) (store_of_image : List ℕ → Option Store)
    (command : Command) (result : Result given.Reply E) (world : Whole) (StoodFor : Whole → Type 0)
    (old now : Moment) (was is : ℕ → ℕ) : Type 0 where
  pub next : Whole
  pub reply : Reply
  pub steps : step world command next reply
  pub threw : Threw reply was is
  pub failed : FaultsTold reply was is
  pub answered : IfOk result (λ it. (said it ≡ reply) × StoodFor next)
  pub moments : Always (Answering store_of_image world.world command next.world old) old now
