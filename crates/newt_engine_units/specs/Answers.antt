-- What a command answers, and makes of the world.
use Rattle.std.specs.Prelude.{◌≡◌, Result, Ok, Err}
use Rattle.newt_spec_world.specs.declared.command.Command.{Command}
use Rattle.newt_spec_world.specs.Reply.{Reply}
use Rattle.newt_spec_world.specs.World.{World}
use Rattle.newt_spec_world.specs.Answer.{answer}
use Rattle.newt_store_change.specs.declared.fault.StoreFault.{StoreFault}
use Rattle.newt_store_change.specs.declared.fault.StoreFault.TheVariants.{Refused, Stop}

-- A command on the world w answers what is defined of it, and makes the world v. The reply to a command that is done is made of what is answered.
abbrev pub Answers : {T : Type 0} → World → World → Command → (T → Reply) → Result T StoreFault → Type 0
Answers w v c reply (Ok value) = answer w c ≡ (v, reply value)
Answers w v c reply (Err (Refused refusal)) = answer w c ≡ (v, Reply.refused refusal)
Answers w v c reply (Err (Stop stop)) = Unit {0}
