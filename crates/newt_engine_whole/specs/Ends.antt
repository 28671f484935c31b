-- Which commands of the whole may end the run. This project's own.
use Rattle.std.specs.Prelude.{Bool, true}
use Rattle.newt_spec_world.specs.declared.command.Command.{Command}
use Rattle.newt_spec_world.specs.declared.command.Command.TheVariants as command
use Rattle.newt_engine.specs.Ends.{takes_memory, uses_device}

-- a device is read or written
abbrev pub whole_uses_device : Command → Bool
whole_uses_device (command.Open u s uid) = true
whole_uses_device (command.Save n) = true
whole_uses_device (command.Revert n) = true
whole_uses_device c = uses_device c

-- Memory is taken. A watch takes room for its notes when it is made, so no note takes any.
abbrev pub whole_takes_memory : Command → Bool
whole_takes_memory (command.Watch s most) = true
whole_takes_memory (command.Notes n) = true
whole_takes_memory (command.Open u s uid) = true
whole_takes_memory (command.Draft n) = true
whole_takes_memory (command.Edit n path g) = true
whole_takes_memory (command.Save n) = true
whole_takes_memory (command.Revert n) = true
whole_takes_memory c = takes_memory c
