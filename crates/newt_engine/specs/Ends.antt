-- Which commands may end the run. This project's own.
use Rattle.std.specs.Prelude.{Bool, true, false}
use Rattle.newt_spec_world.specs.declared.command.Command.{Command}
use Rattle.newt_spec_world.specs.declared.command.Command.TheVariants as command

-- A device is read or written, but for these commands: they show what was given, or look at what is
-- in memory, or change that alone. The last nine are of watches and working copies; the world does
-- nothing for them.
abbrev pub uses_device : Command → Bool
uses_device (command.Nsof _) = false
uses_device (command.Lit _) = false
uses_device (command.Time _) = false
uses_device command.Quit = false
uses_device (command.Unmount _) = false
uses_device command.Stores = false
uses_device (command.Default _) = false
uses_device (command.Soups _) = false
uses_device (command.Alias _ _ _) = false
uses_device (command.Resolve _) = false
uses_device (command.Indexes _ _) = false
uses_device (command.Tags _ _) = false
uses_device (command.Info _ _) = false
uses_device (command.Which _) = false
uses_device (command.Clone _) = false
uses_device (command.Close _) = false
uses_device (command.Watch _ _) = false
uses_device (command.Notes _) = false
uses_device (command.Unwatch _) = false
uses_device (command.Open _ _ _) = false
uses_device (command.Draft _) = false
uses_device (command.Edit _ _ _) = false
uses_device (command.Save _) = false
uses_device (command.Revert _) = false
uses_device (command.Discard _) = false
uses_device _ = true

-- memory is taken; whatever uses a device takes some
abbrev pub takes_memory : Command → Bool
takes_memory command.Stores = true
takes_memory (command.Soups _) = true
takes_memory (command.Indexes _ _) = true
takes_memory (command.Tags _ _) = true
takes_memory (command.Info _ _) = true
takes_memory (command.Resolve _) = true
takes_memory (command.Clone _) = true
takes_memory c = uses_device c
