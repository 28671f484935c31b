-- The commands, by what they work on. This project's own.
use Rattle.std.specs.Prelude.{Bool, true, false, ◌==◌, not}
use Rattle.newt_spec_world.specs.declared.command.Command.{Command}
use Rattle.newt_spec_world.specs.declared.command.Command.TheVariants as command

-- a graph is shown, and nothing else is done
abbrev pub is_shown : Command → Bool
is_shown (command.Nsof _) = true
is_shown (command.Lit _) = true
is_shown _ = false

-- a cursor is opened, counted, asked for its side, cloned or closed
abbrev pub on_place : Command → Bool
on_place (command.Query _ _ _) = true
on_place (command.QueryAll _ _) = true
on_place (command.Count _) = true
on_place (command.Which _) = true
on_place (command.Clone _) = true
on_place (command.Close _) = true
on_place _ = false

-- an entry is moved to another unit
abbrev pub is_between : Command → Bool
is_between (command.Move unit soup uid to target) = not (unit == to)
is_between _ = false
