-- A world apart from its cursors.
use Rattle.std.specs.Prelude.{Bool, true, false, List, Option, is_none}
use Rattle.std.specs.List.{list_all}
use Rattle.newt_spec_query.specs.Cursor.{Cursor}
use Rattle.newt_spec_world.specs.declared.command.Command.{Command}
use Rattle.newt_spec_world.specs.declared.command.Command.TheVariants as command
use Rattle.newt_spec_world.specs.World.{World}

-- the world with these cursors in place of its own (a word of these definitions)
abbrev pub with_cursors : List (Option Cursor) → World → World
with_cursors cursors w = record w { cursors = cursors }

-- no cursor is open (this project's own)
abbrev pub all_closed : World → Bool
all_closed w = list_all is_none w.cursors

-- the commands that open, move, show or close a cursor (this project's own)
unfoldable pub uses_cursors : Command → Bool
uses_cursors (command.Query _ _ _) = true
uses_cursors (command.QueryAll _ _) = true
uses_cursors (command.Entry _) = true
uses_cursors (command.Next _) = true
uses_cursors (command.Prev _) = true
uses_cursors (command.Reset _) = true
uses_cursors (command.End _) = true
uses_cursors (command.Moveby _ _) = true
uses_cursors (command.Goto _ _ _) = true
uses_cursors (command.Gotokey _ _) = true
uses_cursors (command.Count _) = true
uses_cursors (command.Which _) = true
uses_cursors (command.Clone _) = true
uses_cursors (command.Close _) = true
uses_cursors _ = false
