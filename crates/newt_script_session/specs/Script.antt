-- A script: the items of its lines. All of it is this project's own.
use Rattle.std.specs.Prelude.{ℕ, Bool, List, [], ◌∷◌, flat_map, Option, Some, None, Result, Ok, Err}
use Rattle.newt_spec_script.specs.Runs.{quits_among}
use Rattle.newt_spec_script.specs.Script as plain
use Rattle.newt_spec_script.specs.Script.{Item, up_to_quit}
use Rattle.newt_spec_world.specs.declared.command.Command.{Command}
use Rattle.newt_script.specs.Graphs.{readers}
use Rattle.newt_script.specs.Lines.{line_command}
use Rattle.newt_script.specs.declared.fault.LineFault.{LineFault}
use Rattle.newt_script.specs.declared.fault.LineFault.TheVariants.{Refused, Memory}
use Rattle.newt_script_session.specs.Lines.{ended_lines}

-- what a reading gives, which is nothing for a blank line or a % line; no reading is defined to run
-- out of memory
abbrev pub given : Result (Option Command) LineFault → List Item
given (Ok None) = []
given (Ok (Some command)) = Ok command ∷ []
given (Err (Refused refusal)) = Err refusal ∷ []
given (Err Memory) = []

-- the items of lines, in order: commands, and refusals of readings
abbrev pub items_of : List (List ℕ) → List Item
items_of lines = flat_map (λ line. given (line_command line)) lines

-- one of the lines is a well-formed quit
unfoldable pub has_quit : List (List ℕ) → Bool
has_quit lines = quits_among (items_of lines)

-- the items of lines up to and with the first well-formed quit
unfoldable pub commands_of : List (List ℕ) → List Item
commands_of lines = up_to_quit (items_of lines)

-- a line of the bytes that ended is a well-formed quit
abbrev pub quits : List ℕ → Bool
quits bytes = has_quit (ended_lines [] bytes)

-- the items of the lines that ended in bytes, up to a quit
abbrev pub ended_items : List ℕ → List Item
ended_items bytes = commands_of (ended_lines [] bytes)

-- the items of a whole script up to a quit, with the readings of literals and object streams that
-- the code has
unfoldable pub script_items : List ℕ → List Item
script_items script = up_to_quit (plain.items_of readers script)
