-- What one line of a script says, as the code answers it.
use Rattle.std.specs.Prelude.{ℕ, Bool, not, ◌&&◌, List, length, nat_lt, Option, Some, None, Result}
use Rattle.std.specs.Prelude.{Ok, Err, option_map}
use Rattle.newt_spec_world.specs.declared.command.Command.{Command}
use Rattle.newt_spec_script.specs.Line.{parsed, within_length, first_word}
use Rattle.newt_spec_script.specs.Script.{Item, item_of, without_return}
use Rattle.newt_script.specs.Graphs.{readers}
use Rattle.newt_script.specs.Rows.{Reading, reading}
use Rattle.newt_script.specs.Verbs.{is_memory_word}
use Rattle.newt_script.specs.declared.fault.LineFault.{LineFault}
use Rattle.newt_script.specs.declared.fault.LineFault.TheVariants.{Refused}

-- a command, its refusal, or nothing
abbrev pub line_answer : Option Item → Result (Option Command) LineFault
line_answer None = Ok None
line_answer (Some (Ok command)) = Ok (Some command)
line_answer (Some (Err refusal)) = Err (Refused refusal)

-- What a line says, without the byte 10 at its end: a command, or the refusal of its reading, or
-- nothing. One byte 13 at its end is dropped.
unfoldable pub line_command : List ℕ → Result (Option Command) LineFault
line_command bytes = line_answer (option_map (item_of readers) (parsed (without_return bytes)))

-- what a line says that is neither blank nor a `%` line
unfoldable pub spoken : List ℕ → Reading
spoken line = reading (within_length (nat_lt 140_000 (length line)) line)

-- Whether a line may take memory: it is not too long, and its first word is that of a command which
-- holds a name, a path, a list, a graph or bytes. A blank line and a `%` line have no such word.
unfoldable pub takes_memory : List ℕ → Bool
takes_memory line = not (nat_lt 140_000 (length line)) && is_memory_word (first_word line).0
