-- What the rows of the table of commands read, under a name that stays closed in proofs.
use Rattle.std.specs.Prelude.{ℕ, List, Result, Ok, Err}
use Rattle.newt_spec_world.specs.declared.command.Command.{Command}
use Rattle.newt_spec_script.specs.Line.{Parsed, row_of}
use Rattle.newt_spec_script.specs.Script.{Item, item_of}
use Rattle.newt_script.specs.Graphs.{readers}
use Rattle.newt_script.specs.declared.fault.LineFault.{LineFault}
use Rattle.newt_script.specs.declared.fault.LineFault.TheVariants.{Refused}

-- a command, or why there is none
abbrev pub Reading : Type 0
Reading = Result Command LineFault

-- an item as the code answers it
abbrev pub as_read : Item → Reading
as_read (Ok command) = Ok command
as_read (Err refusal) = Err (Refused refusal)

-- what is read of a line's words
abbrev pub reading : Parsed → Reading
reading p = as_read (item_of readers p)

-- what the row of a word reads
unfoldable pub row_reading : List ℕ → List ℕ → Reading
row_reading word rest = reading (row_of word rest)
