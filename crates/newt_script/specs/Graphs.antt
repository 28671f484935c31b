-- The graphs and bytes in a line, as the code reads them: HEX, an object stream or bytes in
-- hexadecimal digits, and LIT, a literal.
use Rattle.std.specs.Prelude.{ℕ, ◌==◌, List, length, Option, Some, None, Result, Ok, Err}
use Rattle.std.specs.Prelude.{if◌then◌else◌}
use Rattle.std.specs.Str.{chars, is_utf8}
use Rattle.newt_base.specs.Text.{hex_bytes}
use Rattle.newt_base.specs.declared.Refusal.{Refusal}
use Rattle.newt_base.specs.declared.Refusal.TheVariants as refusals
use Rattle.newt_graph.specs.Graph.{RawGraph}
use Rattle.newt_lit_read.specs.Literal.{literal_read}
use Rattle.newt_lit_read.specs.declared.fault.LitFault.{LitFault}
use Rattle.newt_lit_read.specs.declared.fault.LitFault.TheVariants as lit_faults
use Rattle.newt_nsof_read.specs.Reading.{decoded}
use Rattle.newt_nsof_read.specs.declared.fault.NsofFault.{NsofFault}
use Rattle.newt_nsof_read.specs.declared.fault.NsofFault.TheVariants as nsof_faults
use Rattle.newt_spec_script.specs.Script.{Readers}
use Rattle.newt_script.specs.declared.fault.LineFault.{LineFault}
use Rattle.newt_script.specs.declared.fault.LineFault.TheVariants.{Refused}

-- the graph of a literal in bytes; bytes that are not UTF-8 are no literal
unfoldable pub literal_of : List ℕ → Result RawGraph LitFault
literal_of bytes = if is_utf8 bytes then literal_read (chars bytes) else Err lit_faults.Literal

-- the graph, where there is one
abbrev pub if_read : Result RawGraph LitFault → Option RawGraph
if_read (Ok graph) = Some graph
if_read (Err fault) = None

-- the graph of a stream, or its refusal; out of memory is never among the answers
abbrev pub or_refused : Result RawGraph NsofFault → Result RawGraph Refusal
or_refused (Ok graph) = Ok graph
or_refused (Err nsof_faults.Malformed) = Err refusals.Malformed
or_refused (Err nsof_faults.Compressed) = Err refusals.Compressed
or_refused (Err nsof_faults.Memory) = Err refusals.Malformed

-- the graph of a stream
unfoldable pub stream_of : List ℕ → Result RawGraph Refusal
stream_of bytes = or_refused (decoded bytes)

-- the graph of a literal
unfoldable pub literal_in : List ℕ → Option RawGraph
literal_in bytes = if_read (literal_of bytes)

-- the readings of literals and of object streams that the code has
abbrev pub readers : Readers
readers = record { literal_of = literal_in; stream_of = stream_of }

-- ---- as the code answers them

-- a graph, or its refusal as the fault of a line
abbrev pub or_fault : Result RawGraph Refusal → Result RawGraph LineFault
or_fault (Ok graph) = Ok graph
or_fault (Err refusal) = Err (Refused refusal)

-- the graph of the stream in bytes that digits spell; malformed where they spell none
abbrev pub digits_answer : Option (List ℕ) → Result RawGraph LineFault
digits_answer None = Err (Refused refusals.Malformed)
digits_answer (Some bytes) = or_fault (stream_of bytes)

-- the graph of HEX; malformed where the digits are no digits, or not even in number
unfoldable pub stream_word : List ℕ → Result RawGraph LineFault
stream_word digits = digits_answer (hex_bytes digits)

-- the bytes that digits spell; malformed where they spell none
abbrev pub bytes_answer : Option (List ℕ) → Result (List ℕ) LineFault
bytes_answer None = Err (Refused refusals.Malformed)
bytes_answer (Some bytes) = Ok bytes

-- the bytes of HEX; malformed where the digits are no digits, or not even in number
unfoldable pub bytes_word : List ℕ → Result (List ℕ) LineFault
bytes_word digits = bytes_answer (hex_bytes digits)

-- the graph of a literal, if there is one
abbrev pub literal_answer : Option RawGraph → Result RawGraph LineFault
literal_answer None = Err (Refused refusals.Literal)
literal_answer (Some graph) = Ok graph

-- the graph of LIT; an empty LIT does not have the form of a row
unfoldable pub literal_word : List ℕ → Result RawGraph LineFault
literal_word text =
    if length text == 0 then Err (Refused refusals.Line) else literal_answer (literal_in text)
