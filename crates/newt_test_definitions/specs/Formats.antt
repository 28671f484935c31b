-- Streams and literals, read and shown.
use Rattle.std.specs.Prelude.{ℕ, Bool, true, false, not, List, filter, flat_map, replicate, codes}
use Rattle.std.specs.Prelude.{Some, None, Result, Ok, Err}
use Rattle.newt_base.specs.Text.{hex_text, hex_bytes}
use Rattle.newt_graph.specs.Graph.{RawGraph}
use Rattle.newt_spec_literal.specs.Printed.{literal}
use Rattle.newt_lit_read.specs.Literal.{literal_read}
use Rattle.newt_spec_nsof.specs.Written.{nsof}
use Rattle.newt_nsof_read.specs.Reading.{decoded}
use Rattle.newt_nsof_read.specs.declared.fault.NsofFault.{NsofFault}
use Rattle.newt_nsof_read.specs.declared.fault.NsofFault.TheVariants.{Malformed, Compressed, Memory}

-- the literal of a graph that was read, or why none was
abbrev pub told : Result RawGraph NsofFault → List ℕ
told (Ok g) = literal g
told (Err Malformed) = codes "malformed"
told (Err Compressed) = codes "compressed"
told (Err Memory) = codes "memory"

-- the literal of the stream that these digits write, or why there is none
abbrev pub shown : List ℕ → List ℕ
shown digits = elim (hex_bytes digits) [ Some bytes ↦ told (decoded bytes) | None ↦ codes "odd" ]

-- the stream is malformed
abbrev pub is_malformed : Result RawGraph NsofFault → Bool
is_malformed (Err Malformed) = true
is_malformed _ = false

-- those of these digits that write a stream which is not malformed
abbrev pub streams_among : List (List ℕ) → List (List ℕ)
streams_among =
    filter (λ digits. elim (hex_bytes digits)
    [ Some bytes ↦ not (is_malformed (decoded bytes)) | None ↦ true ])

-- the digits of the written text of a literal
abbrev pub streamed : List ℕ → List ℕ
streamed text =
    elim (literal_read text) [ Ok g ↦ hex_text (nsof g) | Err fault ↦ codes "no literal" ]

-- a text of what was read, in digits
abbrev pub in_text : (RawGraph → List ℕ) → Result RawGraph NsofFault → List ℕ
in_text text (Ok g) = hex_text (text g)
in_text text (Err fault) = codes "no stream"

-- the digits of this text of the graph whose stream these digits write
abbrev pub rewritten : (RawGraph → List ℕ) → List ℕ → List ℕ
rewritten text digits =
    elim (hex_bytes digits) [ Some bytes ↦ in_text text (decoded bytes) | None ↦ codes "odd" ]

-- a literal as it is printed
abbrev pub printed : List ℕ → List ℕ
printed text = elim (literal_read text) [ Ok g ↦ literal g | Err fault ↦ codes "no literal" ]

-- the text is a literal
abbrev pub is_literal : List ℕ → Bool
is_literal text = elim (literal_read text) [ Ok g ↦ true | Err fault ↦ false ]

-- those of these texts that are literals
abbrev pub literals_among : List (List ℕ) → List (List ℕ)
literals_among = filter is_literal

-- so many times a text, one after another
abbrev pub repeated : ℕ → List ℕ → List ℕ
repeated n text = flat_map (λ part. part) (replicate n text)
