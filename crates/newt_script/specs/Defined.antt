-- What the bytes of a literal are by the grammar of literals, and by no reader of it.
use Rattle.std.specs.Prelude.{ℕ, List}
use Rattle.std.specs.Str.{IsUtf8, chars}
use Rattle.newt_graph.specs.Graph.{RawGraph}
use Rattle.newt_spec_literal.specs.Grammar.{Reads}

-- bytes are a literal of a graph: the UTF-8 of a text that is one (this project's own)
abbrev pub ReadsLiteral : List ℕ → RawGraph → Type 0
ReadsLiteral bytes g = IsUtf8 bytes × Reads (chars bytes) g
