-- What a literal reads as.
use Rattle.std.specs.Prelude.{ℕ, List, Option, Some, None, Result, Ok, Err}
use Rattle.newt_graph.specs.declared.node.Ref.{Ref}
use Rattle.newt_graph.specs.Graph.{RawGraph}
use Rattle.newt_graph.specs.Meeting.{normal_form}
use Rattle.newt_graph.specs.Steps.{◌>>=◌}
use Rattle.newt_spec_literal.specs.Built.{Built}
use Rattle.newt_lit_read.specs.declared.fault.LitFault.{LitFault}
use Rattle.newt_lit_read.specs.declared.fault.LitFault.TheVariants.{Literal}
use Rattle.newt_lit_read.specs.Reading.{draft_at}

-- the graph of what was written down; none where it would pass a limit
abbrev pub graph_of : Ref × Built → Option RawGraph
graph_of found = normal_form (record { nodes = found.1.nodes; root = found.0 })

-- the graph, or else `Literal`
abbrev pub or_literal : Option RawGraph → Result RawGraph LitFault
or_literal None = Err Literal
or_literal (Some g) = Ok g

-- the graph that a text is a literal of, or none
abbrev pub graph_read : List ℕ → Option RawGraph
graph_read text = draft_at text >>= graph_of

-- the graph that a text is a literal of, or else `Literal`
unfoldable pub literal_read : List ℕ → Result RawGraph LitFault
literal_read text = or_literal (graph_read text)
