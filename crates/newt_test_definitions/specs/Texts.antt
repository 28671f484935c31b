-- Values, changes and queries of graphs that literals write down.
use Rattle.std.specs.Prelude.{ℕ, Bool, false, not, List, filter, codes, Option, Some, None}
use Rattle.std.specs.Prelude.{option_map, option_and_then}
use Rattle.newt_graph.specs.Graph.{RawGraph}
use Rattle.newt_graph.specs.Meeting.{normal_form}
use Rattle.newt_spec_literal.specs.Printed.{literal}
use Rattle.newt_lit_read.specs.Literal.{literal_read}
use Rattle.newt_spec_graph.specs.Slots.{value_at, put}
use Rattle.newt_spec_store.specs.Keys.{IndexSpec, Key, key}
use Rattle.newt_spec_query.specs.Spec.{is_query, key_value}
use Rattle.newt_script.specs.Graphs.{if_read}

-- the graph of a literal
abbrev pub graph_of : List ℕ → Option RawGraph
graph_of text = if_read (literal_read text)

-- a graph as it is printed, or that there is none
abbrev pub text_of : Option RawGraph → List ℕ
text_of None = codes "none"
text_of (Some g) = elim (normal_form g) [ Some h ↦ literal h | None ↦ codes "limit" ]

-- the value that a path reaches
abbrev pub reached : List ℕ × List (List ℕ) → List ℕ
reached (text, path) =
    text_of (option_and_then (λ g. option_map (λ r. record { nodes = g.nodes; root = r })
    (value_at g path)) (graph_of text))

-- what becomes of a graph when a value is put where a path leads
abbrev pub changed : List ℕ × List (List ℕ) × List ℕ → List ℕ
changed (text, path, value) =
    text_of (option_and_then (λ g. option_and_then (λ v. put g path v) (graph_of value))
    (graph_of text))

-- the text is a literal that has the form of a query
abbrev pub has_query_form : List ℕ → Bool
has_query_form text = elim (graph_of text) [ Some g ↦ is_query g | None ↦ false ]

-- those of these texts that have the form of a query
abbrev pub queries_among : List (List ℕ) → List (List ℕ)
queries_among = filter has_query_form

-- those of these texts that do not have it
abbrev pub others_among : List (List ℕ) → List (List ℕ)
others_among = filter (λ text. not (has_query_form text))

-- the key that a literal is for an index
abbrev pub key_from : IndexSpec → List ℕ → Option Key
key_from index text = option_and_then (λ g. key_value g.nodes index g.root) (graph_of text)

-- the key of an entry that a literal writes down
abbrev pub key_of : IndexSpec → List ℕ → Option Key
key_of index text = option_and_then (λ g. key g index) (graph_of text)
