-- What a query keeps, by what is at hand of an entry: its key, its mask and, where words or texts
-- are asked for, its graph.
use Rattle.std.specs.Prelude.{◌≡◌, ℕ, Bool, true, ◌&&◌, ◌||◌, nat_lt, List, length, Option, Some, None, MatchOption, pos}
use Rattle.newt_graph.specs.declared.node.Node.{Node}
use Rattle.newt_graph.specs.declared.node.Ref.TheVariants.{Imm}
use Rattle.newt_graph.specs.Graph.{RawGraph}
use Rattle.newt_spec_store.specs.Keys.{Key}
use Rattle.newt_spec_store.specs.Store.{TagTable}
use Rattle.newt_spec_query.specs.Tags.{tags_pass}
use Rattle.newt_spec_query.specs.Spec.{Spec}
use Rattle.newt_spec_query.specs.Hits.{above, below, strings, text_passes}
use Rattle.newt_tags.specs.Masks.{mask_of, tags_by}

-- every string among the nodes, folded whole (Newton Programmer's Guide 2.0, query specs; the
-- folding is this project's own)
abbrev pub strings_in : List Node → List (List ℕ)
strings_in nodes = strings (record { nodes = nodes; root = Imm (pos 2) })

-- the key is in the range of the query (Newton Programmer's Guide 2.0, query specs)
abbrev pub in_range : Spec → Key → Bool
in_range q k = above q.index q.lower k && below q.index q.upper k

-- words or texts are asked for (this project's own)
abbrev pub asks_texts : Spec → Bool
asks_texts q = nat_lt 0 (length q.words) || nat_lt 0 (length q.texts)

-- each word and each text stands in at least one string of the graph at hand (this project's own)
abbrev pub texts_pass : Spec → Option RawGraph → Bool
texts_pass q None = true
texts_pass q (Some g) = text_passes q g

-- the key is in the range, and the tags that the mask means and the texts pass (this project's own)
abbrev pub passes_by : Spec → Key → Option TagTable → ℕ → Option RawGraph → Bool
passes_by q k table mask graph = in_range q k && tags_pass q.tags (tags_by table mask) && texts_pass q graph

-- the mask by the declaration, and the graph where it is at hand, are those of this graph (this
-- project's own)
pub record AreOf (table : Option TagTable) (bits : ℕ) (shown : Option RawGraph) (g : RawGraph) : Type 0 where
  pub mask : MatchOption table (Unit {0}) (λ t. bits ≡ mask_of t g)
  pub graph : MatchOption shown (Unit {0}) (λ h. h ≡ g)
