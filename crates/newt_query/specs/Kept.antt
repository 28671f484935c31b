-- What a query keeps of an entry.
use Rattle.std.specs.Prelude.{◌&&◌, Option, Some, None, option_and_then, cond}
use Rattle.newt_graph.specs.Graph.{RawGraph}
use Rattle.newt_spec_store.specs.Keys.{Key, key}
use Rattle.newt_spec_store.specs.Store.{TagTable}
use Rattle.newt_spec_query.specs.Spec.{Spec}
use Rattle.newt_spec_query.specs.Hits.{passes}
use Rattle.newt_query.specs.Filter.{in_range}

-- the key of the graph, where it is in the range of the query and the entry passes (a word of these
-- definitions)
abbrev pub if_kept : Spec → Option TagTable → RawGraph → Key → Option Key
if_kept q table g k = cond (in_range q k && passes q table g) (Some k) None

-- the key with which an entry of this graph is a hit, in a soup of this tags declaration (Newton
-- Programmer's Guide 2.0, queries)
abbrev pub kept_key : Spec → Option TagTable → RawGraph → Option Key
kept_key q table g = option_and_then (if_kept q table g) (key g q.index)
