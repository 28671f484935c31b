-- The large binaries of a graph (Newton Programmer's Guide 2.0, virtual binary objects).
use Rattle.std.specs.Prelude.{ℕ, List, [], slice_get, Option, Some, None, option_and_then}
use Rattle.newt_graph.specs.declared.node.Node.{Node}
use Rattle.newt_graph.specs.declared.node.Node.TheVariants.{Large}
use Rattle.newt_graph.specs.declared.node.Ref.TheVariants.{Node as At}
use Rattle.newt_graph.specs.Graph.{RawGraph}
use Rattle.newt_spec_graph.specs.Slots.{value_at}

-- the number of the large binary at a path, if the path reaches one (a word of these definitions)
abbrev pub large_at : RawGraph → List (List ℕ) → Option ℕ
large_at g path = elim (value_at g path) [
  | Some (At n) ↦ elim (slice_get g.nodes n) [ Some (Large _ _) ↦ Some n | _ ↦ None ]
  | _ ↦ None
]

-- the bytes of a large binary (a word of these definitions)
abbrev pub bytes_of_large : Option Node → List ℕ
bytes_of_large (Some (Large _ bytes)) = bytes
bytes_of_large _ = []

-- the bytes of the large binary at a path (a word of these definitions)
abbrev pub large_bytes : RawGraph → List (List ℕ) → List ℕ
large_bytes g path = bytes_of_large (option_and_then (slice_get g.nodes) (large_at g path))
