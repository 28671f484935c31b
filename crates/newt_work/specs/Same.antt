-- Whether two graphs are the same: a test, node by node.
use Rattle.std.specs.Prelude.{Bool, false, ◌==◌, ◌&&◌, nat_eq, bytes_eq, List, length}
use Rattle.std.specs.List.{list_all, zip}
use Rattle.std.specs.Option.{option_eq}
use Rattle.std.specs.Ordering.{int_eq}
use Rattle.newt_graph.specs.declared.node.Ref.{Ref}
use Rattle.newt_graph.specs.declared.node.Ref.TheVariants.{Imm, Node as At}
use Rattle.newt_graph.specs.declared.node.Node.{Node}
use Rattle.newt_graph.specs.declared.node.Node.TheVariants.{Symbol, Str, Binary, Large}
use Rattle.newt_graph.specs.declared.node.Node.TheVariants.{Array, Frame}
use Rattle.newt_graph.specs.Graph.{RawGraph}

-- two values are the same (a word of these definitions)
abbrev pub same_ref : Ref → Ref → Bool
same_ref (Imm v) (Imm w) = int_eq v w
same_ref (At m) (At n) = m == n
same_ref _ _ = false

-- two lists of values are the same (a word of these definitions)
abbrev pub same_refs : List Ref → List Ref → Bool
same_refs vs ws = (length vs == length ws) && list_all (λ p. same_ref p.0 p.1) (zip vs ws)

-- two nodes are the same (a word of these definitions)
abbrev pub same_node : Node → Node → Bool
same_node (Symbol x) (Symbol y) = bytes_eq x y
same_node (Str x) (Str y) = bytes_eq x y
same_node (Binary c x) (Binary d y) = (c == d) && bytes_eq x y
same_node (Large c x) (Large d y) = (c == d) && bytes_eq x y
same_node (Array c x) (Array d y) = option_eq nat_eq c d && same_refs x y
same_node (Frame s x) (Frame t y) = bytes_eq s t && same_refs x y
same_node _ _ = false

-- two lists of nodes are the same (a word of these definitions)
abbrev pub same_nodes : List Node → List Node → Bool
same_nodes ms ns = (length ms == length ns) && list_all (λ p. same_node p.0 p.1) (zip ms ns)

-- two graphs are the same (a word of these definitions)
abbrev pub same_graph : RawGraph → RawGraph → Bool
same_graph g h = same_ref g.root h.root && same_nodes g.nodes h.nodes
