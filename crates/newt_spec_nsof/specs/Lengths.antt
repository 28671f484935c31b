-- How long a flat text is, from one pass over the nodes: in normal form each node is written in
-- full once.
use Rattle.std.specs.Prelude.{ℕ, zero, suc, ◌+◌, ◌*◌, [], length, map, Option, Some, None, nat_lt}
use Rattle.std.specs.Prelude.{if◌then◌else◌}
use Rattle.std.specs.List.{sum_by}
use Rattle.newt_graph.specs.declared.node.Node.{Node}
use Rattle.newt_graph.specs.declared.node.Node.TheVariants.{Symbol, Str, Binary, Large, Array}
use Rattle.newt_graph.specs.declared.node.Node.TheVariants.{Frame}
use Rattle.newt_graph.specs.declared.node.Ref.{Ref}
use Rattle.newt_graph.specs.declared.node.Ref.TheVariants as refs
use Rattle.newt_graph.specs.Graph.{RawGraph}
use Rattle.newt_spec_nsof.specs.Flat.{word_text}

-- ---- skeletons

-- a node without the bytes of a large binary
abbrev pub bare : Node → Node
bare (Symbol name) = Symbol name
bare (Str units) = Str units
bare (Binary class bytes) = Binary class bytes
bare (Large class bytes) = Large class []
bare (Array class values) = Array class values
bare (Frame tags values) = Frame tags values

-- a graph in which each large binary is empty
abbrev pub skeleton : RawGraph → RawGraph
skeleton g = record { nodes = map bare g.nodes; root = g.root }

-- how many bytes a large binary has; another node has none
abbrev pub large_len : Node → ℕ
large_len (Large class bytes) = length bytes
large_len _ = 0

-- ---- lengths

-- the length of a number that is not negative, in its shortest form
abbrev pub count_len : ℕ → ℕ
count_len n = if nat_lt n 255 then 1 else 5

-- the length of a node that was met before
abbrev pub again_len : ℕ → ℕ
again_len k = 1 + count_len k

-- the length of a value, where a node was met before
abbrev pub ref_len : Ref → ℕ
ref_len (refs.Imm w) = length (word_text w)
ref_len (refs.Node k) = again_len k

-- the length of an array's class
abbrev pub class_len : Option ℕ → ℕ
class_len None = 0
class_len (Some class) = again_len class

-- the length of a node in full, where all that it refers to was met before
abbrev pub node_len : Node → ℕ
node_len (Symbol name) = 1 + count_len (length name) + length name
node_len (Str units) = 1 + count_len (2 * length units + 2) + (2 * length units + 2)
node_len (Binary class bytes) = 1 + count_len (length bytes) + again_len class + length bytes
node_len (Large class bytes) = 18 + again_len class + length bytes
node_len (Array class values) =
    1 + count_len (length values) + class_len class + sum_by ref_len values
node_len (Frame tags values) =
    1 + count_len (length tags) + sum_by again_len tags + sum_by ref_len values

-- the length of the first n nodes, each of them as one that was met before
unfoldable pub agains_len : ℕ → ℕ
agains_len zero = 0
agains_len (suc n) = agains_len n + again_len n
