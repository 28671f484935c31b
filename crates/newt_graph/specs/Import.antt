-- A graph that is copied in after other nodes.
use Rattle.std.specs.Prelude.{ℕ, ◌+◌, ◌-◌, ◌&&◌, nat_le, List, [], ◌∷◌, ◌++◌, length, map, Option, Some, None, if◌then◌else◌, get_or}
use Rattle.std.specs.List.{sum_by}
use Rattle.newt_graph.specs.declared.node.Node.{Node}
use Rattle.newt_graph.specs.declared.node.Node.TheVariants.{Symbol, Str, Binary, Large, Array, Frame}
use Rattle.newt_graph.specs.declared.node.Ref.{Ref}
use Rattle.newt_graph.specs.Limits.{most_held, most_held_bytes}
use Rattle.newt_graph.specs.Graph.{RawGraph, payload}
use Rattle.newt_graph.specs.Raw.{renamed_ref, renamed}
use Rattle.newt_graph.specs.Draft.{find_alike}

-- the number of the old symbol that is alike; none where there is none, or the node is no symbol
abbrev pub known_as : List Node → Node → Option ℕ
known_as old (Symbol name) = find_alike name old
known_as old (Str units) = None
known_as old (Binary class bytes) = None
known_as old (Large class bytes) = None
known_as old (Array class values) = None
known_as old (Frame tags values) = None

-- The numbers that new nodes get, from n on. A symbol that an old one matches gets the number of
-- that one.
unfoldable pub numbers_from : List Node → ℕ → List Node → List ℕ
numbers_from old n [] = []
numbers_from old n (node ∷ nodes) = elim (known_as old node) [
  | Some k ↦ k ∷ numbers_from old n nodes
  | None ↦ n ∷ numbers_from old (n + 1) nodes
]

-- the new nodes, without the symbols that an old one matches
unfoldable pub kept_of : List Node → List Node → List Node
kept_of old [] = []
kept_of old (node ∷ nodes) = elim (known_as old node) [
  | Some k ↦ kept_of old nodes
  | None ↦ node ∷ kept_of old nodes
]

-- the number that the table has for k; 0 where it has none
abbrev pub looked_up : List ℕ → ℕ → ℕ
looked_up table k = get_or table k 0

-- this root and the old nodes with the added ones after them; none where a limit of a builder is
-- passed
abbrev pub after : List Node → List Node → Ref → Option (Ref × List Node)
after old added root = if nat_le (length (old ++ added)) most_held && nat_le (sum_by payload added) (most_held_bytes - sum_by payload old) then Some (root, old ++ added) else None

-- a graph after the old nodes, with the numbers of this table
abbrev pub after_by : List Node → RawGraph → List ℕ → Option (Ref × List Node)
after_by old g table = after old (map (renamed (looked_up table)) (kept_of old g.nodes)) (renamed_ref (looked_up table) g.root)

-- a graph copied in: its root there and all nodes; none where a limit of a builder is passed
unfoldable pub with_graph : List Node → RawGraph → Option (Ref × List Node)
with_graph old g = after_by old g (numbers_from old (length old) g.nodes)
