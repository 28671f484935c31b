-- How nodes are gone through, one after another, for their large binaries.
use Rattle.std.specs.Prelude.{ℕ, ◌<◌, List, [], ◌∷◌, length, All, Option, Some, None}
use Rattle.newt_graph.specs.declared.node.Node.{Node}
use Rattle.newt_graph.specs.declared.node.Node.TheVariants.{Large}

-- the bytes of a large binary; none of another node
abbrev pub bytes_in : Node → List (List ℕ)
bytes_in (Large _ bytes) = bytes ∷ []
bytes_in _ = []

-- how many bytes a large binary has; none of another node
abbrev pub length_in : Node → Option ℕ
length_in (Large _ bytes) = Some (length bytes)
length_in _ = None

-- the next of these bytes, or none, and those that are left
abbrev pub next_of : List (List ℕ) → List ℕ × List (List ℕ)
next_of [] = ([], [])
next_of (bytes ∷ left) = (bytes, left)

-- a node with the next of these bytes, if it is a large binary, and those that are left
abbrev pub put_node : Node → List (List ℕ) → Node × List (List ℕ)
put_node (Large class _) left = (Large class (next_of left).0, (next_of left).1)
put_node node left = (node, left)

-- the nodes with these bytes in their large binaries, in order
abbrev pub put_in : List Node → List (List ℕ) → List Node
put_in [] left = []
put_in (node ∷ nodes) left = (put_node node left).0 ∷ put_in nodes (put_node node left).1

-- the bytes of a large binary are bytes
abbrev pub HasBytes : Node → Type 0
HasBytes (Large _ bytes) = All (λ b. b < 256) bytes
HasBytes _ = Unit {0}
