-- The nodes of a builder: a graph that is still being put together.
use Rattle.std.specs.Prelude.{◌≡◌, ◌≢◌, ℕ, ◌+◌, ◌*◌, ◌<◌, ◌≤◌, Bool, true, false, ◌&&◌, nat_lt, nat_le, List, [], ◌∷◌, ◌++◌, length, All, AllPairs, Option, Some, None, if◌then◌else◌, slice_get, set}
use Rattle.std.specs.List.{position_from, sum_by}
use Rattle.std.specs.Str.{str_eq_ignore_ascii_case}
use Rattle.newt_graph.specs.declared.node.Node.{Node}
use Rattle.newt_graph.specs.declared.node.Node.TheVariants.{Symbol, Str, Binary, Large, Array, Frame}
use Rattle.newt_graph.specs.declared.node.Ref.{Ref}
use Rattle.newt_graph.specs.Limits.{most_slots, most_data, most_held, most_held_bytes}
use Rattle.newt_graph.specs.Graph.{IsName, IsText, IsData, IsSymbol, AreFoldedOnce, payload}
use Rattle.newt_graph.specs.Raw.{labels_of, values_of, IsValue}
use Rattle.newt_graph.specs.Meeting.{place}
use Rattle.newt_graph.specs.Steps.{◌>>=◌}

-- the rules of a node that can be seen in the node alone
abbrev pub IsPart : Node → Type 0
IsPart (Symbol name) = IsName name
IsPart (Str units) = IsText units
IsPart (Binary class bytes) = IsData bytes
IsPart (Large class bytes) = IsData bytes
IsPart (Array class values) = length values ≤ most_slots
IsPart (Frame tags values) = (length tags ≤ most_slots) × (length values ≡ length tags)

-- What a builder holds: nodes within its limits, each by its own rules, no two symbols alike but
-- for ASCII case.
pub record IsDraft (nodes : List Node) : Type 0 where
  pub few : length nodes ≤ most_held
  pub light : sum_by payload nodes ≤ most_held_bytes
  pub each : All IsPart nodes
  pub folded_once : AreFoldedOnce nodes

-- The rules of a node among others: its class and tags are symbols, no tag stands twice, and each
-- value is a word or one of the nodes.
pub record IsJoinedNode (nodes : List Node) (node : Node) : Type 0 where
  pub labels : All (IsSymbol nodes) (labels_of node)
  pub distinct : AllPairs (λ a b. a ≢ b) (labels_of node)
  pub values : All (IsValue (length nodes)) (values_of node)

-- each value is a word or one of the nodes, and each class and tag is a symbol
pub record IsJoined (nodes : List Node) (root : Ref) : Type 0 where
  pub root_in : IsValue (length nodes) root
  pub each : All (IsJoinedNode nodes) nodes

-- a node that may be put in the place of another, but for its size
abbrev pub IsFilling : Node → Type 0
IsFilling (Symbol name) = ⊥
IsFilling (Str units) = All (λ u. u < 65536) units
IsFilling (Binary class bytes) = All (λ b. b < 256) bytes
IsFilling (Large class bytes) = All (λ b. b < 256) bytes
IsFilling (Array class values) = Unit {0}
IsFilling (Frame tags values) = length values ≡ length tags

-- the slots of an array or a frame, and the bytes of a string, a binary or a large binary, are
-- within the limits (this project's own)
abbrev pub is_small : Node → Bool
is_small (Symbol name) = true
is_small (Str units) = nat_le (2 * length units + 2) most_data
is_small (Binary class bytes) = nat_le (length bytes) most_data
is_small (Large class bytes) = nat_le (length bytes) most_data
is_small (Array class values) = nat_le (length values) most_slots
is_small (Frame tags values) = nat_le (length tags) most_slots

-- a symbol of this name but for ASCII case
abbrev pub is_alike : List ℕ → Node → Bool
is_alike name (Symbol old) = str_eq_ignore_ascii_case old name
is_alike name _ = false

-- the first symbol of this name but for ASCII case
unfoldable pub find_alike : List ℕ → List Node → Option ℕ
find_alike name nodes = position_from (is_alike name) 0 nodes

-- What a call gives: its answer and the nodes after it; none where a limit would be passed. This
-- one adds a new last node and answers its number.
abbrev pub pushed : List Node → Node → Option (ℕ × List Node)
pushed nodes node = if nat_lt (length nodes) most_held then Some (length nodes, nodes ++ node ∷ []) else None

-- the number that a symbol has already, or else that of a new node
abbrev pub known : List Node → List ℕ → Option ℕ → Option (ℕ × List Node)
known nodes name (Some k) = Some (k, nodes)
known nodes name None = pushed nodes (Symbol name)

-- the symbol of this name: the first that is alike but for ASCII case, or else a new node
unfoldable pub with_symbol : List Node → List ℕ → Option (ℕ × List Node)
with_symbol nodes name = known nodes name (find_alike name nodes)

-- a new node that is to be filled later; until then it is an empty array
unfoldable pub with_held : List Node → Option (ℕ × List Node)
with_held nodes = pushed nodes (Array None [])

-- this node in the place of node n, where it is small and all bytes are within the limit together
unfoldable pub with_filled : List Node → ℕ → Node → Option (List Node)
with_filled nodes n node = if is_small node && nat_le (sum_by payload (set nodes n node)) most_held_bytes then Some (set nodes n node) else None

-- The frame with this value in the slot of this tag: where the slot stands, or in a new last one.
-- None where it would have too many slots.
abbrev pub slot_put : List ℕ → List Ref → ℕ → Ref → Option ℕ → Option Node
slot_put tags values tag value (Some i) = Some (Frame tags (set values i value))
slot_put tags values tag value None = if nat_lt (length tags) most_slots then Some (Frame (tags ++ tag ∷ []) (values ++ value ∷ [])) else None

-- the same, by the place of the tag among the frame's tags
unfoldable pub with_slot : List ℕ → List Ref → ℕ → Ref → Option Node
with_slot tags values tag value = slot_put tags values tag value (place tags tag)

-- the nodes with this value in a slot of the frame n; another node stays as it is
abbrev pub frame_set : List Node → ℕ → ℕ → Ref → Option Node → Option (List Node)
frame_set nodes n tag value (Some (Frame tags values)) = with_slot tags values tag value >>= λ node. Some (set nodes n node)
frame_set nodes n tag value _ = Some nodes

-- the same, for the node n, whatever it is
unfoldable pub with_set : List Node → ℕ → ℕ → Ref → Option (List Node)
with_set nodes n tag value = frame_set nodes n tag value (slice_get nodes n)
