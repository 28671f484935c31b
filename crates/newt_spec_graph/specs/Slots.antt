-- Frames by the names of their slots, and paths through them. That a path is a list of symbols is
-- Newton's (Newton Programmer's Guide 2.0). Which symbols keep their spelling, and that a path
-- takes no step from an array, is this project's own.
use Rattle.std.specs.Prelude.{ℕ, ◌+◌, Bool, false, ◌==◌, List, [], ◌∷◌, ◌++◌, map, length, Option, Some, None, is_none, option_map, option_and_then, unwrap_or, slice_set, filter}
use Rattle.std.specs.Prelude.{slice_get}
use Rattle.std.specs.List.{position, position_or_len, enumerate_from, last_or}
use Rattle.newt_base.specs.Names.{same_name}
use Rattle.newt_graph.specs.declared.node.Ref.{Ref}
use Rattle.newt_graph.specs.declared.node.Ref.TheVariants.{Imm, Node as At}
use Rattle.newt_graph.specs.declared.node.Node.{Node}
use Rattle.newt_graph.specs.declared.node.Node.TheVariants.{Symbol, Frame}
use Rattle.newt_graph.specs.Graph.{RawGraph}
use Rattle.newt_spec_graph.specs.Graph.{change_nth, object}
use Rattle.newt_graph.specs.Raw.{renamed, renamed_ref}
use Rattle.newt_graph.specs.Import.{known_as}

-- there is a node, and it is a symbol of this name but for the case of its letters (Newton Formats
-- 1.1, symbols)
abbrev pub is_named : List ℕ → Option Node → Bool
is_named name (Some (Symbol other)) = same_name name other
is_named name _ = false

-- the number of the symbol of this name (a word of these definitions)
abbrev pub symbol_number : List Node → List ℕ → Option ℕ
symbol_number nodes name = position (λ node. is_named name (Some node)) nodes

-- which slot of a frame has this name, by the frame's tags (Newton Formats 1.1, frames)
abbrev pub slot_number : List Node → List ℕ → List ℕ → Option ℕ
slot_number nodes name tags = position (λ t. is_named name (slice_get nodes t)) tags

-- the value of the slot of this name; none where there is no such slot or no frame (Newton Formats
-- 1.1, frames)
abbrev pub slot_value : List Node → List ℕ → Option Node → Option Ref
slot_value nodes name (Some (Frame tags values)) = option_and_then (slice_get values) (slot_number nodes name tags)
slot_value nodes name _ = None

-- ---- the value that a path reaches

-- The value that is reached slot by slot. None where a step is not taken from a frame, or a slot is
-- missing. (Newton Programmer's Guide 2.0, paths; that no step is taken from an array is this
-- project's own)
abbrev pub value_below : List Node → Ref → List (List ℕ) → Option Ref
value_below nodes value [] = Some value
value_below nodes value (name ∷ path) =
    option_and_then (λ v. value_below nodes v path) (slot_value nodes name (object nodes value))

-- the value that a path reaches from the root (Newton Programmer's Guide 2.0, paths)
abbrev pub value_at : RawGraph → List (List ℕ) → Option Ref
value_at g path = value_below g.nodes g.root path

-- ---- a change at a path

-- the nodes that the list so far lacks, with their numbers (a word of these definitions)
abbrev pub new_nodes : List Node → List Node → List (ℕ × Node)
new_nodes so_far nodes = filter (λ k. is_none (known_as so_far k.1)) (enumerate_from 0 nodes)

-- where node k goes: to the earlier symbol, or after the list so far (this project's own)
abbrev pub goes_to : List Node → List Node → ℕ → ℕ
goes_to so_far nodes k =
    unwrap_or (option_and_then (known_as so_far) (slice_get nodes k))
    (length so_far + position_or_len (λ m. m.0 == k) (new_nodes so_far nodes))

-- the slot of this tag with a value, where it stands or as a new last slot (this project's own)
abbrev pub with_slot : Option ℕ → ℕ → Ref → List ℕ → List Ref → Node
with_slot None tag value tags values = Frame (tags ++ tag ∷ []) (values ++ value ∷ [])
with_slot (Some i) tag value tags values = Frame tags (slice_set values i value)

-- a frame with this value in its slot of this name: where the slot stands, or else as a new last
-- slot (this project's own)
abbrev pub set_slot : List Node → List ℕ → Ref → Node → Node
set_slot nodes name value (Frame tags values) =
    with_slot (slot_number nodes name tags) (unwrap_or (symbol_number nodes name) 0) value tags values
set_slot nodes name value node = node

-- the number of the frame that a value is (a word of these definitions)
abbrev pub frame_number : List Node → Ref → Option ℕ
frame_number nodes (Imm _) = None
frame_number nodes (At n) = elim (slice_get nodes n) [ Some (Frame _ _) ↦ Some n | _ ↦ None ]

-- a list without its last element (a word of these definitions)
abbrev pub but_last : {X : Type 0} → List X → List X
but_last [] = []
but_last (x ∷ []) = []
but_last (x ∷ y ∷ xs) = x ∷ but_last (y ∷ xs)

-- The graph with a value in a slot of this frame. Its nodes are those of the graph, the symbol of
-- the slot, and those of the value, in this order. A symbol that is there already is left out. What
-- the root no longer reaches is still there. (this project's own)
abbrev pub put_into : RawGraph → List ℕ → RawGraph → ℕ → RawGraph
put_into g name value frame =
    let named = g.nodes ++ map (λ k. k.1) (new_nodes g.nodes (Symbol name ∷ [])) in
    let to = goes_to named value.nodes in
    let nodes = named ++ map (λ k. renamed to k.1) (new_nodes named value.nodes) in
    record { nodes = change_nth frame (set_slot nodes name (renamed_ref to value.root)) nodes; root = g.root }

-- The graph with a value at a path. None where a slot before the last is missing, or a step is not
-- taken from a frame. (Newton Programmer's Guide 2.0, paths; what is refused is this project's own)
abbrev pub put : RawGraph → List (List ℕ) → RawGraph → Option RawGraph
put g path value =
    option_and_then (λ name. option_map (put_into g name value)
    (option_and_then (frame_number g.nodes) (value_at g (but_last path))))
    (last_or None path)
