-- The one text that is written of a graph, in the rows of Newton Formats 1.1. It is the flat text,
-- but that a frame of four small sides is written by tag 11, without its tags. So not every node of
-- the text has a number, and the texts carry the list of those that have one. When a frame is
-- small, and that the list is so, is this project's own.
use Rattle.std.specs.Prelude.{ℕ, Bool, true, false, zero, suc, ◌/◌, ◌%◌, List, [], ◌∷◌}
use Rattle.std.specs.Prelude.{◌++◌, length, Option, Some, None, pos, slice_get, nat_lt, nat_eq}
use Rattle.std.specs.Prelude.{◌==◌, ◌&&◌, bytes_eq, position}
use Rattle.newt_graph.specs.declared.node.Node.{Node}
use Rattle.newt_graph.specs.declared.node.Node.TheVariants.{Symbol, Str, Binary, Large, Array}
use Rattle.newt_graph.specs.declared.node.Node.TheVariants.{Frame}
use Rattle.newt_graph.specs.declared.node.Ref.{Ref}
use Rattle.newt_graph.specs.declared.node.Ref.TheVariants as refs
use Rattle.newt_graph.specs.Draft.{is_alike}
use Rattle.newt_graph.specs.Limits.{most_open}
use Rattle.newt_graph.specs.Graph.{RawGraph}
use Rattle.newt_spec_nsof.specs.Text.{sides, large_text}
use Rattle.newt_spec_nsof.specs.Flat.{count_text, word_text, again_text, symbol_text, string_text}
use Rattle.newt_spec_nsof.specs.Flat.{each_text}

-- a text, and the nodes that have a number after it, in the order of their numbers
abbrev pub Text : Type 0
Text = List ℕ × List ℕ

-- the number of a node, if it has one
abbrev pub number_of : ℕ → List ℕ → Option ℕ
number_of k numbered = position (nat_eq k) numbered

-- a class or a tag in full, which takes a number
abbrev pub new_label : ℕ → Option Node → List ℕ → Text
new_label k (Some (Symbol name)) numbered = (symbol_text name, numbered ++ k ∷ [])
new_label k _ numbered = ([], numbered)

-- node k by its number where it has one, and else this text
abbrev pub numbered_or : Option ℕ → List ℕ → Text → Text
numbered_or (Some place) numbered full = (again_text place, numbered)
numbered_or None numbered full = full

-- a class or a tag: by its number where it has one, else in full
unfoldable pub label_text : List Node → ℕ → List ℕ → Text
label_text nodes k numbered =
    numbered_or (number_of k numbered) numbered (new_label k (slice_get nodes k) numbered)

-- ---- small frames

-- the byte of an integer from 0 to 255
abbrev pub side_byte : Ref → Option ℕ
side_byte (refs.Imm (pos w)) = elim (w % 4 == 0 && nat_lt w 1024) [
  | true ↦ Some (w / 4)
  | false ↦ None
]
side_byte value = None

-- The symbol is this side: however it is spelled where it is met before the frame, and else in
-- lower case.
abbrev pub is_spelled : Bool → List ℕ → Option Node → Bool
is_spelled true side (Some node) = is_alike side node
is_spelled false side (Some (Symbol name)) = bytes_eq name side
is_spelled met side other = false

-- the tags of frame node n are these sides, in order
abbrev pub are_sides : List Node → ℕ → List ℕ → List (List ℕ) → Bool
are_sides nodes n [] [] = true
are_sides nodes n (tag ∷ tags) (side ∷ rest) =
    is_spelled (nat_lt tag n) side (slice_get nodes tag) && are_sides nodes n tags rest
are_sides nodes n tags rest = false

-- one byte and the others, if they are all there
abbrev pub with_byte : Option ℕ → Option (List ℕ) → Option (List ℕ)
with_byte (Some b) (Some bytes) = Some (b ∷ bytes)
with_byte b bytes = None

-- the bytes of values
abbrev pub side_bytes : List Ref → Option (List ℕ)
side_bytes [] = Some []
side_bytes (value ∷ values) = with_byte (side_byte value) (side_bytes values)

-- The four bytes of frame node n, where it is small: its tags are the four sides, as a reader would
-- spell them, and its values are integers from 0 to 255.
unfoldable pub small_frame : List Node → ℕ → List ℕ → List Ref → Option (List ℕ)
small_frame nodes n tags values = elim (are_sides nodes n tags sides) [
  | true ↦ side_bytes values
  | false ↦ None
]

-- ---- nodes in full: each takes a number, before what is in it

-- a frame in full, where its values are written so
unfoldable pub frame_text : (Ref → List ℕ → Text) → List Node → ℕ → List ℕ → List Ref → List ℕ
    → Text
frame_text inner nodes k tags values numbered =
    let tagged = each_text (label_text nodes) tags (numbered ++ k ∷ []) in
    let valued = each_text inner values tagged.1 in
    (6 ∷ (count_text (length tags) ++ (tagged.0 ++ valued.0)), valued.1)

-- a small frame by tag 11, and any other in full
abbrev pub small_or : Option (List ℕ) → ℕ → List ℕ → Text → Text
small_or (Some bytes) k numbered full = (11 ∷ bytes, numbered ++ k ∷ [])
small_or None k numbered full = full

-- a frame: by tag 11 where it is small, else in full
abbrev pub any_frame_text : (Ref → List ℕ → Text) → List Node → ℕ → List ℕ → List Ref → List ℕ
    → Text
any_frame_text inner nodes k tags values numbered =
    small_or (small_frame nodes k tags values) k numbered
    (frame_text inner nodes k tags values numbered)

-- a binary in full
unfoldable pub binary_text : List Node → ℕ → ℕ → List ℕ → List ℕ → Text
binary_text nodes k class bytes numbered =
    let label = label_text nodes class (numbered ++ k ∷ []) in
    (3 ∷ (count_text (length bytes) ++ (label.0 ++ bytes)), label.1)

-- a large binary in full, with the flag 0, no compander and a reserved number of 0
unfoldable pub plain_large_text : List Node → ℕ → ℕ → List ℕ → List ℕ → Text
plain_large_text nodes k class bytes numbered =
    let label = label_text nodes class (numbered ++ k ∷ []) in
    (12 ∷ (label.0 ++ large_text 0 0 [] [] bytes), label.1)

-- an array without a class, in full
unfoldable pub plain_array_text : (Ref → List ℕ → Text) → ℕ → List Ref → List ℕ → Text
plain_array_text inner k values numbered =
    let valued = each_text inner values (numbered ++ k ∷ []) in
    (5 ∷ (count_text (length values) ++ valued.0), valued.1)

-- an array with a class, in full
unfoldable pub array_text : (Ref → List ℕ → Text) → List Node → ℕ → ℕ → List Ref → List ℕ → Text
array_text inner nodes k class values numbered =
    let label = label_text nodes class (numbered ++ k ∷ []) in
    let valued = each_text inner values label.1 in
    (4 ∷ (count_text (length values) ++ (label.0 ++ valued.0)), valued.1)

-- an array in full, with a class or without
abbrev pub any_array_text : (Ref → List ℕ → Text) → List Node → ℕ → Option ℕ → List Ref → List ℕ
    → Text
any_array_text inner nodes k None values numbered = plain_array_text inner k values numbered
any_array_text inner nodes k (Some class) values numbered =
    array_text inner nodes k class values numbered

-- a node in full, where values within it are written so
abbrev pub new_node : (Ref → List ℕ → Text) → List Node → ℕ → Option Node → List ℕ → Text
new_node inner nodes k (Some (Symbol name)) numbered = (symbol_text name, numbered ++ k ∷ [])
new_node inner nodes k (Some (Frame tags values)) numbered =
    any_frame_text inner nodes k tags values numbered
new_node inner nodes k (Some (Str units)) numbered = (string_text units, numbered ++ k ∷ [])
new_node inner nodes k (Some (Binary class bytes)) numbered =
    binary_text nodes k class bytes numbered
new_node inner nodes k (Some (Large class bytes)) numbered =
    plain_large_text nodes k class bytes numbered
new_node inner nodes k (Some (Array class values)) numbered =
    any_array_text inner nodes k class values numbered
new_node inner nodes k None numbered = ([], numbered)

-- a value, where values within it are written so
abbrev pub text_at : (Ref → List ℕ → Text) → List Node → Ref → List ℕ → Text
text_at inner nodes (refs.Imm w) numbered = (word_text w, numbered)
text_at inner nodes (refs.Node k) numbered =
    numbered_or (number_of k numbered) numbered
    (new_node inner nodes k (slice_get nodes k) numbered)

-- a value, with room for so many values within one another, this one too
unfoldable pub value_text : ℕ → List Node → Ref → List ℕ → Text
value_text zero nodes value numbered = ([], numbered)
value_text (suc room) nodes value numbered =
    text_at (λ value numbered. value_text room nodes value numbered) nodes value numbered

-- the written text of a graph: the version, and the root with what is in it
unfoldable pub nsof : RawGraph → List ℕ
nsof g = 2 ∷ (value_text (suc most_open) g.nodes g.root []).0
