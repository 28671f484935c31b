-- The flat text of a graph, in the rows of Newton Formats 1.1. Records of entries keep it, and
-- their cost counts it. Each number has its shortest form. Nil and characters have their own tags.
-- A node stands in full where the walk from the root meets it first, and as a precedent afterwards.
-- There is no tag 11, so each node has a number.
use Rattle.std.specs.Prelude.{ℕ, Bool, false, zero, suc, ◌+◌, ◌*◌, ◌/◌, ◌%◌, List, [], ◌∷◌, ◌++◌}
use Rattle.std.specs.Prelude.{length, Option, Some, None, ℤ, pos, negsuc, slice_get, nat_lt, ◌==◌}
use Rattle.std.specs.Prelude.{◌&&◌, if◌then◌else◌}
use Rattle.std.specs.Int.{w32, to_be_bytes, cast_unsigned}
use Rattle.newt_graph.specs.declared.node.Node.{Node}
use Rattle.newt_graph.specs.declared.node.Node.TheVariants.{Symbol, Str, Binary, Large, Array}
use Rattle.newt_graph.specs.declared.node.Node.TheVariants.{Frame}
use Rattle.newt_graph.specs.declared.node.Ref.{Ref}
use Rattle.newt_graph.specs.declared.node.Ref.TheVariants as refs
use Rattle.newt_graph.specs.Limits.{most_open}
use Rattle.newt_graph.specs.Graph.{RawGraph}
use Rattle.newt_spec_nsof.specs.Text.{units_text, large_text}

-- a number of the short form, 0 to 254
abbrev pub is_short : ℤ → Bool
is_short (pos n) = nat_lt n 255
is_short (negsuc n) = false

-- its one byte
abbrev pub short_text : ℤ → List ℕ
short_text (pos n) = n ∷ []
short_text (negsuc n) = []

-- the shortest form of a number: one byte, or 255 and 32 bits
unfoldable pub xlong_text : ℤ → List ℕ
xlong_text z = if is_short z then short_text z else 255 ∷ to_be_bytes w32 (cast_unsigned w32 z)

-- a number that is not negative, in its shortest form
unfoldable pub count_text : ℕ → List ℕ
count_text n = xlong_text (pos n)

-- a character up to 255 by tag 1, else by tag 2
abbrev pub character_text : ℕ → List ℕ
character_text c = if nat_lt c 256 then 1 ∷ c ∷ [] else 2 ∷ c / 256 ∷ c % 256 ∷ []

-- a word that stands for itself: nil, a character, or any other
unfoldable pub word_text : ℤ → List ℕ
word_text (pos n) =
    if n == 2 then 10 ∷ []
    else if n % 16 == 6 && nat_lt (n / 16) 65536 then character_text (n / 16)
    else 0 ∷ xlong_text (pos n)
word_text (negsuc n) = 0 ∷ xlong_text (negsuc n)

-- A node that was met, by its number. Each object of a flat text adds one node, so the number of an
-- object is that of its node.
abbrev pub again_text : ℕ → List ℕ
again_text k = 9 ∷ count_text k

-- a symbol in full
abbrev pub symbol_text : List ℕ → List ℕ
symbol_text name = 7 ∷ (count_text (length name) ++ name)

-- a text, and how many nodes are met after it
abbrev pub Text : Type 0
Text = List ℕ × ℕ

-- the texts of things, one after another; what is known after one of them is known to the next
unfoldable pub each_text : {A S : Type 0} → (A → S → List ℕ × S) → List A → S → List ℕ × S
each_text one [] known = ([], known)
each_text one (x ∷ xs) known =
    let first = one x known in
    let others = each_text one xs first.1 in
    (first.0 ++ others.0, others.1)

-- a class or a tag in full
abbrev pub new_label : Option Node → ℕ → Text
new_label (Some (Symbol name)) met = (symbol_text name, met + 1)
new_label _ met = ([], met)

-- a class or a tag: in full where it is met first, else by its number
unfoldable pub label_text : List Node → ℕ → ℕ → Text
label_text nodes k met =
    if nat_lt k met then (again_text k, met) else new_label (slice_get nodes k) met

-- a frame in full, where its values are written so
unfoldable pub frame_text : (Ref → ℕ → Text) → List Node → List ℕ → List Ref → ℕ → Text
frame_text inner nodes tags values met =
    let tagged = each_text (label_text nodes) tags (met + 1) in
    let valued = each_text inner values tagged.1 in
    (6 ∷ (count_text (length tags) ++ (tagged.0 ++ valued.0)), valued.1)

-- a string in full
abbrev pub string_text : List ℕ → List ℕ
string_text units = 8 ∷ (count_text (2 * length units + 2) ++ (units_text units ++ 0 ∷ 0 ∷ []))

-- a binary in full
unfoldable pub binary_text : List Node → ℕ → List ℕ → ℕ → Text
binary_text nodes class bytes met =
    let label = label_text nodes class (met + 1) in
    (3 ∷ (count_text (length bytes) ++ (label.0 ++ bytes)), label.1)

-- a large binary in full, with the flag 0, no compander and a reserved number of 0
unfoldable pub plain_large_text : List Node → ℕ → List ℕ → ℕ → Text
plain_large_text nodes class bytes met =
    let label = label_text nodes class (met + 1) in
    (12 ∷ (label.0 ++ large_text 0 0 [] [] bytes), label.1)

-- an array without a class, in full
unfoldable pub plain_array_text : (Ref → ℕ → Text) → List Ref → ℕ → Text
plain_array_text inner values met =
    let valued = each_text inner values (met + 1) in
    (5 ∷ (count_text (length values) ++ valued.0), valued.1)

-- an array with a class, in full
unfoldable pub array_text : (Ref → ℕ → Text) → List Node → ℕ → List Ref → ℕ → Text
array_text inner nodes class values met =
    let label = label_text nodes class (met + 1) in
    let valued = each_text inner values label.1 in
    (4 ∷ (count_text (length values) ++ (label.0 ++ valued.0)), valued.1)

-- an array in full, with a class or without
abbrev pub any_array_text : (Ref → ℕ → Text) → List Node → Option ℕ → List Ref → ℕ → Text
any_array_text inner nodes None values met = plain_array_text inner values met
any_array_text inner nodes (Some class) values met = array_text inner nodes class values met

-- a node in full, where values within it are written so
abbrev pub new_node : (Ref → ℕ → Text) → List Node → Option Node → ℕ → Text
new_node inner nodes (Some (Symbol name)) met = (symbol_text name, met + 1)
new_node inner nodes (Some (Frame tags values)) met = frame_text inner nodes tags values met
new_node inner nodes (Some (Str units)) met = (string_text units, met + 1)
new_node inner nodes (Some (Binary class bytes)) met = binary_text nodes class bytes met
new_node inner nodes (Some (Large class bytes)) met = plain_large_text nodes class bytes met
new_node inner nodes (Some (Array class values)) met = any_array_text inner nodes class values met
new_node inner nodes None met = ([], met)

-- a value, where values within it are written so
abbrev pub text_at : (Ref → ℕ → Text) → List Node → Ref → ℕ → Text
text_at inner nodes (refs.Imm w) met = (word_text w, met)
text_at inner nodes (refs.Node k) met =
    if nat_lt k met then (again_text k, met) else new_node inner nodes (slice_get nodes k) met

-- a value, with room for so many containers within one another
unfoldable pub value_text : ℕ → List Node → Ref → ℕ → Text
value_text zero nodes value met = text_at (λ value met. ([], met)) nodes value met
value_text (suc room) nodes value met =
    text_at (λ value met. value_text room nodes value met) nodes value met

-- the flat text of a graph: the version, and the root
unfoldable pub flat : RawGraph → List ℕ
flat g = 2 ∷ (value_text most_open g.nodes g.root 0).0
