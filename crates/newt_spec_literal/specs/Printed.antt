-- The printed text of a graph as a literal (this project's own).
use Rattle.std.specs.Prelude.{ℕ, zero, suc, ◌+◌, ◌/◌, ◌%◌, ◌^◌, Bool, true, false, not, ◌&&◌, ◌==◌}
use Rattle.std.specs.Prelude.{nat_lt, List, [], ◌∷◌, ◌++◌, map, flat_map, count_by, zip, slice_get}
use Rattle.std.specs.Prelude.{get_or, Option, Some, None, if◌then◌else◌, codes, ℤ, pos, decimal}
use Rattle.std.specs.Fmt.{signed_decimal}
use Rattle.std.specs.Int.{cast_unsigned, int_div_euclid, w32}
use Rattle.std.specs.List.{list_any}
use Rattle.newt_base.specs.Names.{is_printable, is_identifier}
use Rattle.newt_base.specs.Text.{hex_text, be16, be32}
use Rattle.newt_graph.specs.declared.node.Node.{Node}
use Rattle.newt_graph.specs.declared.node.Node.TheVariants.{Symbol, Str, Binary, Large, Array}
use Rattle.newt_graph.specs.declared.node.Node.TheVariants.{Frame}
use Rattle.newt_graph.specs.declared.node.Ref.{Ref}
use Rattle.newt_graph.specs.declared.node.Ref.TheVariants as refs
use Rattle.newt_graph.specs.Limits.{most_open}
use Rattle.newt_graph.specs.Graph.{RawGraph}
use Rattle.newt_graph.specs.Raw.{labels_of, values_of}
use Rattle.newt_spec_literal.specs.Spelling.{Spelling, plain, ◌then◌}
use Rattle.newt_spec_literal.specs.Words.{is_shown}

-- ---- names

-- a character, after a backslash where it is one of the marks
abbrev pub escaped : List ℕ → ℕ → List ℕ
escaped marks c = if list_any (λ mark. mark == c) marks then 92 ∷ c ∷ [] else c ∷ []

-- a name as it stands where it is an identifier, else between bars
abbrev pub name_text : List ℕ → List ℕ
name_text name =
    if is_identifier name then name
    else codes "|" ++ (flat_map (escaped (codes "|\\")) name ++ codes "|")

-- the name of a symbol
abbrev pub symbol_text : Option Node → List ℕ
symbol_text (Some (Symbol name)) = name_text name
symbol_text _ = []

-- ---- immediates

-- four hexadecimal digits
abbrev pub hex16 : ℕ → List ℕ
hex16 n = hex_text (be16 n)

-- '$' and the character itself where it can stand there, else its four digits
abbrev pub character_text : ℕ → List ℕ
character_text c = if is_shown c then 36 ∷ c ∷ [] else codes "$\\" ++ hex16 c

-- the first form that fits: an integer, nil, true, a character, or the eight digits of the word
abbrev pub word_text : ℤ → List ℕ
word_text word =
    let bits = cast_unsigned w32 word in
    if bits % 4 == 0 then signed_decimal (int_div_euclid word (pos 4))
    else if bits == 2 then codes "nil"
    else if bits == 26 then codes "true"
    else if (bits % 16 == 6) && nat_lt bits (2 ^ 20) then character_text (bits / 16)
    else 38 ∷ hex_text (be32 bits)

-- ---- strings and binaries

-- a unit from 32 to 126 as itself, with a backslash before '"' and '\', any other as its four
-- digits
abbrev pub unit_text : ℕ → List ℕ
unit_text u = if is_printable u then escaped (codes "\"\\") u else codes "\\u" ++ hex16 u

-- a string between two quotes
abbrev pub string_text : List ℕ → List ℕ
string_text units = codes "\"" ++ (flat_map unit_text units ++ codes "\"")

-- the class and the bytes between two brackets
abbrev pub binary_text : List Node → (before after : List ℕ) → ℕ → List ℕ → List ℕ
binary_text nodes before after class bytes =
    before ++ (symbol_text (slice_get nodes class) ++ (codes ":" ++ (hex_text bytes ++ after)))

-- ---- lists

-- what follows a thing in a list: the other things, each after a comma and a space, and the closing
-- mark
abbrev pub more_text : ℕ → List Spelling → Spelling
more_text close [] = plain (close ∷ [])
more_text close (s ∷ ss) = plain (codes ", ") then s then more_text close ss

-- things with commas between them, and the closing mark
abbrev pub list_text : ℕ → List Spelling → Spelling
list_text close [] = plain (close ∷ [])
list_text close (s ∷ ss) = s then more_text close ss

-- the class of an array and its colon, with a space where a value follows
abbrev pub class_text : List Node → Option ℕ → List Ref → List ℕ
class_text nodes None values = []
class_text nodes (Some class) [] = symbol_text (slice_get nodes class) ++ codes ":"
class_text nodes (Some class) (v ∷ vs) = symbol_text (slice_get nodes class) ++ codes ": "

-- a tag, its colon, a space and the value
abbrev pub field_text : List Node → (Ref → Spelling) → ℕ × Ref → Spelling
field_text nodes value field =
    plain (symbol_text (slice_get nodes field.0) ++ codes ": ") then value field.1

-- ---- objects

-- an object in full, where its values are written so
abbrev pub object_text : List Node → (Ref → Spelling) → Node → Spelling
object_text nodes value (Symbol name) = plain (39 ∷ name_text name)
object_text nodes value (Str units) = plain (string_text units)
object_text nodes value (Binary class bytes) =
    plain (binary_text nodes (codes "<") (codes ">") class bytes)
object_text nodes value (Large class bytes) =
    plain (binary_text nodes (codes "<<") (codes ">>") class bytes)
object_text nodes value (Array class values) =
    plain (91 ∷ class_text nodes class values) then list_text 93 (map value values)
object_text nodes value (Frame tags values) =
    plain (codes "{") then list_text 125 (map (field_text nodes value) (zip tags values))

-- '#', the label and the mark after it; nothing where there is no label
abbrev pub label_text : Option ℕ → ℕ → List ℕ
label_text None mark = []
label_text (Some label) mark = 35 ∷ (decimal label ++ mark ∷ [])

-- object n by its label where it has been met; else in full, after its label
abbrev pub met_or_new : Option ℕ → ℕ → Spelling → Spelling
met_or_new label n text met = elim (nat_lt n met) [
  | true ↦ plain (label_text label 35) met
  | false ↦ (plain (label_text label 61) then text) (n + 1)
]

-- the node is a symbol
abbrev pub is_symbol : Node → Bool
is_symbol (Symbol name) = true
is_symbol _ = false

-- the label of an object, if it has one
abbrev pub label_of : List (Option ℕ) → ℕ → Option ℕ
label_of labels n = get_or labels n None

-- a symbol in full each time, any other object once
abbrev pub node_text : List Node → List (Option ℕ) → (Ref → Spelling) → ℕ → Option Node → Spelling
node_text nodes labels value n None = plain []
node_text nodes labels value n (Some node) = elim (is_symbol node) [
  | true ↦ object_text nodes value node
  | false ↦ met_or_new (label_of labels n) n (object_text nodes value node)
]

-- a value, where nodes are written so
abbrev pub ref_text : (ℕ → Spelling) → Ref → Spelling
ref_text node (refs.Imm word) = plain (word_text word)
ref_text node (refs.Node n) = node n

-- node n, with so many objects within one another at most
abbrev pub node_at : List Node → List (Option ℕ) → ℕ → ℕ → Spelling
node_at nodes labels zero n = plain []
node_at nodes labels (suc levels) n =
    node_text nodes labels (ref_text (node_at nodes labels levels)) n (slice_get nodes n)

-- a value, with so many objects within one another at most
abbrev pub value_at : List Node → List (Option ℕ) → ℕ → Ref → Spelling
value_at nodes labels levels = ref_text (node_at nodes labels levels)

-- ---- labels

-- every reference of a graph: its root, and the classes, tags and values of its nodes
abbrev pub references : RawGraph → List Ref
references g = g.root ∷ flat_map (λ node. map refs.Node (labels_of node) ++ values_of node) g.nodes

-- the value leads to node n
abbrev pub leads_to : ℕ → Ref → Bool
leads_to n (refs.Imm word) = false
leads_to n (refs.Node k) = k == n

-- an object other than a symbol that more than one reference leads to
abbrev pub is_shared : List Ref → ℕ → Node → Bool
is_shared references n node = not (is_symbol node) && nat_lt 1 (count_by (leads_to n) references)

-- the label of each object from number n on, or none: the next numbers for those that are shared
abbrev pub labels_from : List Ref → (next n : ℕ) → List Node → List (Option ℕ)
labels_from references next n [] = []
labels_from references next n (node ∷ nodes) = elim (is_shared references n node) [
  | true ↦ Some next ∷ labels_from references (next + 1) (n + 1) nodes
  | false ↦ None ∷ labels_from references next (n + 1) nodes
]

-- the label of each object of a graph, or none
abbrev pub labels : RawGraph → List (Option ℕ)
labels g = labels_from (references g) 0 0 g.nodes

-- ---- the whole

-- The one printed text of a graph in normal form. Containers are open within one another up to the
-- limit, and the last of them may hold an object without values.
abbrev pub literal : RawGraph → List ℕ
literal g = (value_at g.nodes (labels g) (most_open + 1) g.root 0).0
