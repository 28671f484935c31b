-- Literals: what a text writes down, a rule for each form.
-- The forms are this project's own; the graphs are those of NewtonScript's object model.
use Rattle.std.specs.Prelude.{◌≡◌, ◌≢◌, ℕ, zero, suc, ◌+◌, ◌*◌, ◌%◌, ◌<◌, ◌≤◌, List, [], ◌∷◌, ◌++◌}
use Rattle.std.specs.Prelude.{length, replicate, Option, None, Some, ℤ, pos, neg_ℤ, codes, IsTrue}
use Rattle.std.specs.Int.{w32, cast_signed}
use Rattle.std.specs.List.{list_all}
use Rattle.std.specs.Char.{is_ascii_hexdigit}
use Rattle.newt_base.specs.Names.{is_identifier}
use Rattle.newt_graph.specs.declared.node.Node.TheVariants as nodes
use Rattle.newt_graph.specs.declared.node.Ref.{Ref}
use Rattle.newt_graph.specs.declared.node.Ref.TheVariants as refs
use Rattle.newt_graph.specs.Limits.{most_data, most_open}
use Rattle.newt_graph.specs.Graph.{RawGraph, all_distinct}
use Rattle.newt_graph.specs.Raw.{IsNormalForm}
use Rattle.newt_spec_literal.specs.Built.{Built, symbol_in, held, filled, node_of, labelled}
use Rattle.newt_spec_literal.specs.Built.{tags_of, values_of}
use Rattle.newt_spec_literal.specs.Words.{is_blank, is_barred, is_number, number, hex_number}
use Rattle.newt_spec_literal.specs.Words.{is_label, is_count, is_shown, is_quoted, units_of}

-- ---- tokens

-- blanks and then this mark
pub data Mark (mark : ℕ) : List ℕ → Type 0 where
  here : Mark mark (mark ∷ [])
  blank : {c : ℕ} {text : List ℕ} → IsTrue (is_blank c) → Mark mark text → Mark mark (c ∷ text)

-- pieces one after another, and what they stand for together
pub data Pieces (piece : List ℕ → List ℕ → Type 0) : List ℕ → List ℕ → Type 0 where
  none : Pieces piece [] []
  more : {text value texts values : List ℕ} → piece text value → Pieces piece texts values
      → Pieces piece (text ++ texts) (value ++ values)

-- so many hexadecimal digits of either case, and their number
pub data Hex (count : ℕ) : List ℕ → ℕ → Type 0 where
  hex : {digits : List ℕ} → length digits ≡ count → IsTrue (list_all is_ascii_hexdigit digits)
      → Hex count digits (hex_number digits)

-- a byte in hexadecimal
pub data HexByte : List ℕ → List ℕ → Type 0 where
  byte : {digits : List ℕ} {n : ℕ} → Hex 2 digits n → HexByte digits (n ∷ [])

-- a byte of a name between bars
pub data InName : List ℕ → List ℕ → Type 0 where
  plain : {c : ℕ} → IsTrue (is_barred c) → InName (c ∷ []) (c ∷ [])
  bar : InName (92 ∷ 124 ∷ []) (124 ∷ [])
  backslash : InName (92 ∷ 92 ∷ []) (92 ∷ [])

-- a character of a string, and its units
pub data InString : List ℕ → List ℕ → Type 0 where
  plain : {c : ℕ} → IsTrue (is_quoted c) → InString (c ∷ []) (units_of c)
  quote : InString (92 ∷ 34 ∷ []) (34 ∷ [])
  backslash : InString (92 ∷ 92 ∷ []) (92 ∷ [])
  unit : {digits : List ℕ} {n : ℕ} → Hex 4 digits n → InString (92 ∷ 117 ∷ digits) (n ∷ [])

-- the text of a name: an identifier, or 1 to 254 bytes between bars
pub data Name : List ℕ → List ℕ → Type 0 where
  identifier : {name : List ℕ} → IsTrue (is_identifier name) → Name name name
  barred : {text name : List ℕ} → Pieces InName text name → 0 < length name → length name < 255
      → Name (124 ∷ (text ++ 124 ∷ [])) name

-- The text of an immediate, and its word. The word of an integer is four times its number. That of
-- a character is 16 times its code and 6 more. Any word can be written in eight digits, but those
-- whose low two bits are 01, which lead to objects.
pub data Immediate : List ℕ → ℤ → Type 0 where
  nil : Immediate (codes "nil") (pos 2)
  truth : Immediate (codes "true") (pos 26)
  integer : {digits : List ℕ} → IsTrue (is_number digits) → number digits ≤ 536_870_911
      → Immediate digits (pos (4 * number digits))
  negative : {digits : List ℕ} → IsTrue (is_number digits) → number digits ≤ 536_870_912
      → Immediate (45 ∷ digits) (neg_ℤ (pos (4 * number digits)))
  character : {c : ℕ} → IsTrue (is_shown c) → Immediate (36 ∷ c ∷ []) (pos (16 * c + 6))
  coded : {digits : List ℕ} {n : ℕ} → Hex 4 digits n
      → Immediate (36 ∷ 92 ∷ digits) (pos (16 * n + 6))
  word : {digits : List ℕ} {n : ℕ} → Hex 8 digits n → n % 4 ≢ 1
      → Immediate (38 ∷ digits) (cast_signed w32 n)

-- the text of a label's number
pub data Label : List ℕ → ℕ → Type 0 where
  label : {digits : List ℕ} → IsTrue (is_label digits) → Label digits (number digits)

-- blanks, a name and its colon
pub data Tag : List ℕ → List ℕ → Type 0 where
  blank : {c : ℕ} {text name : List ℕ} → IsTrue (is_blank c) → Tag text name → Tag (c ∷ text) name
  name : {text name mark : List ℕ} → Name text name → Mark 58 mark → Tag (text ++ mark) name

-- ---- parts of containers

-- the rule for a thing: its text and its value, between what was written down before it and after
-- it
abbrev pub Kind : Type 0 → Type 1
Kind A = Built → List ℕ → A → Built → Type 0

-- one or more things with commas between them, and the mark after them
pub data Items {A : Type 0} (item : Kind A) (close : ℕ) : Built → List ℕ → List A → Built
    → Type 0 where
  last : {before : Built} {text : List ℕ} {x : A} {after : Built} {mark : List ℕ}
      → item before text x after → Mark close mark
      → Items item close before (text ++ mark) (x ∷ []) after
  more : {before : Built} {text : List ℕ} {x : A} {then : Built} {mark texts : List ℕ} {xs : List A}
      {after : Built} → item before text x then → Mark 44 mark
      → Items item close then texts xs after
      → Items item close before (text ++ (mark ++ texts)) (x ∷ xs) after

-- the same, or none
pub data Several {A : Type 0} (item : Kind A) (close : ℕ) (before : Built) : List ℕ → List A → Built
    → Type 0 where
  none : {mark : List ℕ} → Mark close mark → Several item close before mark [] before
  some : {text : List ℕ} {xs : List A} {after : Built} → Items item close before text xs after
      → Several item close before text xs after

-- the class of an array, or none
pub data Class (before : Built) : List ℕ → Option ℕ → Built → Type 0 where
  none : Class before [] None before
  some : {text name : List ℕ} {k : ℕ} {after : Built} → Tag text name
      → symbol_in before name ≡ Some (k, after) → Class before text (Some k) after

-- a tag, the symbol of its name, and the value after it
pub data Field (value : Kind Ref) (before : Built) : List ℕ → ℕ × Ref → Built → Type 0 where
  field : {tag name : List ℕ} {k : ℕ} {then : Built} {text : List ℕ} {v : Ref} {after : Built}
      → Tag tag name → symbol_in before name ≡ Some (k, then)
      → value then text v after
      → Field value before (tag ++ text) (k, v) after

-- ---- containers, after the first bracket

-- an array: its class, if it has one, and its values
pub data Array (value : Kind Ref) (before : Built) : List ℕ → Ref → Built → Type 0 where
  array : {n : ℕ} {opened : Built} {class : List ℕ} {k : Option ℕ} {then : Built} {text : List ℕ}
      {values : List Ref} {last after : Built} → held before ≡ Some (n, opened)
      → Class opened class k then
      → Several value 93 then text values last
      → filled last n (nodes.Array k values) ≡ Some after
      → Array value before (class ++ text) (refs.Node n) after

-- a frame: its fields, no two of which have one tag
pub data Frame (value : Kind Ref) (before : Built) : List ℕ → Ref → Built → Type 0 where
  frame : {n : ℕ} {opened : Built} {text : List ℕ} {fields : List (ℕ × Ref)} {last after : Built}
      → held before ≡ Some (n, opened)
      → Several (Field value) 125 opened text fields last
      → IsTrue (all_distinct (tags_of fields))
      → filled last n (nodes.Frame (tags_of fields) (values_of fields)) ≡ Some after
      → Frame value before text (refs.Node n) after

-- ---- objects without values

-- an open node, and its class with a colon
pub data Classed (before : Built) : List ℕ → ℕ → ℕ → Built → Type 0 where
  classed : {n : ℕ} {opened : Built} {text name : List ℕ} {k : ℕ} {after : Built}
      → held before ≡ Some (n, opened) → Name text name → symbol_in opened name ≡ Some (k, after)
      → Classed before (text ++ 58 ∷ []) n k after

-- the bytes of a large binary: each of them, or their count where all are zero
pub data LargeBytes : List ℕ → List ℕ → Type 0 where
  each : {text bytes : List ℕ} → Pieces HexByte text bytes → LargeBytes text bytes
  zeros : {digits : List ℕ} → IsTrue (is_count digits) → number digits ≤ most_data
      → LargeBytes (42 ∷ digits) (replicate (number digits) 0)

-- a string, a binary or a large binary
pub data Leaf (before : Built) : List ℕ → Ref → Built → Type 0 where
  string : {n : ℕ} {opened : Built} {text units : List ℕ} {after : Built}
      → held before ≡ Some (n, opened) → Pieces InString text units
      → filled opened n (nodes.Str units) ≡ Some after
      → Leaf before (34 ∷ (text ++ 34 ∷ [])) (refs.Node n) after
  binary : {class : List ℕ} {n k : ℕ} {then : Built} {text bytes : List ℕ} {after : Built}
      → Classed before class n k then → Pieces HexByte text bytes
      → filled then n (nodes.Binary k bytes) ≡ Some after
      → Leaf before (60 ∷ (class ++ (text ++ 62 ∷ []))) (refs.Node n) after
  large : {class : List ℕ} {n k : ℕ} {then : Built} {text bytes : List ℕ} {after : Built}
      → Classed before class n k then → LargeBytes text bytes
      → filled then n (nodes.Large k bytes) ≡ Some after
      → Leaf before (60 ∷ 60 ∷ (class ++ (text ++ 62 ∷ 62 ∷ []))) (refs.Node n) after

-- ---- values

-- an object that may have a label
pub data Object (array frame : Kind Ref) (before : Built) : List ℕ → Ref → Built → Type 0 where
  blank : {c : ℕ} {text : List ℕ} {v : Ref} {after : Built} → IsTrue (is_blank c)
      → Object array frame before text v after → Object array frame before (c ∷ text) v after
  leaf : {text : List ℕ} {v : Ref} {after : Built} → Leaf before text v after
      → Object array frame before text v after
  array : {text : List ℕ} {v : Ref} {after : Built} → array before text v after
      → Object array frame before (91 ∷ text) v after
  frame : {text : List ℕ} {v : Ref} {after : Built} → frame before text v after
      → Object array frame before (123 ∷ text) v after

-- a value, where arrays and frames are written so
pub data Form (array frame : Kind Ref) (before : Built) : List ℕ → Ref → Built → Type 0 where
  blank : {c : ℕ} {text : List ℕ} {v : Ref} {after : Built} → IsTrue (is_blank c)
      → Form array frame before text v after → Form array frame before (c ∷ text) v after
  immediate : {text : List ℕ} {word : ℤ} → Immediate text word
      → Form array frame before text (refs.Imm word) before
  symbol : {text name : List ℕ} {k : ℕ} {after : Built} → Name text name
      → symbol_in before name ≡ Some (k, after)
      → Form array frame before (39 ∷ text) (refs.Node k) after
  object : {text : List ℕ} {v : Ref} {after : Built} → Object array frame before text v after
      → Form array frame before text v after
  given : {text : List ℕ} {n : ℕ} {object : List ℕ} {v : Ref} {after : Built} → Label text n
      → node_of n before.labels ≡ None → Object array frame (labelled before n) object v after
      → Form array frame before (35 ∷ (text ++ 61 ∷ object)) v after
  again : {text : List ℕ} {n k : ℕ} → Label text n → node_of n before.labels ≡ Some k
      → Form array frame before (35 ∷ (text ++ 35 ∷ [])) (refs.Node k) before

-- no container is written so
abbrev pub Nothing : Kind Ref
Nothing before text v after = ⊥

-- a value, with room for so many containers within one another
abbrev pub Value : ℕ → Kind Ref
Value zero = Form Nothing Nothing
Value (suc room) = Form (Array (Value room)) (Frame (Value room))

-- ---- whole texts

-- the whole text writes down these nodes, and this root
pub record Writes (text : List ℕ) (root : Ref) (built : Built) : Type 0 where
  pub value : List ℕ
  pub blanks : List ℕ
  pub whole : text ≡ value ++ blanks
  pub is : Value most_open (record { nodes = []; labels = [] }) value root built
  pub rest : IsTrue (list_all is_blank blanks)

-- The text is a literal of g: g is the normal form of what it writes down. So the limits of a graph
-- hold.
pub record Reads (text : List ℕ) (g : RawGraph) : Type 0 where
  pub root : Ref
  pub built : Built
  pub writes : Writes text root built
  pub normal : IsNormalForm (record { nodes = built.nodes; root = root }) g
