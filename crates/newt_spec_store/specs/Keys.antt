-- Keys of entries, and their order. That an index has paths, types and an order is Newton's (Newton
-- Programmer's Guide 2.0, indexes and multiple-slot indexes). This project's own are the forms of
-- declarations and keys, which entries have a key, and where a missing part stands. That strings
-- are cut at 39 units and folded, and that a symbol is compared by the bytes of its name, is its
-- own as well.
use Rattle.std.specs.Prelude.{ℕ, ◌/◌, ◌%◌, ◌^◌, Bool, true, false, ◌&&◌, ◌==◌, nat_lt, List, [], ◌∷◌, map, take, length, zip, Option, Some, None, ℤ, pos, if◌then◌else◌, encode_utf8_all}
use Rattle.std.specs.Int.{cast_unsigned, int_div_euclid, w32}
use Rattle.std.specs.declared.cmp.Ordering.{Ordering}
use Rattle.std.specs.declared.cmp.Ordering.TheVariants.{Less, Equal, Greater}
use Rattle.std.specs.Ordering.{nat_cmp, int_cmp, ordering_then, ordering_reverse}
use Rattle.std.specs.Cmp.Lexicographic.{slice_cmp}
use Rattle.std.specs.Char.Utf16.{utf16_lossy_chars}
use Rattle.std.specs.Str.{str_to_ascii_lowercase}
use Rattle.std.specs.List.{list_all, list_any}
use Rattle.caseless.specs.Caseless.{default_case_fold}
use Rattle.newt_base.specs.Names.{same_path}
use Rattle.newt_spec_store.specs.declared.Kind.{Kind}
use Rattle.newt_spec_store.specs.declared.Kind.TheVariants as kind
use Rattle.newt_spec_store.specs.declared.Order.{Order}
use Rattle.newt_spec_store.specs.declared.Order.TheVariants as order
use Rattle.newt_graph.specs.declared.node.Ref.{Ref}
use Rattle.newt_graph.specs.declared.node.Ref.TheVariants.{Imm, Node as At}
use Rattle.newt_graph.specs.declared.node.Node.{Node}
use Rattle.newt_graph.specs.declared.node.Node.TheVariants.{Symbol, Str}
use Rattle.newt_graph.specs.Graph.{RawGraph}
use Rattle.newt_spec_graph.specs.Graph.{object}
use Rattle.newt_spec_graph.specs.Slots.{value_at}

-- a path: the names of the slots from the root down (Newton Programmer's Guide 2.0, paths)
abbrev pub Path : Type 0
Path = List (List ℕ)

-- one part of an index: the path of its values, their type, and which way they are ordered (this
-- project's own)
pub record IndexPart : Type 0 where
  pub path : Path
  pub kind : Kind
  pub direction : Order

-- an index declaration: one to four parts (this project's own)
abbrev pub IndexSpec : Type 0
IndexSpec = List IndexPart

-- A part of a key: missing, the folded text of a string in UTF-8, an integer, a character, or a
-- symbol in lower case. (this project's own)
pub data Part : Type 0 where
  missing : Part
  words : List ℕ → Part
  whole : ℤ → Part
  letter : ℕ → Part
  name : List ℕ → Part

-- a key: a part for each part of its index, or none for no index (Newton Programmer's Guide 2.0,
-- index keys)
abbrev pub Key : Type 0
Key = List Part

-- ---- the value of a part

-- The characters of a string, folded. A unit that is half of a pair alone becomes U+FFFD, and case
-- is folded by the default table of Unicode. (this project's own; the table of case folding is
-- Unicode's)
abbrev pub folded : List ℕ → List ℕ
folded units = default_case_fold (utf16_lossy_chars units)

-- The value that an object has for a type: for strings its first 39 units, folded; for symbols its
-- name in ASCII lower case. An object of another type is missing. (this project's own)
abbrev pub object_part : Kind → Option Node → Part
object_part kind.Text (Some (Str units)) = words (encode_utf8_all (folded (take 39 units)))
object_part kind.Symbol (Some (Symbol n)) = name (str_to_ascii_lowercase n)
object_part _ _ = missing

-- The value that an immediate has for a type. An integer ends in the bits 00, and the character c
-- is 16 * c + 6. (Newton Formats 1.1, immediates)
abbrev pub word_part : Kind → ℤ → Part
word_part kind.Int w = if cast_unsigned w32 w % 4 == 0 then whole (int_div_euclid w (pos 4)) else missing
word_part kind.Char w =
    let n = cast_unsigned w32 w in
    if (n % 16 == 6) && nat_lt n (2 ^ 20) then letter (n / 16) else missing
word_part _ w = missing

-- the value that a reference leads to, for a type; missing where there is no reference (a word of
-- these definitions)
abbrev pub part_of : List Node → Kind → Option Ref → Part
part_of nodes kind None = missing
part_of nodes kind (Some (Imm w)) = word_part kind w
part_of nodes kind (Some (At n)) = object_part kind (object nodes (At n))

-- a key whose first part is there; otherwise there is none, and the entry is not in the index (this
-- project's own)
abbrev pub if_first_is_there : Key → Option Key
if_first_is_there (missing ∷ parts) = None
if_first_is_there parts = Some parts

-- the key of a graph: the values at the paths of the declaration. With no declaration it is the
-- empty key. (this project's own)
abbrev pub key : RawGraph → IndexSpec → Option Key
key g spec = if_first_is_there (map (λ p. part_of g.nodes p.kind (value_at g p.path)) spec)

-- ---- the order of keys

-- A number for each form of part, which orders parts of different forms. Two parts at one place of
-- an index have one form where they are there, so it decides nothing there. (this project's own)
abbrev pub form : Part → ℕ
form missing = 0
form (words _) = 1
form (whole _) = 2
form (letter _) = 3
form (name _) = 4

-- The order of values. Texts and names are ordered by their bytes, which is the order of code
-- points; integers and characters by number. (this project's own)
abbrev pub value_cmp : Part → Part → Ordering
value_cmp (words a) (words b) = slice_cmp nat_cmp a b
value_cmp (whole a) (whole b) = int_cmp a b
value_cmp (letter a) (letter b) = nat_cmp a b
value_cmp (name a) (name b) = slice_cmp nat_cmp a b
value_cmp a b = nat_cmp (form a) (form b)

-- an order, or its reverse (Newton Programmer's Guide 2.0, index orders)
abbrev pub in_direction : Order → Ordering → Ordering
in_direction order.Ascend o = o
in_direction order.Descend o = ordering_reverse o

-- the order of parts: a missing part stands before all values, in both directions; values follow
-- the direction (this project's own)
abbrev pub part_cmp : Order → Part → Part → Ordering
part_cmp direction missing missing = Equal
part_cmp direction missing b = Less
part_cmp direction a missing = Greater
part_cmp direction a b = in_direction direction (value_cmp a b)

-- the order of keys: part by part. Keys of one declaration have as many parts as it has. (Newton
-- Programmer's Guide 2.0, multiple-slot indexes)
abbrev pub key_cmp : IndexSpec → Key → Key → Ordering
key_cmp [] _ _ = Equal
key_cmp (p ∷ spec) [] [] = Equal
key_cmp (p ∷ spec) [] (b ∷ bs) = Less
key_cmp (p ∷ spec) (a ∷ as') [] = Greater
key_cmp (p ∷ spec) (a ∷ as') (b ∷ bs) = ordering_then (part_cmp p.direction a b) (key_cmp spec as' bs)

-- ---- declarations that agree

-- the types are the same (a word of these definitions)
abbrev pub same_kind : Kind → Kind → Bool
same_kind kind.Text kind.Text = true
same_kind kind.Int kind.Int = true
same_kind kind.Char kind.Char = true
same_kind kind.Symbol kind.Symbol = true
same_kind _ _ = false

-- the directions are the same (a word of these definitions)
abbrev pub same_direction : Order → Order → Bool
same_direction order.Ascend order.Ascend = true
same_direction order.Descend order.Descend = true
same_direction _ _ = false

-- the paths of a declaration, in order (a word of these definitions)
abbrev pub paths_of : IndexSpec → List Path
paths_of spec = map (λ p. p.path) spec

-- two lists of paths are one but for the case of letters (Newton Formats 1.1, symbols)
abbrev pub same_paths : List Path → List Path → Bool
same_paths ps qs = (length ps == length qs) && list_all (λ p. same_path p.0 p.1) (zip ps qs)

-- one of the declarations has these paths (Newton Programmer's Guide 2.0, indexes)
abbrev pub has_paths : List Path → List IndexSpec → Bool
has_paths paths specs = list_any (λ spec. same_paths (paths_of spec) paths) specs

-- two parts have one path, one type and one direction (this project's own)
abbrev pub same_part : IndexPart → IndexPart → Bool
same_part p q = same_path p.path q.path && same_kind p.kind q.kind && same_direction p.direction q.direction

-- two declarations agree: they have the same paths but for the case of letters, the same types and
-- the same directions (this project's own)
abbrev pub same_spec : IndexSpec → IndexSpec → Bool
same_spec ps qs = (length ps == length qs) && list_all (λ p. same_part p.0 p.1) (zip ps qs)
