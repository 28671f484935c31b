-- Replies, and their texts. All of it is this project's own.
use Rattle.std.specs.Prelude.{ℕ, List, [], ◌∷◌, ◌++◌, map, flat_map, Option, Some, None, codes, if◌then◌else◌}
use Rattle.std.specs.List.{list_any, join_with_byte}
use Rattle.newt_base.specs.Names.{needs_quotes}
use Rattle.newt_base.specs.Text.{decimal_text, hex_text}
use Rattle.newt_base.specs.declared.Refusal.{Refusal}
use Rattle.newt_base.specs.declared.Refusal.TheVariants.{Changed}
use Rattle.newt_base.specs.Refusals.{refusal_text}
use Rattle.newt_graph.specs.Graph.{RawGraph}
use Rattle.newt_spec_nsof.specs.Written.{nsof}
use Rattle.newt_spec_literal.specs.Printed.{literal, escaped}
use Rattle.newt_notify.specs.declared.note.Note.{Note}
use Rattle.newt_notify.specs.declared.note.Kind as note_kind
use Rattle.newt_notify.specs.declared.note.Kind.TheVariants as noted
use Rattle.newt_spec_store.specs.declared.Kind.{Kind}
use Rattle.newt_spec_store.specs.declared.Kind.TheVariants as kind
use Rattle.newt_spec_store.specs.declared.Order.{Order}
use Rattle.newt_spec_store.specs.declared.Order.TheVariants as order
use Rattle.newt_spec_store.specs.Keys.{Path, IndexSpec, IndexPart}
use Rattle.newt_spec_store.specs.Store.{TagTable}

-- what is replied, before it is text (this project's own)
pub data Reply : Type 0 where
  done : Reply
  number : ℕ → Reply
  -- a unit, and the id of the new entry there
  added : ℕ → ℕ → Reply
  -- the signature and the name of a store
  store : ℕ → List ℕ → Reply
  -- of each mounted store its unit, its signature and its name
  stores : List (ℕ × ℕ × List ℕ) → Reply
  -- of each soup its name, its signature and the number of its entries
  soups : List (List ℕ × ℕ × ℕ) → Reply
  indexes : List IndexSpec → Reply
  tags : Option TagTable → Reply
  hex : List ℕ → Reply
  nsof_of : RawGraph → Reply
  literal_of : RawGraph → Reply
  -- the minute of an entry, and its graph as a literal
  timed : ℕ → RawGraph → Reply
  -- the same, with the graph in NSOF
  timed_nsof : ℕ → RawGraph → Reply
  -- the signatures of a store and a soup, and an entry id
  alias : ℕ → ℕ → ℕ → Reply
  -- a unit, the name of a soup, and an entry id
  where_is : ℕ → List ℕ → ℕ → Reply
  -- a unit, an entry id, the minute of the entry, and its graph
  current : ℕ → ℕ → ℕ → RawGraph → Reply
  deleted : Reply
  nil : Reply
  begin : Reply
  «end» : Reply
  -- how many notes were lost, and the last ones
  notes : ℕ → List Note → Reply
  -- the entry has changed, at this minute
  changed : ℕ → Reply
  refused : Refusal → Reply
  -- the device of this unit failed, and the unit is mounted no more
  thrown : ℕ → Reply

-- ---- fields

-- a name in quotes where it holds a space, a quote or a backslash (this project's own)
abbrev pub name_field : List ℕ → List ℕ
name_field name =
    if list_any needs_quotes name then codes "\"" ++ flat_map (escaped (codes "\"\\")) name ++ codes "\"" else name

-- the items with a comma and a space between each two (a word of these definitions)
abbrev pub items : List (List ℕ) → List ℕ
items [] = []
items (x ∷ []) = x
items (x ∷ y ∷ xs) = x ++ codes ", " ++ items (y ∷ xs)

-- fields with a space between each two (a word of these definitions)
abbrev pub spaced : List (List ℕ) → List ℕ
spaced = join_with_byte 32

-- a path with points between its names, as it was declared (this project's own)
abbrev pub path_field : Path → List ℕ
path_field = join_with_byte 46

-- the word of a type (this project's own)
abbrev pub kind_word : Kind → List ℕ
kind_word kind.Text = codes "string"
kind_word kind.Int = codes "int"
kind_word kind.Char = codes "char"
kind_word kind.Symbol = codes "symbol"

-- the word of a direction (this project's own)
abbrev pub direction_word : Order → List ℕ
direction_word order.Ascend = codes "ascend"
direction_word order.Descend = codes "descend"

-- a part of an index (this project's own)
abbrev pub part_field : IndexPart → List ℕ
part_field p = path_field p.path ++ codes ":" ++ kind_word p.kind ++ codes ":" ++ direction_word p.direction

-- the word of a kind of notes (this project's own)
abbrev pub note_word : note_kind.Kind → List ℕ
note_word noted.Make = codes "make"
note_word noted.Gone = codes "drop"
note_word noted.Add = codes "add"
note_word noted.Change = codes "change"
note_word noted.Remove = codes "remove"

-- the id of a note's entry; a note of a soup has none (this project's own)
abbrev pub note_uid : Note → List (List ℕ)
note_uid note =
    elim note.kind [ noted.Make ↦ [] | noted.Gone ↦ [] | _ ↦ decimal_text note.uid ∷ [] ]

-- a note in a list (this project's own)
abbrev pub note_field : Note → List ℕ
note_field note = spaced
    (note_word note.kind ∷ decimal_text note.unit ∷ decimal_text note.soup ∷ note_uid note)

-- an alias as a literal (this project's own)
abbrev pub alias_text : ℕ → ℕ → ℕ → List ℕ
alias_text s p uid =
    codes "[alias: " ++ items (decimal_text s ∷ decimal_text p ∷ decimal_text uid ∷ []) ++ codes "]"

-- ---- texts

-- a field after a space; an empty field is left out with its space (this project's own)
abbrev pub field : List ℕ → List ℕ
field [] = []
field (c ∷ cs) = 32 ∷ c ∷ cs

-- a reply that is not a refusal, with its fields (this project's own)
abbrev pub ok : List (List ℕ) → List ℕ
ok fields = codes "ok" ++ flat_map field fields

-- the text of a reply without its line end (this project's own)
abbrev pub reply_line : Reply → List ℕ
reply_line done = ok []
reply_line (number n) = ok (decimal_text n ∷ [])
reply_line (added u uid) = ok (decimal_text u ∷ decimal_text uid ∷ [])
reply_line (store sig name) = ok (decimal_text sig ∷ name_field name ∷ [])
reply_line (stores rows) = ok (items (map (λ r. spaced (decimal_text r.0 ∷ decimal_text r.1 ∷ name_field r.2 ∷ [])) rows) ∷ [])
reply_line (soups rows) = ok (items (map (λ r. spaced (name_field r.0 ∷ decimal_text r.1 ∷ decimal_text r.2 ∷ [])) rows) ∷ [])
reply_line (indexes specs) = ok (items (map (λ spec. spaced (map part_field spec)) specs) ∷ [])
reply_line (tags None) = ok []
reply_line (tags (Some t)) = ok (path_field t.path ∷ t.symbols)
reply_line (hex bytes) = ok (hex_text bytes ∷ [])
reply_line (nsof_of g) = ok (hex_text (nsof g) ∷ [])
reply_line (literal_of g) = ok (literal g ∷ [])
reply_line (timed t g) = ok (decimal_text t ∷ literal g ∷ [])
reply_line (timed_nsof t g) = ok (decimal_text t ∷ hex_text (nsof g) ∷ [])
reply_line (alias s p uid) = ok (alias_text s p uid ∷ [])
reply_line (where_is u name uid) = ok (decimal_text u ∷ name_field name ∷ decimal_text uid ∷ [])
reply_line (current u uid t g) = ok (decimal_text u ∷ decimal_text uid ∷ decimal_text t ∷ literal g ∷ [])
reply_line deleted = ok (codes "deleted" ∷ [])
reply_line nil = ok (codes "nil" ∷ [])
reply_line begin = ok (codes "begin" ∷ [])
reply_line «end» = ok (codes "end" ∷ [])
reply_line (notes lost list) = ok (decimal_text lost ∷ items (map note_field list) ∷ [])
reply_line (changed time) = codes "error " ++ refusal_text Changed ++ 32 ∷ decimal_text time
reply_line (refused r) = codes "error " ++ refusal_text r
reply_line (thrown u) = codes "error 50 device " ++ decimal_text u

-- a reply as it is written, with its line end (this project's own)
abbrev pub reply_text : Reply → List ℕ
reply_text r = reply_line r ++ 10 ∷ []
