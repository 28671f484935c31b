-- Parts of the texts of replies, with std's decimals. The text of a whole reply stays closed in
-- proofs.
use Rattle.std.specs.Prelude.{ℕ, List, [], ◌∷◌, ◌++◌, map, flat_map, codes, decimal}
use Rattle.newt_spec_literal.specs.Printed.{escaped}
use Rattle.newt_spec_store.specs.Keys.{IndexSpec, IndexPart}
use Rattle.newt_spec_world.specs.Reply.{Reply, reply_text, ok, items, spaced, name_field, part_field, note_word}
use Rattle.newt_notify.specs.declared.note.Note.{Note}
use Rattle.newt_notify.specs.declared.note.Kind.TheVariants as noted
use Rattle.newt_reply.specs.declared.rows.StoreLine.{StoreLine}
use Rattle.newt_reply.specs.declared.rows.SoupLine.{SoupLine}

-- the text of a reply
unfoldable pub written : Reply → List ℕ
written = reply_text

-- the line of a reply that is no refusal, with its end
unfoldable pub ok_text : List (List ℕ) → List ℕ
ok_text fields = ok fields ++ 10 ∷ []

-- a name in quotes
abbrev pub quoted : List ℕ → List ℕ
quoted name = codes "\"" ++ flat_map (escaped (codes "\"\\")) name ++ codes "\""

-- a mounted store in a list: its unit, its signature and its name
unfoldable pub store_item : StoreLine → List ℕ
store_item line = spaced (decimal line.unit ∷ decimal line.sig ∷ name_field line.name ∷ [])

-- a soup in a list: its name, its signature and how many entries it has
unfoldable pub soup_item : SoupLine → List ℕ
soup_item line = spaced (name_field line.name ∷ decimal line.sig ∷ decimal line.count ∷ [])

-- a part of an index
unfoldable pub part_item : IndexPart → List ℕ
part_item = part_field

-- an index in a list: its parts
unfoldable pub spec_item : IndexSpec → List ℕ
spec_item parts = spaced (map part_item parts)

-- an alias as a literal
unfoldable pub alias_item : ℕ → ℕ → ℕ → List ℕ
alias_item store soup uid = codes "[alias: " ++ items (decimal store ∷ decimal soup ∷ decimal uid ∷ []) ++ codes "]"

-- the id of a note's entry; a note of a soup has none
abbrev pub uid_item : Note → List (List ℕ)
uid_item note = elim note.kind [ noted.Make ↦ [] | noted.Gone ↦ [] | _ ↦ decimal note.uid ∷ [] ]

-- a note in a list: its kind, its unit, its soup, and the id of its entry
unfoldable pub note_item : Note → List ℕ
note_item note =
    spaced (note_word note.kind ∷ decimal note.unit ∷ decimal note.soup ∷ uid_item note)
