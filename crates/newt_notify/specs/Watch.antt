-- A watch, the notes that it was given, and what it keeps of them.
use Rattle.std.specs.Prelude.{ℕ, ◌-◌, List, [], ◌∷◌, ◌++◌, length, min, map, Option}
use Rattle.std.specs.Prelude.{option_map, slice_get, if◌then◌else◌}
use Rattle.std.specs.Option.{option_flatten}
use Rattle.newt_base.specs.Names.{equal_text}
use Rattle.circular_buffer.specs.Buffer.{keep_last}
use Rattle.newt_notify.specs.declared.note.Note.{Note}

-- A watch of the world: the name of the soups that it watches, how many notes it keeps at most, and
-- all notes since it was made or emptied. (this project's own)
pub record Watching : Type 0 where
  pub name : List ℕ
  pub most : ℕ
  pub notes : List Note

-- What a watch keeps of its notes: the last ones, and how many it has lost before them.
-- (this project's own)
pub record Kept : Type 0 where
  pub name : List ℕ
  pub most : ℕ
  pub lost : ℕ
  pub last : List Note

-- how many of these notes are lost where so many are kept; the count stops at 2^32 - 1
-- (this project's own)
abbrev pub lost_of : ℕ → List Note → ℕ
lost_of most notes = min (length notes - most) 4_294_967_295

-- what a watch keeps (this project's own)
abbrev pub kept_of : Watching → Kept
kept_of w = record
    { name = w.name; most = w.most; lost = lost_of w.most w.notes; last = keep_last w.most w.notes }

-- a new watch, which has no notes (this project's own)
abbrev pub watching : List ℕ → ℕ → Watching
watching name most = record { name = name; most = most; notes = [] }

-- the watch once it is emptied (this project's own)
abbrev pub emptied : Watching → Watching
emptied w = watching w.name w.most

-- the watch with a further note (a word of these definitions)
abbrev pub with_note : Note → Watching → Watching
with_note note w = record w { notes = w.notes ++ note ∷ [] }

-- the watch after a note of a soup of this name, which it takes where the name is its own (this
-- project's own)
abbrev pub taking : List ℕ → Note → Watching → Watching
taking name note w = if equal_text name w.name then with_note note w else w

-- what a new watch of the same name would keep (a word of these definitions)
abbrev pub as_new : Kept → Kept
as_new kept = kept_of (watching kept.name kept.most)

-- ---- places for watches

-- what all of them keep (a word of these definitions)
abbrev pub kept_all : List (Option Watching) → List (Option Kept)
kept_all ws = map (option_map kept_of) ws

-- all of them after a note of a soup of this name (a word of these definitions)
abbrev pub noted : List ℕ → Note → List (Option Watching) → List (Option Watching)
noted name note ws = map (option_map (taking name note)) ws

-- the watch of this number, if there is one (a word of these definitions)
abbrev pub watch_at : {X : Type 0} → ℕ → List (Option X) → Option X
watch_at n ws = option_flatten (slice_get ws n)
