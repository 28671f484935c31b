-- The notes that a watch gets.
use Rattle.std.specs.Prelude.{◌≡◌, ℕ, Bool, false, ◌==◌, List, [], ◌∷◌, ◌++◌}
use Rattle.std.specs.Prelude.{Option, option_and_then, option_map, if◌then◌else◌, Ok, Err}
use Rattle.newt_base.specs.Names.{equal_text}
use Rattle.newt_notify.specs.declared.note.Note.{Note}
use Rattle.newt_notify.specs.Watch.{Watching}
use Rattle.newt_spec_graph.specs.Lists.{Among, Each}
use Rattle.newt_spec_script.specs.Rows.{Row}
use Rattle.newt_spec_script.specs.Script.{Item}
use Rattle.newt_spec_store.specs.Store.{Entry, Store, soup_named}
use Rattle.newt_spec_world.specs.World.{World, store_on_unit}
use Rattle.newt_spec_world.specs.declared.command.Command.{Command}
use Rattle.newt_spec_world.specs.declared.command.Command.TheVariants as command
use Rattle.newt_spec_whole.specs.Whole.{Whole}
use Rattle.newt_spec_whole.specs.Events.{Event}
use Rattle.newt_laws_whole.specs.Steps.{told_by}

-- the notes of soups of this name (this project's own)
abbrev pub told_to : List ℕ → List Event → List Note
told_to name [] = []
told_to name (e ∷ es) = if equal_text e.0 name then e.1 ∷ told_to name es else told_to name es

-- the command empties the watch or takes it away, where it is not refused (this project's own)
abbrev pub ends_notes : ℕ → Command → Bool
ends_notes n (command.Notes m) = m == n
ends_notes n (command.Unwatch m) = m == n
ends_notes n _ = false

-- the watch with further notes (a word of these definitions)
abbrev pub with_notes : List Note → Watching → Watching
with_notes more w = record w { notes = w.notes ++ more }

-- the entries of the soup of this name on a unit, mounted or not; none where there is no such soup
-- (a word of these definitions)
abbrev pub entries_on : World → ℕ → List ℕ → Option (List Entry)
entries_on w u name =
    option_map (λ p. p.entries) (option_and_then (soup_named name) (store_on_unit w u))

-- ---- where devices may fail

-- the notes that the steps of a run give, one after another; a line that is refused gives none
-- (this project's own)
unfoldable pub told_in : Whole → List Item → List (Row Whole) → List Event
told_in h (Ok c ∷ items) (row ∷ rows) = told_by h c row.0.world row.1 ++ told_in row.0 items rows
told_in h (Err r ∷ items) (row ∷ rows) = told_in row.0 items rows
told_in h items rows = []

-- the line empties the watch or takes it away (this project's own)
abbrev pub item_ends_notes : ℕ → Item → Bool
item_ends_notes n (Ok c) = ends_notes n c
item_ends_notes n (Err r) = false

-- none of the lines empties the watch or takes it away (this project's own)
abbrev pub KeepsWatch : ℕ → List Item → Type 0
KeepsWatch n items = Each (λ item. item_ends_notes n item ≡ false) items

-- the entries of the soup of this name in a store; none where there is no such soup
-- (a word of these definitions)
abbrev pub entries_named : List ℕ → Store → Option (List Entry)
entries_named name s = option_map (λ p. p.entries) (soup_named name s)

-- Each later store has the entries of the soup of this name that one of the stores before had. It
-- has such a soup exactly where that one had it. (this project's own)
abbrev pub KeepEntries : List ℕ → (before after : List Store) → Type 0
KeepEntries name before after = (t : Store) → Among after t
    → (s : Store) × Among before s × (entries_named name t ≡ entries_named name s)
