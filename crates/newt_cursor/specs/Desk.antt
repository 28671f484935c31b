-- What is asked of the places for cursors, and how one changes.
use Rattle.std.specs.Prelude.{ℕ, Bool, false, Option, Some, None}
use Rattle.newt_spec_store.specs.Keys.{Key}
use Rattle.newt_spec_query.specs.Cursor.{Place, on, Cursor, same_identity}

-- a place on a hit takes this key; every other place stays (this project's own)
abbrev pub with_key : Key → Place → Place
with_key key (on hit) = on (record hit { key = key })
with_key key place = place

-- the place is on the entry of these signatures and this id (this project's own)
abbrev pub is_on : ℕ → ℕ → ℕ → Place → Bool
is_on store soup uid (on hit) =
    same_identity hit (record hit { store = store; soup = soup; uid = uid })
is_on store soup uid place = false

-- a cursor is open and stands on this entry (this project's own)
abbrev pub stands_on : ℕ → ℕ → ℕ → Option Cursor → Bool
stands_on store soup uid None = false
stands_on store soup uid (Some k) = is_on store soup uid k.place

-- a cursor at this place (a word of these definitions)
abbrev pub put_on : Place → Cursor → Cursor
put_on place k = record k { place = place }

-- a cursor whose entry has this key, where it stands on one (this project's own)
abbrev pub keyed : Key → Cursor → Cursor
keyed key k = record k { place = with_key key k.place }
