-- What is reached by what a command did to a store.
use Rattle.std.specs.Prelude.{◌≡◌, ℕ, Bool, true, false, ◌&&◌, List, Option, Some, None, slice_get}
use Rattle.newt_spec_query.specs.Cursor.{Cursor}
use Rattle.newt_spec_store.specs.Store.{Store}
use Rattle.newt_spec_world.specs.World.{World, flat}
use Rattle.newt_query.specs.Filter.{asks_texts}
use Rattle.newt_store_change.specs.Entries.{entry_said}
use Rattle.newt_store_change.specs.declared.entry.Entry.{Entry}
use Rattle.newt_engine_units.specs.declared.effects.Deed.{Deed}
use Rattle.newt_engine_units.specs.declared.effects.Deed.TheVariants as deed
use Rattle.newt_engine_units.specs.declared.effects.Effect.{Effect}
use Rattle.newt_engine_hits.specs.Present.{entry_there, has_sig}
use Rattle.newt_laws_reach.specs.Reach as plain
use Rattle.newt_engine_cursors.specs.declared.reach.Reach.{Reach}
use Rattle.newt_engine_cursors.specs.declared.reach.Reach.TheVariants as code

-- what is reached, as the definitions have it (a word of these definitions)
abbrev pub seen_reach : Reach → plain.Reach
seen_reach code.Nowhere = plain.nowhere
seen_reach (code.Store store) = plain.on_store store
seen_reach (code.Soup store soup) = plain.on_soup store soup
seen_reach (code.Entry store soup uid) = plain.on_entry store soup uid

-- a store is there, and what is reached is of it (this project's own)
abbrev pub in_reach : plain.Reach → Option Store → Bool
in_reach plain.nowhere s = false
in_reach (plain.on_store store) s = has_sig store s
in_reach (plain.on_soup store soup) s = has_sig store s
in_reach (plain.on_entry store soup uid) s = has_sig store s

-- what a deed reaches in a store of this signature, with the number that was answered: the entry that
-- it made or changed, or the entries of the soup whose declarations grow (this project's own)
abbrev pub deed_reach : ℕ → Deed → ℕ → plain.Reach
deed_reach store (deed.Added soup) n = plain.on_entry store soup n
deed_reach store (deed.Moved soup uid into) n = plain.on_entry store into n
deed_reach store (deed.Changed soup uid) n = plain.on_entry store soup uid
deed_reach store (deed.Declared soup) n = plain.on_soup store soup
deed_reach store d n = plain.nowhere

-- what an effect reaches in the store that is mounted on its unit (this project's own)
abbrev pub reach_done : Option Store → Effect → plain.Reach
reach_done None e = plain.nowhere
reach_done (Some s) e = deed_reach s.sig e.deed e.answer

-- a cursor is open, stands on an entry that is reached, and its query asks for words or texts (this project's own)
abbrev pub asks_reached : plain.Reach → Option Cursor → Bool
asks_reached r None = false
asks_reached r (Some k) = plain.is_reached r k.place && asks_texts k.query.spec

-- no cursor does (a word of these definitions)
abbrev pub NoneAsks : plain.Reach → List (Option Cursor) → Type 0
NoneAsks r cursors = (c : ℕ) → asks_reached r (flat (slice_get cursors c)) ≡ false

-- the same of one entry (a word of these definitions)
abbrev pub asks_on : ℕ → ℕ → ℕ → Option Cursor → Bool
asks_on store soup uid k = asks_reached (plain.on_entry store soup uid) k

-- an entry is at hand, where a cursor asks for its words or texts (this project's own)
abbrev pub IsAtHand : World → ℕ → ℕ → ℕ → Option Entry → Option Cursor → Type 0
IsAtHand w store soup uid entry k = asks_on store soup uid k ≡ true → entry_said entry ≡ entry_there w store soup uid

-- a cursor is open and stands on an entry that is reached (this project's own)
abbrev pub cursor_reached : plain.Reach → Option Cursor → Bool
cursor_reached r None = false
cursor_reached r (Some k) = plain.is_reached r k.place
