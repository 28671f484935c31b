-- Entries with all their bytes, as a program has them.
use Rattle.std.specs.Prelude.{ℕ}
use Rattle.newt_spec_store.specs.Store.{Entry}
use Rattle.newt_entries.specs.declared.full.FullEntry.{FullEntry}

-- the entry
abbrev pub as_entry : FullEntry → Entry
as_entry e = record { uid = e.uid; time = e.time; graph = e.graph }

-- the entry, with its soup's signature
abbrev pub told : FullEntry → ℕ × Entry
told e = (e.soup, as_entry e)
