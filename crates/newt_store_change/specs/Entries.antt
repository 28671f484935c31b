-- Entries, and bytes of their large binaries, that are read.
use Rattle.std.specs.Prelude.{◌≡◌, ℕ, ◌+◌, Bool, true, List, [], ◌∷◌, length, nat_lt, Option, Some, None, option_map, is_none, Result, Ok, Err}
use Rattle.newt_base.specs.declared.Refusal.TheVariants.{Entry as NoEntry, Path as NoPath, Range}
use Rattle.newt_base.specs.Refusals.{Checks, first_of}
use Rattle.newt_graph.specs.Graph.{RawGraph}
use Rattle.newt_host.specs.Moments.{bytes_from}
use Rattle.newt_spec_graph.specs.Larges.{large_at, large_bytes}
use Rattle.newt_spec_store.specs.Cost.{range_pages, record_pages}
use Rattle.newt_spec_store.specs.Keys.{Path}
use Rattle.newt_spec_store.specs.Store.{Entry as PlainEntry}
use Rattle.newt_store_change.specs.declared.entry.Entry.{Entry}
use Rattle.newt_store_change.specs.declared.fault.StoreFault.{StoreFault}
use Rattle.newt_store_change.specs.declared.fault.StoreFault.TheVariants.{Refused, Stop}

-- an entry that was read, as the plain store has it (a word of these definitions)
abbrev pub plain_entry : Entry → PlainEntry
plain_entry e = record { uid = e.uid; time = e.time; graph = e.graph }

-- the same of one that may not be there (a word of these definitions)
abbrev pub entry_said : Option Entry → Option PlainEntry
entry_said found = option_map plain_entry found

-- what an entry that is read is, or that it is not there (this project's own)
abbrev pub ReadsEntry : Option PlainEntry → Result Entry StoreFault → Type 0
ReadsEntry found (Ok e) = entry_said (Some e) ≡ found
ReadsEntry found (Err (Refused refusal)) = (found ≡ None) × (refusal ≡ NoEntry)
ReadsEntry found (Err (Stop stop)) = Unit {0}

-- what the reading of bytes up to a place of the large binary at a path of an entry's graph is
-- refused for
abbrev pub large_checks : Path → (upto : ℕ) → Option PlainEntry → Checks
large_checks path upto None = (NoEntry, true) ∷ []
large_checks path upto (Some e) = (NoPath, is_none (large_at e.graph path)) ∷ (Range, nat_lt (length (large_bytes e.graph path)) upto) ∷ []

-- these bytes
abbrev pub large_part : Path → (at many : ℕ) → Option PlainEntry → List ℕ
large_part path at many None = []
large_part path at many (Some e) = bytes_from at many (large_bytes e.graph path)

-- the most pages that such a reading fetches: those of the entry's record and of the range
abbrev pub large_fetches : (many : ℕ) → Option PlainEntry → ℕ
large_fetches many None = 0
large_fetches many (Some e) = record_pages e + range_pages many

-- so many bytes of the large binary at a path, from a place on, or the first test that holds
abbrev pub ReadsLarge : Path → (at many : ℕ) → Option PlainEntry → Result (List ℕ) StoreFault → Type 0
ReadsLarge path at many found (Ok bytes) = (first_of (large_checks path (at + many) found) ≡ None) × (bytes ≡ large_part path at many found)
ReadsLarge path at many found (Err (Refused refusal)) = first_of (large_checks path (at + many) found) ≡ Some refusal
ReadsLarge path at many found (Err (Stop stop)) = Unit {0}
