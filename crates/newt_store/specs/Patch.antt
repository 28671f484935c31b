-- Where a patch goes, and a reading of bytes. This project's own.
use Rattle.std.specs.Prelude.{◌≡◌, ℕ, ◌+◌, ◌<◌, ◌≤◌, List, length, slice_get, Option, Some, None, Result, Ok, Err}
use Rattle.newt_base.specs.declared.Refusal.TheVariants.{Range}
use Rattle.newt_host.specs.Moments.{bytes_from}
use Rattle.newt_spec_graph.specs.Larges.{large_at}
use Rattle.newt_spec_store.specs.Cost.{record_pages as pages_of_record}
use Rattle.newt_spec_store.specs.Keys.{Path}
use Rattle.newt_spec_store.specs.Image.{larges}
use Rattle.newt_spec_store.specs.Store.{Store, Soup, Entry, entry_of, soup_of}
use Rattle.newt_objects_commit.specs.Names.{names_of}
use Rattle.newt_objects_commit.specs.Places.{place_of}
use Rattle.newt_store_change.specs.declared.fault.StoreFault.{StoreFault}
use Rattle.newt_store_change.specs.declared.fault.StoreFault.TheVariants.{Refused, Stop}
use Rattle.newt_store_catalog.specs.declared.catalog.Catalog.{Catalog}

-- the pages of an entry's record alone, none where there is no entry
abbrev pub record_pages : Option Entry → ℕ
record_pages None = 0
record_pages (Some e) = pages_of_record e

-- the path reaches the large binary of this number in the entry's graph
abbrev pub ReachesNode : Path → (node : ℕ) → Option Entry → Type 0
ReachesNode path node None = ⊥
ReachesNode path node (Some e) = large_at e.graph path ≡ Some node

-- so many bytes of a text, from a place on, or Range where they end past its end
abbrev pub ReadsPart : (at many : ℕ) → List ℕ → Result (List ℕ) StoreFault → Type 0
ReadsPart at many text (Ok bytes) = (at + many ≤ length text) × (bytes ≡ bytes_from at many text)
ReadsPart at many text (Err (Refused refusal)) = (refusal ≡ Range) × (length text < at + many)
ReadsPart at many text (Err (Stop stop)) = Unit {0}

-- The object has the bytes of a large binary of an entry of the store: of the node of this number.
pub record IsLargeOf (catalog : Catalog) (s : Store) (sig uid node o : ℕ) : Type 0 where
  pub soup : Soup
  pub entry : Entry
  pub is_soup : soup_of sig s ≡ Some soup
  pub is_entry : entry_of uid soup ≡ Some entry
  pub id : ℕ
  pub placed : place_of catalog.places sig uid ≡ Some id
  pub at : ℕ
  pub bytes : List ℕ
  pub is_large : slice_get (larges entry.graph) at ≡ Some (node, bytes)
  pub is_named : slice_get (names_of catalog.names id) at ≡ Some o
