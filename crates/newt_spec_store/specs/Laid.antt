-- Objects that write down a store, with the records of its entries in any order. This project's own
-- format.
use Rattle.std.specs.Prelude.{◌≡◌, [], ℕ, ◌%◌, ◌<◌, true, ◌==◌, List, length, map, filter, zip, Option, Some}
use Rattle.newt_graph.specs.Graph.{RawGraph}
use Rattle.newt_spec_nsof.specs.Flat.{flat}
use Rattle.newt_spec_nsof.specs.Lengths.{skeleton}
use Rattle.newt_spec_store.specs.Store.{Entry, Soup, Store}
use Rattle.newt_spec_store.specs.Cost.{directory_bytes}
use Rattle.newt_spec_store.specs.Image.{ObjectList, larges, entry_bytes, all_entries}
use Rattle.newt_spec_store.specs.StoreOf.{LargeRow, EntryRow, object_bytes, named_once}
use Rattle.newt_spec_graph.specs.Lists.{Each, Pairs, Among}

-- the soup without its entries (a word of these definitions)
abbrev pub bare_soup : Soup → Soup
bare_soup p = record p { entries = [] }

-- the store without its entries (a word of these definitions)
abbrev pub bare : Store → Store
bare s = record s { soups = map bare_soup s.soups }

-- a large binary, and the number of its object (a word of these definitions)
abbrev pub Named : Type 0
Named = (ℕ × List ℕ) × ℕ

-- the row of a large binary that is written (this project's own)
abbrev pub row_of_large : Named → LargeRow
row_of_large l = (l.0.0, l.1, length l.0.1)

-- numbers that fit in four bytes (this project's own)
abbrev pub FitsRow : Named → Type 0
FitsRow l = (l.0.0 < 4294967296) × (l.1 < 4294967296) × (length l.0.1 < 4294967296)

-- the object of a large binary is there: it has an even id above 0, and these bytes (this project's
-- own)
abbrev pub IsThere : ObjectList → Named → Type 0
IsThere objects l = (l.1 % 2 ≡ 0) × (0 < l.1) × (object_bytes objects l.1 ≡ Some l.0.1)

-- the row that an entry's record gives (this project's own)
abbrev pub row_of : ℕ → Entry → List ℕ → EntryRow
row_of soup e ids = record { soup = soup; uid = e.uid; time = e.time; text = flat (skeleton e.graph); larges = map row_of_large (zip (larges e.graph) ids) }

-- the numbers of an entry's record fit their fields (this project's own)
pub record FitsRecord (soup : ℕ) (e : Entry) (ids : List ℕ) : Type 0 where
  pub soup_fits : soup < 65536
  pub count_fits : length ids < 65536
  pub uid_fits : e.uid < 4294967296
  pub time_fits : e.time < 4294967296
  pub each_named : length (larges e.graph) ≡ length ids
  pub rows_fit : Each FitsRow (zip (larges e.graph) ids)

-- entries of which no two have one id in one soup (a word of these definitions)
abbrev pub ApartIds : ℕ × Entry → ℕ × Entry → Type 0
ApartIds a b = a.0 ≡ b.0 → a.1.uid ≡ b.1.uid → ⊥

-- exactly the store's entries, each once, in any order (a word of these definitions)
pub record AreEntries (s : Store) (entries : List (ℕ × Entry)) : Type 0 where
  pub sound : (x : ℕ × Entry) → Among entries x → Among (all_entries s) x
  pub complete : (x : ℕ × Entry) → Among (all_entries s) x → Among entries x
  pub once : Pairs ApartIds entries

-- An entry with its record: the id of the record's object, the soup, the entry, and the ids of the
-- objects of its large binaries. (this project's own)
pub record Laid : Type 0 where
  pub object : ℕ
  pub soup : ℕ
  pub entry : Entry
  pub ids : List ℕ

-- the record's object (this project's own)
abbrev pub record_of : Laid → ℕ × List ℕ
record_of x = (x.object, entry_bytes x.soup x.entry x.ids)

-- each info frame is read back from its text (a word of these definitions)
abbrev pub AreInfosRead : (List ℕ → Option RawGraph) → Store → Type 0
AreInfosRead graph_of s = (p : Soup) (g : RawGraph) → Among s.soups p → p.info ≡ Some g → graph_of (flat g) ≡ Some g

-- The objects write down this store. The directory is object 0, and the objects with odd ids are
-- the records of these entries. Their numbers fit their fields. Each info frame and each skeleton
-- is read back from its text. Each large binary is there and named once. The entries are exactly
-- the store's. (this project's own)
pub record IsLaid (graph_of : List ℕ → Option RawGraph) (objects : ObjectList) (s : Store) (laid : List Laid) : Type 0 where
  pub written : object_bytes objects 0 ≡ Some (directory_bytes s)
  pub infos : AreInfosRead graph_of s
  pub records : filter (λ o. o.0 % 2 == 1) objects ≡ map record_of laid
  pub fit : Each (λ x. FitsRecord x.soup x.entry x.ids) laid
  pub decoded : Each (λ x. graph_of (flat (skeleton x.entry.graph)) ≡ Some (skeleton x.entry.graph)) laid
  pub there : Each (λ x. Each (IsThere objects) (zip (larges x.entry.graph) x.ids)) laid
  pub once : named_once graph_of objects (map (λ x. row_of x.soup x.entry x.ids) laid) ≡ true
  pub entries : AreEntries s (map (λ x. (x.soup, x.entry)) laid)
