-- What is found where objects are read one by one: a directory, records of entries of its soups,
-- and the objects that these name.
use Rattle.std.specs.Prelude.{◌≡◌, ◌≢◌, [], ℕ, ◌%◌, ◌<◌, List, map as list_map, Option, Some, None}
use Rattle.std.specs.FinMap as map
use Rattle.newt_graph.specs.Graph.{RawGraph}
use Rattle.newt_spec_image.specs.Objects.{Objects}
use Rattle.newt_spec_nsof.specs.Text.{AreBytes}
use Rattle.newt_spec_graph.specs.Lists.{Pairs, Among}
use Rattle.newt_spec_store.specs.Lies.{Places, directory_read, entry_read}
use Rattle.newt_spec_store.specs.Store.{Entry, Soup, Store}
use Rattle.newt_spec_store.specs.StoreOf.{EntryRow, entry_row}

-- a soup of this signature is there, and it has given this id
pub record HasGiven (d : Store) (sig uid : ℕ) : Type 0 where
  pub soup : Soup
  pub is_soup : Among d.soups soup
  pub of_sig : soup.sig ≡ sig
  pub below : uid < soup.next_uid

-- the bytes are the record of this entry among the objects, and the entry is of a soup of the
-- directory
pub record IsRecord (graph_of : List ℕ → Option RawGraph) (objects : Objects) (d : Store) (bytes : List ℕ) (sig : ℕ) (e : Entry) : Type 0 where
  pub are_bytes : AreBytes bytes
  pub read : entry_read graph_of objects bytes ≡ Some (sig, e)
  pub given : HasGiven d sig e.uid

-- the ids of the objects that a row names
abbrev pub ids_in : Option EntryRow → List ℕ
ids_in None = []
ids_in (Some row) = list_map (λ l. l.1) row.larges

-- the ids of the objects that the bytes of a record name
abbrev pub ids_named : List ℕ → List ℕ
ids_named bytes = ids_in (entry_row bytes)

-- Object 0 is this directory, in the form of this version. Each object with an odd id is a record.
-- It is the object of its entry's place, and these are the ids that it names. There are no other
-- places and no other names. Each other object is named, and none is named twice.
pub record IsFound (graph_of : List ℕ → Option RawGraph) (version : ℕ) (objects : Objects) (place : Places) (named : ℕ → List ℕ) (d : Store) : Type 0 where
  pub directory : (bytes : List ℕ) × (map.get objects 0 ≡ Some bytes) × (directory_read graph_of version bytes ≡ Some d) × AreBytes bytes
  pub records : (id : ℕ) (bytes : List ℕ) → map.get objects id ≡ Some bytes → id % 2 ≡ 1
      → (sig : ℕ) × (e : Entry) × IsRecord graph_of objects d bytes sig e × (place sig e.uid ≡ Some id) × (named id ≡ ids_named bytes)
  pub places : (sig uid id : ℕ) → place sig uid ≡ Some id
      → (bytes : List ℕ) × (e : Entry) × (map.get objects id ≡ Some bytes) × (id % 2 ≡ 1) × IsRecord graph_of objects d bytes sig e × (e.uid ≡ uid)
  pub names : (r o : ℕ) → Among (named r) o → (bytes : List ℕ) × (map.get objects r ≡ Some bytes) × (r % 2 ≡ 1)
  pub others : (id : ℕ) (bytes : List ℕ) → map.get objects id ≡ Some bytes → id ≢ 0 → id % 2 ≡ 0 → (r : ℕ) × Among (named r) id
  pub once : (id other o : ℕ) → Among (named id) o → Among (named other) o → id ≡ other
  pub apart : (id : ℕ) → Pairs (λ a b. a ≢ b) (named id)
