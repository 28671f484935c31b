-- How a store lies in objects, and what one object is read as. All of it is this project's own.
use Rattle.std.specs.Prelude.{◌≡◌, ◌≢◌, ◌⊎◌, ◌==◌, ◌&&◌, ℕ, ◌%◌, ◌<◌, nat_lt, Bool, List, length, fold, zip, replicate, map as list_map, Option, Some, option_and_then, option_map}
use Rattle.std.specs.List.{list_all}
use Rattle.std.specs.FinMap as map
use Rattle.newt_graph.specs.Graph.{RawGraph, IsGraph}
use Rattle.newt_spec_image.specs.Objects.{Objects}
use Rattle.newt_spec_nsof.specs.Flat.{flat}
use Rattle.newt_spec_nsof.specs.Lengths.{skeleton}
use Rattle.newt_spec_graph.specs.Lists.{Each, Pairs, Among}
use Rattle.newt_spec_store.specs.Cost.{directory_bytes}
use Rattle.newt_spec_store.specs.Image.{larges, entry_bytes}
use Rattle.newt_spec_store.specs.Laid.{Named}
use Rattle.newt_spec_store.specs.Reading.{whole, written, directory}
use Rattle.newt_spec_store.specs.Store.{Entry, Soup, Store}
use Rattle.newt_spec_store.specs.StoreOf.{LargeRow, EntryRow, only, entry_row, entry_of_row, fill, names_larges}
use Rattle.newt_spec_store.specs.Valid.{valid_entry, well_formed, keeps_version}

-- the directory that bytes of an image of this version are read as: a store without entries that is
-- well formed (this project's own)
abbrev pub directory_read : (List ℕ → Option RawGraph) → ℕ → List ℕ → Option Store
directory_read graph_of version bytes = only well_formed (only (keeps_version version) (whole (directory graph_of) bytes))

-- ---- one record

-- What the bytes of a record are read as: the entry, and the signature of its soup. The objects
-- have the bytes of its large binaries. (this project's own)
abbrev pub entry_read : (List ℕ → Option RawGraph) → Objects → List ℕ → Option (ℕ × Entry)
entry_read graph_of objects bytes = only (λ x. valid_entry x.1) (option_and_then (entry_of_row graph_of (map.entries objects)) (entry_row bytes))

-- a graph with as many zero bytes in its large binaries as the rows say (a word of these
-- definitions)
abbrev pub stretched : List LargeRow → RawGraph → RawGraph
stretched rows g = fold fill g (list_map (λ l. (l.0, replicate l.2 0)) rows)

-- the object of a large binary has an even id above 0 (this project's own)
abbrev pub may_be_large : LargeRow → Bool
may_be_large l = (l.1 % 2 == 0) && nat_lt 0 l.1

-- The rows name each large binary of the skeleton, in order, with an object that may be one. The
-- skeleton, with as many bytes in them as the rows say, may be the graph of an entry. (this
-- project's own)
abbrev pub is_record : EntryRow × RawGraph → Bool
is_record (row, g) =
    names_larges row g && list_all may_be_large row.larges && valid_entry (record { uid = row.uid; time = row.time; graph = stretched row.larges g })

-- what the bytes of a record are read as alone: its row, and its skeleton (this project's own)
abbrev pub record_read : (List ℕ → Option RawGraph) → List ℕ → Option (EntryRow × RawGraph)
record_read graph_of bytes = only is_record (option_and_then (λ row. option_map (λ g. (row, g)) (written graph_of row.text)) (entry_row bytes))

-- The flat text of each graph is read as that graph, and whatever is read is a graph in normal
-- form. (a word of these definitions)
pub record ReadsGraphs (graph_of : List ℕ → Option RawGraph) : Type 0 where
  pub back : (g : RawGraph) → IsGraph g → graph_of (flat g) ≡ Some g
  pub graphs : (text : List ℕ) (g : RawGraph) → graph_of text ≡ Some g → IsGraph g

-- ---- stores

-- Where the record of each entry is: the id of its object, by the signature of the entry's soup and
-- the entry's id. None where there is no such entry. (a word of these definitions)
abbrev pub Places : Type 0
Places = ℕ → ℕ → Option ℕ

-- the entry is one of the store's, in a soup of this signature (a word of these definitions)
pub record IsIn (s : Store) (sig : ℕ) (e : Entry) : Type 0 where
  pub soup : Soup
  pub is_soup : Among s.soups soup
  pub of_sig : soup.sig ≡ sig
  pub is_entry : Among soup.entries e

-- A large binary's object has an even id above 0, which fits in four bytes, and has its bytes.
-- (this project's own)
abbrev pub HasLarge : Objects → Named → Type 0
HasLarge objects l = (l.1 % 2 ≡ 0) × (0 < l.1) × (l.1 < 4294967296) × (map.get objects l.1 ≡ Some l.0.1)

-- These are the objects of the large binaries of a graph, in order: one for each, and no two are
-- one. (this project's own)
pub record AreLarges (objects : Objects) (g : RawGraph) (ids : List ℕ) : Type 0 where
  pub each_named : length (larges g) ≡ length ids
  pub there : Each (HasLarge objects) (zip (larges g) ids)
  pub apart : Pairs (λ a b. a ≢ b) ids

-- How a store lies in objects. The directory is object 0. The record of each entry is the object of
-- its place, which has an odd id, and names the objects of the entry's large binaries. No object is
-- named by two records. There are no other objects, no other places and no other names. Info frames
-- and skeletons are in normal form, and the minute of each entry fits in four bytes. `named` gives
-- the ids that the record of an object names. (this project's own)
pub record LiesIn (objects : Objects) (place : Places) (s : Store) : Type 0 where
  pub named : ℕ → List ℕ
  pub directory : map.get objects 0 ≡ Some (directory_bytes s)
  pub records : (sig : ℕ) (e : Entry) → IsIn s sig e
      → (id : ℕ) × (place sig e.uid ≡ Some id) × (id % 2 ≡ 1) × (map.get objects id ≡ Some (entry_bytes sig e (named id))) × AreLarges objects e.graph (named id)
  pub once : (id other o : ℕ) → Among (named id) o → Among (named other) o → id ≡ other
  pub only_these : (id : ℕ) (bytes : List ℕ) → map.get objects id ≡ Some bytes → id ≢ 0
      → ((sig : ℕ) × (e : Entry) × IsIn s sig e × (place sig e.uid ≡ Some id)) ⊎ ((r : ℕ) × Among (named r) id)
  pub names : (r o : ℕ) → Among (named r) o → (sig : ℕ) × (e : Entry) × IsIn s sig e × (place sig e.uid ≡ Some r)
  pub places : (sig uid id : ℕ) → place sig uid ≡ Some id → (e : Entry) × IsIn s sig e × (e.uid ≡ uid)
  pub infos : (p : Soup) (g : RawGraph) → Among s.soups p → p.info ≡ Some g → IsGraph g
  pub skeletons : (sig : ℕ) (e : Entry) → IsIn s sig e → IsGraph (skeleton e.graph)
  pub times : (sig : ℕ) (e : Entry) → IsIn s sig e → e.time < 4294967296
