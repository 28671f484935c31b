-- What is found where a store is opened. This project's own.
use Rattle.std.specs.Prelude.{◌≡◌, ◌≢◌, ◌⊎◌, ℕ, ◌+◌, ◌%◌, ◌<◌, ◌==◌, Bool, true, false, IsTrue, List, map as list_map, Option, Some, None}
use Rattle.std.specs.List.{list_all}
use Rattle.std.specs.FinMap as map
use Rattle.std.specs.BTreeMap as tree
use Rattle.std.specs.BTreeMap.{BTreeMap}
use Rattle.std.specs.Ordering.{nat_cmp}
use Rattle.newt_spec_image.specs.Objects.{Extent, Table, Objects}
use Rattle.newt_spec_nsof.specs.Text.{AreBytes}
use Rattle.newt_objects.specs.Changing.{HoldsObjects}
use Rattle.newt_spec_graph.specs.Lists.{Among, Pairs}
use Rattle.newt_spec_store.specs.Store.{Store, Entry}
use Rattle.newt_spec_store.specs.Lies.{Places, directory_read, record_read}
use Rattle.newt_laws_changes.specs.Written.{Names}
use Rattle.newt_laws_images.specs.Found.{HasGiven, IsRecord, ids_named}
use Rattle.newt_soupdir.specs.Bare.{bare_store}
use Rattle.newt_soupdir.specs.declared.rows.Directory.{Directory}
use Rattle.newt_nsof_flat.specs.Stream.{stream_graph}
use Rattle.newt_entries.specs.Entry.{said}
use Rattle.newt_entries.specs.declared.row.EntryRow.{EntryRow}
use Rattle.newt_entries.specs.declared.row.LargeAt.{LargeAt}
use Rattle.newt_objects_commit.specs.Names.{AreSoundNames}
use Rattle.newt_objects_commit.specs.Places.{AreSoundPlaces}

-- where bytes are told, it holds of the objects of an image
abbrev pub OfObjects : Bool → List ℕ → (Objects → Type 0) → Type 0
OfObjects told now P = IsTrue told → (texts : Objects) → HoldsObjects now texts → P texts

-- object 0, of an image of this version, is read as this directory
pub record IsRoot (version : ℕ) (directory : Directory) (texts : Objects) : Type 0 where
  pub bytes : List ℕ
  pub object : map.get texts 0 ≡ Some bytes
  pub read : directory_read stream_graph version bytes ≡ Some (bare_store directory)
  pub are_bytes : AreBytes bytes

-- the object of this id is read alone as this record
pub record IsRow (id : ℕ) (row : EntryRow) (texts : Objects) : Type 0 where
  pub bytes : List ℕ
  pub object : map.get texts id ≡ Some bytes
  pub read : record_read stream_graph bytes ≡ Some (said row)
  pub are_bytes : AreBytes bytes

-- the object of this id has these bytes
abbrev pub HasObject : ℕ → List ℕ → Objects → Type 0
HasObject id bytes texts = map.get texts id ≡ Some bytes

-- ---- who names an object

-- the object is there, and has so many bytes
abbrev pub is_long : ℕ → Option Extent → Bool
is_long size None = false
is_long size (Some x) = x.length == size

-- the object that a row names is there, with the row's length
abbrev pub has_length : Table → LargeAt → Bool
has_length table l = is_long l.length (table l.object)

-- by the id of an object, the object of the record that names it
abbrev pub Owners : Type 0
Owners = ℕ → Option ℕ

-- the object of the record that names this one
abbrev pub owner_of : BTreeMap ℕ ℕ → Owners
owner_of owners o = tree.get nat_cmp owners o

-- the ids of the objects that rows name, in order
abbrev pub objects_named : List LargeAt → List ℕ
objects_named rows = list_map (λ l. l.object) rows

-- None of these objects had an owner, and none stands twice; they have this one now, and all others have what they had.
pub record OwnsThese (ids : List ℕ) (id : ℕ) (old new : Owners) : Type 0 where
  pub free : (o : ℕ) → Among ids o → old o ≡ None
  pub once : Pairs (λ a b. a ≢ b) ids
  pub owned : (o : ℕ) → Among ids o → new o ≡ Some id
  pub others : (o : ℕ) → (Among ids o → ⊥) → new o ≡ old o

-- One of these objects has an owner, or one stands twice.
abbrev pub AreOwned : List ℕ → Owners → Type 0
AreOwned ids owner = ((o : ℕ) → Among ids o → owner o ≡ None) → Pairs (λ a b. a ≢ b) ids → ⊥

-- ---- one record of an entry

-- A soup of the directory has given its id, it had no place, and its large binaries are there and had no owner; it has this place and these names now, and owns what it names.
pub record FindsRow (table : Table) (d : Store) (id : ℕ) (row : EntryRow) (place : Places) (names : Names) (owner : Owners) (place' : Places) (names' : Names) (owner' : Owners) : Type 0 where
  pub given : HasGiven d row.soup row.uid
  pub free : place row.soup row.uid ≡ None
  pub there : list_all (λ l. has_length table l) row.larges ≡ true
  pub owns : OwnsThese (objects_named row.larges) id owner owner'
  pub placed : place' row.soup row.uid ≡ Some id
  pub other_places : (sig uid : ℕ) → ((sig ≡ row.soup) → (uid ≡ row.uid) → ⊥) → place' sig uid ≡ place sig uid
  pub named : names' id ≡ objects_named row.larges
  pub other_names : (r : ℕ) → r ≢ id → names' r ≡ names r

-- No soup has given its id, or it has a place, or one of its large binaries is not there or has an owner.
abbrev pub IsNoRow : Table → Store → EntryRow → Places → Owners → Type 0
IsNoRow table d row place owner =
    (HasGiven d row.soup row.uid → ⊥) ⊎ (((other : ℕ) × (place row.soup row.uid ≡ Some other)) ⊎ ((list_all (λ l. has_length table l) row.larges ≡ false) ⊎ AreOwned (objects_named row.larges) owner))

-- ---- what is found up to an id

-- The places and the names are sound, the places are those of objects up to an id, and the record that names an object has a place, is its owner, and no other is.
pub record AreSoundTo (last : ℕ) (table : Table) (place : Places) (names : Names) (owner : Owners) : Type 0 where
  pub places : AreSoundPlaces table place
  pub below : (sig uid id : ℕ) → place sig uid ≡ Some id → id < last + 1
  pub named : AreSoundNames table names
  pub placed : (r o : ℕ) → Among (names r) o → (sig : ℕ) × (uid : ℕ) × (place sig uid ≡ Some r)
  pub owned : (r o : ℕ) → Among (names r) o → owner o ≡ Some r
  pub owns : (r o : ℕ) → owner o ≡ Some r → Among (names r) o

-- Each object up to an id with an odd one is a record, has its place, and names these objects; and there are no other places.
pub record AreFoundTo (last : ℕ) (place : Places) (names : Names) (d : Store) (texts : Objects) : Type 0 where
  pub records : (id : ℕ) (bytes : List ℕ) → map.get texts id ≡ Some bytes → id % 2 ≡ 1 → id < last + 1
      → (sig : ℕ) × (e : Entry) × IsRecord stream_graph texts d bytes sig e × (place sig e.uid ≡ Some id) × (names id ≡ ids_named bytes)
  pub places : (sig uid id : ℕ) → place sig uid ≡ Some id
      → (bytes : List ℕ) × (e : Entry) × (map.get texts id ≡ Some bytes) × (id % 2 ≡ 1) × IsRecord stream_graph texts d bytes sig e × (e.uid ≡ uid)
