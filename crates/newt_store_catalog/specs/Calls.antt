-- What calls that read entries, and that find a unit's store, ask and promise. All of it is this
-- project's own.
use Rattle.newt_spec_image.specs.Records.{version}
use Rattle.std.specs.Prelude.{◌≡◌, ℕ, ◌+◌, ◌*◌, Bool, true, IsTrue, List, length, map as list_map, Some, IsSome, Result, IfOk, Vec}
use Rattle.std.specs.Global.{Global}
use Rattle.std.specs.List.{list_all, sum, sum_by}
use Rattle.std.specs.FinMap as map
use Rattle.newt_host.specs.Moments.{image}
use Rattle.newt_host.specs.Outside.{Outside, OnlyReads, Spends}
use Rattle.newt_spec_image.specs.Objects.{Objects, Table, pages_for}
use Rattle.newt_pagebook.specs.Book.{Numbers}
use Rattle.newt_pagebook.specs.declared.book.BookFault.{BookFault}
use Rattle.newt_pagebook.specs.declared.book.Stop.{Stop}
use Rattle.newt_objects.specs.Held.{Held, held}
use Rattle.newt_objects.specs.Changing.{HoldsObjects}
use Rattle.newt_objects_commit.specs.Commit.{AreKept}
use Rattle.newt_objects_commit.specs.Names.{AreSoundNames}
use Rattle.newt_objects_commit.specs.Places.{AreSoundPlaces, place_of}
use Rattle.newt_laws_changes.specs.Written.{Names}
use Rattle.newt_laws_images.specs.Found.{IsFound}
use Rattle.newt_spec_nsof.specs.Flat.{flat}
use Rattle.newt_spec_store.specs.Cost.{entry_pages}
use Rattle.newt_spec_store.specs.Lies.{Places, record_read}
use Rattle.newt_spec_store.specs.Store.{Store, Entry}
use Rattle.newt_spec_store.specs.Valid.{well_formed}
use Rattle.newt_soupdir.specs.Bare.{bare_store}
use Rattle.newt_soupdir.specs.declared.rows.Directory.{Directory}
use Rattle.newt_nsof_flat.specs.Stream.{stream_graph}
use Rattle.newt_entries.specs.Entry.{row_at, fits as fits_skeleton, said}
use Rattle.newt_entries.specs.declared.row.EntryRow.{EntryRow}
use Rattle.newt_entries.specs.declared.row.LargeAt.{LargeAt}
use Rattle.newt_store_change.specs.Entries.{plain_entry}
use Rattle.newt_store_change.specs.declared.entry.Entry.{Entry as ReadEntry}
use Rattle.newt_store_catalog.specs.Opening.{AreFoundTo, AreSoundTo, IsRoot, OfObjects, Owners, has_length}
use Rattle.newt_store_catalog.specs.Gathering.{Graphs, HasGathered}
use Rattle.newt_store_catalog.specs.Readable.{readable}
use Rattle.newt_store_catalog.specs.Reading.{HaveBytes, IsLaidAt, ReadEnds, ReadsOf, SearchEnds}
use Rattle.newt_store_catalog.specs.Stands.{IsSound, StandsFor}
use Rattle.newt_store_catalog.specs.declared.catalog.Catalog.{Catalog}

-- ---- what is read

-- Where bytes are told, an entry lies under this id among the objects of an image.
pub record LiesThere (id : ℕ) (now : List ℕ) : Type 0 where
  pub texts : Objects
  pub holds : HoldsObjects now texts
  pub sig : ℕ
  pub entry : Entry
  pub ids : List ℕ
  pub laid : IsLaidAt texts id sig entry ids

-- There is an object of this id, and where bytes are told it is the record of an entry.
pub record HasEntry (told : Bool) (objects : Held) (id : ℕ) (now : List ℕ) : Type 0 where
  pub there : IsSome (held objects id)
  pub lies : IsTrue told → LiesThere id now

-- what is claimed, where bytes are told, of the bytes of an object of an image
abbrev pub ForObject : Bool → List ℕ → ℕ → (List ℕ → Type 0) → Type 0
ForObject told now id claim = IsTrue told → (texts : Objects) (bytes : List ℕ) →
    HoldsObjects now texts → map.get texts id ≡ Some bytes → claim bytes

-- the same of the objects that rows name
abbrev pub ForLarges : Bool → List ℕ → List LargeAt → (List (List ℕ) → Type 0) → Type 0
ForLarges told now rows claim = IsTrue told → (texts : Objects) (bs : List (List ℕ)) →
    HoldsObjects now texts → HaveBytes texts rows bs → claim bs

-- the same of an entry whose record is the object
abbrev pub ForEntry : Bool → List ℕ → ℕ → (Entry → Type 0) → Type 0
ForEntry told now id claim = IsTrue told → (texts : Objects) (sig : ℕ) (e : Entry)
    (ids : List ℕ) → HoldsObjects now texts → IsLaidAt texts id sig e ids → claim e

-- these bytes are read as a record, at the cost of their pages
pub record ReadsRecord (unit : ℕ) (bytes : List ℕ) (before after : Outside)
    (result : Result EntryRow Stop) : Type 0 where
  pub row : IfOk result (λ row. record_read stream_graph bytes ≡ Some (said row))
  pub costs : Spends unit 0 (512 * pages_for (length bytes)) before after

-- these bytes are read, at the cost of their pages
pub record ReadsBytes (unit : ℕ) (bytes : List ℕ) (before after : Outside)
    (result : Result (Vec ℕ Global) Stop) : Type 0 where
  pub bytes_are : IfOk result (λ found. found.items ≡ bytes)
  pub costs : Spends unit 0 (512 * pages_for (length bytes)) before after

-- the bytes of these large binaries are read, at the cost of their pages
pub record ReadsLarges (unit : ℕ) (bs : List (List ℕ)) (before after : Outside)
    (result : Result (Vec (Vec ℕ Global) Global) Stop) : Type 0 where
  pub larges : IfOk result (λ found. list_map (λ bytes. bytes.items) found.items ≡ bs)
  pub costs : Spends unit 0 (512 * sum_by (λ b. pages_for (length b)) bs) before after

-- this entry is read, at the cost of its pages
pub record ReadsEntry (unit : ℕ) (e : Entry) (before after : Outside)
    (result : Result ReadEntry Stop) : Type 0 where
  pub entry : IfOk result (λ found. plain_entry found ≡ e)
  pub costs : Spends unit 0 (512 * entry_pages e) before after

-- the objects that rows name are there, with the rows' lengths
abbrev pub AreThere : Held → List LargeAt → Type 0
AreThere objects rows = list_all (λ l. has_length (held objects) l) rows ≡ true

-- Over every host: the row is what some bytes are read as, its large binaries are those of its
-- skeleton, and their objects are there.
pub record IsRowOver (objects : Held) (row : EntryRow) : Type 0 where
  pub bytes : List ℕ
  pub read : record_read stream_graph bytes ≡ Some (said row)
  pub fits : fits_skeleton (list_map row_at row.larges) row.skeleton ≡ true
  pub there : AreThere objects row.larges

-- the pages of the record that a row is read of
abbrev pub row_pages : EntryRow → ℕ
row_pages row = pages_for (12 + length (flat row.skeleton) + 12 * length row.larges)

-- the pages of the large binaries of some rows
abbrev pub larges_pages : List LargeAt → ℕ
larges_pages rows = sum (list_map pages_for (list_map (λ l. l.length) rows))

-- ---- what is found

-- the objects have this directory, and its form is that of a store
pub record IsDirectory (told : Bool) (now : List ℕ) (directory : Directory) : Type 0 where
  pub root : OfObjects told now (IsRoot (version now) directory)
  pub formed : IsTrue (well_formed (bare_store directory))

-- What was found of the objects up to an id, over every host and where bytes are told.
pub record IsFoundTo (told : Bool) (now : List ℕ) (table : Table) (directory : Directory)
    (last : ℕ) (place : Places) (names : Names) (owner : Owners) : Type 0 where
  pub sound : AreSoundTo last table place names owner
  pub found : OfObjects told now (AreFoundTo last place names (bare_store directory))

-- These are the places of all entries, and what their records name.
pub record FindsAll (told : Bool) (now : List ℕ) (table : Table) (directory : Directory)
    (place : Places) (names : Names) : Type 0 where
  pub places : AreSoundPlaces table place
  pub names_are : AreSoundNames table names
  pub found : OfObjects told now (λ texts. IsFound stream_graph (version now) texts place names
      (bare_store directory))

module _ {B : Type 0} (place : B → ℕ) (numbers : B → Numbers)
    (standing : Bool → B → Outside → Type 0) where
  -- Objects may be read: the book stands for its unit, and the table is that of its live pages.
  pub record CanRead (told : Bool) (objects : Held) (book : B) (outside : Outside) : Type 0 where
    pub stands : standing told book outside
    pub kept : AreKept told objects (numbers book) (place book) outside

  -- A reading of objects: book and objects are what they were, and why it stops.
  pub record Reads {T : Type 0} (told : Bool) (objects : Held) (old new : B)
      (before after : Outside) (result : Result T Stop) : Type 0 where
    pub book : ReadsOf place numbers standing told objects old new before after
    pub ends : ReadEnds (place old) before after result

  -- A search among objects: book and objects are what they were, and why it ends.
  pub record Searches {T : Type 0} (told : Bool) (objects : Held) (old new : B)
      (before after : Outside) (result : Result T BookFault) : Type 0 where
    pub book : ReadsOf place numbers standing told objects old new before after
    pub ends : SearchEnds told (place old) before after result

  -- The opening of a unit's store: the book stands for the unit, and memory and image stand for
  -- the store that the image is read as, whose entries were gathered; or why there is none.
  pub record OpensCatalog {G : Type 0} (gathers : Store → Graphs → G → Type 0) (told : Bool)
      (unit : ℕ) (before after : Outside) (result : Result (B × Catalog × G) BookFault) :
      Type 0 where
    pub stands : IfOk result (λ found. standing told found.0 after)
    pub place_is : IfOk result (λ found. place found.0 ≡ unit)
    pub sound : IfOk result (λ found. IsSound told found.1 (numbers found.0) unit after)
    pub found : IsTrue told → IfOk result (λ found. (s : Store) ×
        (readable (image unit before.now) ≡ Some s) ×
        StandsFor found.1 s (image unit before.now))
    pub gathered : IfOk result (λ found. OfObjects told (image unit before.now)
        (HasGathered gathers (bare_store found.1.directory) (place_of found.1.places) found.2))
    pub looks : OnlyReads unit before after
    pub ends : SearchEnds told unit before after result
