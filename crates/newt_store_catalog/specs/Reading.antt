-- How an entry lies in objects where it is read, and what a reading leaves and why it ends. This
-- project's own.
use Rattle.std.specs.Prelude.{◌≡◌, ℕ, Bool, IsTrue, List, Some, None, map as list_map, Result, OnOk, IfErr, IsErrOf}
use Rattle.std.specs.FinMap as map
use Rattle.newt_host.specs.Moments.{image}
use Rattle.newt_host.specs.Outside.{Outside, Broke, NoFault, OnlyReads}
use Rattle.newt_spec_image.specs.Objects.{Objects}
use Rattle.newt_objects.specs.Held.{Held}
use Rattle.newt_pagebook.specs.Book.{Numbers}
use Rattle.newt_pagebook.specs.Stops.{BlamesNone, StopsAt}
use Rattle.newt_pagebook.specs.declared.book.BookFault.{BookFault}
use Rattle.newt_pagebook.specs.declared.book.BookFault.TheVariants.{NotStore, Device as DeviceFault}
use Rattle.newt_pagebook.specs.declared.book.Stop.{Stop}
use Rattle.newt_spec_store.specs.Image.{entry_bytes}
use Rattle.newt_spec_store.specs.Laid.{FitsRecord}
use Rattle.newt_spec_store.specs.Lies.{AreLarges, entry_read}
use Rattle.newt_spec_store.specs.Store.{Entry}
use Rattle.newt_spec_store.specs.Valid.{valid_entry}
use Rattle.newt_entries.specs.declared.row.LargeAt.{LargeAt}
use Rattle.newt_nsof_flat.specs.Stream.{stream_graph}
use Rattle.newt_objects_commit.specs.Commit.{AreKept}
use Rattle.newt_store_catalog.specs.Readable.{readable}

-- The object of this id is the record of this entry, in the soup of this signature; it names these objects, which are the entry's large binaries; and it is read as
-- the entry.
pub record IsLaidAt (texts : Objects) (id sig : ℕ) (e : Entry) (ids : List ℕ) : Type 0 where
  pub bytes_are : map.get texts id ≡ Some (entry_bytes sig e ids)
  pub larges_are : AreLarges texts e.graph ids
  pub fits : FitsRecord sig e ids
  pub read : entry_read stream_graph texts (entry_bytes sig e ids) ≡ Some (sig, e)
  pub valid : IsTrue (valid_entry e)

-- the objects of these rows have these bytes, in order
abbrev pub HaveBytes : Objects → List LargeAt → List (List ℕ) → Type 0
HaveBytes texts rows bs = list_map (λ l. map.get texts l.object) rows ≡ list_map (λ b. Some b) bs

module _ {B : Type 0} (place : B → ℕ) (numbers : B → Numbers) (stands : Bool → B → Outside → Type 0) where
  -- The book is what it was, but for the page at hand, and nothing happens to its unit.
  pub record BookReads (told : Bool) (old new : B) (before after : Outside) : Type 0 where
    pub stood : stands told new after
    pub same_place : place new ≡ place old
    pub same_numbers : numbers new ≡ numbers old
    pub looks : OnlyReads (place old) before after

  -- The same, and the objects are what they were.
  pub record ReadsOf (told : Bool) (objects : Held) (old new : B) (before after : Outside) : Type 0 where
    pub stood : stands told new after
    pub kept : AreKept told objects (numbers new) (place new) after
    pub same_place : place new ≡ place old
    pub same_numbers : numbers new ≡ numbers old
    pub looks : OnlyReads (place old) before after

-- Why a reading of a unit stops: a device that failed is its own, and broke; with an answer, and
-- where memory is wanting, no fault was counted.
pub record ReadEnds {T : Type 0} (unit : ℕ) (before after : Outside) (result : Result T Stop) : Type 0 where
  pub cause : IfErr result (StopsAt unit before after)
  pub no_fault : OnOk result (NoFault before after)

-- Why a search for a unit's store ends: its image is read as none, or it broke, and else no fault was
-- counted.
pub record SearchEnds {T : Type 0} (told : Bool) (unit : ℕ) (before after : Outside) (result : Result T BookFault) : Type 0 where
  pub not_store : IsErrOf result NotStore → IsTrue told → readable (image unit before.now) ≡ None
  pub cause : IsErrOf result DeviceFault → Broke unit before after
  pub no_fault : BlamesNone result → NoFault before after
