-- Objects as a change plans them.
use Rattle.std.specs.Prelude.{◌≡◌, ◌≢◌, ℕ, ◌+◌, ◌%◌, ◌<◌, List, [], length, map as map_list, sum_by, Option, Some, None, IsSome, option_map, Vec}
use Rattle.std.specs.Global.{Global}
use Rattle.std.specs.FinMap as map
use Rattle.newt_spec_image.specs.Pages.{Pages, Change}
use Rattle.newt_spec_image.specs.Objects.{pages_for, Objects}
use Rattle.newt_objects.specs.Extents.{numbers_of}
use Rattle.newt_objects.specs.Held.{Held, held, IsUnplanned}
use Rattle.newt_objects.specs.Changing.{IsUnderWay}
use Rattle.newt_spec_graph.specs.Lists.{Among, Pairs}
use Rattle.newt_objects_commit.specs.declared.batch.NewEntry.{NewEntry}
use Rattle.newt_objects_commit.specs.declared.batch.NewLarge.{NewLarge}

-- the object has these bytes, and all others are as they were
pub record HasPut (id : ℕ) (bytes : List ℕ) (old new : Objects) : Type 0 where
  pub object : map.get new id ≡ Some bytes
  pub others : (q : ℕ) → q ≢ id → map.get new q ≡ map.get old q

-- none of these is an object, and all others are as they were
pub record HasNone (ids : List ℕ) (old new : Objects) : Type 0 where
  pub gone : (id : ℕ) → Among ids id → map.get new id ≡ None
  pub others : (id : ℕ) → (Among ids id → ⊥) → map.get new id ≡ map.get old id

-- no id stands twice
abbrev pub AreOnce : List ℕ → Type 0
AreOnce ids = Pairs (λ a b. a ≢ b) ids

-- the ids of the objects of a new entry's large binaries, in order
abbrev pub large_ids : NewEntry → List ℕ
large_ids e = map_list (λ l. l.id) e.larges.items

-- The record has an odd id, each large binary an even one above 0, and no two have one.
pub record HasIds (e : NewEntry) : Type 0 where
  pub odd : e.id % 2 ≡ 1
  pub even : (id : ℕ) → Among (large_ids e) id → (id % 2 ≡ 0) × (0 < id)
  pub once : AreOnce (large_ids e)

-- Each large binary was put, and all other objects are as they were.
pub record HasLarges (larges : List NewLarge) (old new : Objects) : Type 0 where
  pub objects : (l : NewLarge) → Among larges l → map.get new l.id ≡ Some l.bytes.items
  pub others : (id : ℕ) → (Among (map_list (λ l. l.id) larges) id → ⊥) → map.get new id ≡ map.get old id

-- The new entry's record and its large binaries were put, and all other objects are as they were.
pub record HasEntry (entry : Option NewEntry) (old new : Objects) : Type 0 where
  pub entry_is : (e : NewEntry) → entry ≡ Some e → map.get new e.id ≡ Some e.bytes.items
  pub larges_are : (e : NewEntry) (l : NewLarge) → entry ≡ Some e → Among e.larges.items l → map.get new l.id ≡ Some l.bytes.items
  pub others : (id : ℕ) → ((e : NewEntry) → entry ≡ Some e → (e.id ≢ id) × (Among (large_ids e) id → ⊥)) → map.get new id ≡ map.get old id

-- The records of these new entries and their large binaries were put, and all other objects are as they were.
pub record HasEntries (entries : List NewEntry) (old new : Objects) : Type 0 where
  pub records_are : (e : NewEntry) → Among entries e → map.get new e.id ≡ Some e.bytes.items
  pub larges_are : (e : NewEntry) (l : NewLarge) → Among entries e → Among e.larges.items l → map.get new l.id ≡ Some l.bytes.items
  pub others : (id : ℕ) → ((e : NewEntry) → Among entries e → (e.id ≢ id) × (Among (large_ids e) id → ⊥)) → map.get new id ≡ map.get old id

-- no object of one new entry is one of the other's
pub record AreApart (e other : NewEntry) : Type 0 where
  pub records_apart : e.id ≢ other.id
  pub larges_apart : (id : ℕ) → Among (large_ids e) id → Among (large_ids other) id → ⊥

-- the bytes, if there are some
abbrev pub bytes_if : Option (Vec ℕ Global) → Option (List ℕ)
bytes_if bytes = option_map (λ b. b.items) bytes

-- the bytes that are put, or what is there where none are
abbrev pub put_or : Option (List ℕ) → Option (List ℕ) → Option (List ℕ)
put_or None there = there
put_or (Some bytes) there = Some bytes

-- The directory was put, if there is one to put, and all other objects are as they were.
pub record HasDirectory (directory : Option (List ℕ)) (old new : Objects) : Type 0 where
  pub object : map.get new 0 ≡ put_or directory (map.get old 0)
  pub others : (q : ℕ) → q ≢ 0 → map.get new q ≡ map.get old q

-- The directory, if there is one to put, the new entry's record and its large binaries were put, and these are no objects any more.
pub record AreWritten (directory : Option (List ℕ)) (entry : Option NewEntry) (gone : List ℕ) (old new : Objects) : Type 0 where
  pub directory_is : map.get new 0 ≡ put_or directory (map.get old 0)
  pub entry_is : (e : NewEntry) → entry ≡ Some e → map.get new e.id ≡ Some e.bytes.items
  pub larges_are : (e : NewEntry) (l : NewLarge) → entry ≡ Some e → Among e.larges.items l → map.get new l.id ≡ Some l.bytes.items
  pub gone_are : (id : ℕ) → Among gone id → map.get new id ≡ None
  pub others : (id : ℕ) → id ≢ 0 → ((e : NewEntry) → entry ≡ Some e → e.id ≢ id) → ((e : NewEntry) → entry ≡ Some e → Among (large_ids e) id → ⊥) → (Among gone id → ⊥)
      → map.get new id ≡ map.get old id

-- how many pages an object has, none where there is none
abbrev pub pages_held : Held → ℕ → ℕ
pages_held objects id = length (numbers_of (held objects id))

-- how many pages these objects have, all together
abbrev pub all_pages_held : Held → List ℕ → ℕ
all_pages_held objects ids = sum_by (pages_held objects) ids

-- how many pages the record of the new entry and its large binaries have, none where there is none
abbrev pub new_pages : Option NewEntry → ℕ
new_pages None = 0
new_pages (Some e) = pages_for (length e.bytes.items) + sum_by (λ l. pages_for (length l.bytes.items)) e.larges.items

-- how many pages the objects have that the record of the new entry and its large binaries are put over, none where there is none
abbrev pub over_pages : Held → Option NewEntry → ℕ
over_pages objects None = 0
over_pages objects (Some e) = pages_held objects e.id + all_pages_held objects (large_ids e)

-- how many pages the directory has that is put, none where it stays
abbrev pub directory_puts : Option (List ℕ) → ℕ
directory_puts None = 0
directory_puts (Some bytes) = pages_for (length bytes)

-- how many pages the object has that it is put over, none where it stays
abbrev pub directory_over : Held → Option (List ℕ) → ℕ
directory_over objects None = 0
directory_over objects (Some bytes) = pages_held objects 0

-- none of these is the object of the new entry's record or of one of its large binaries
pub record IsApart (entry : Option NewEntry) (gone : List ℕ) : Type 0 where
  pub record_apart : (e : NewEntry) → entry ≡ Some e → Among gone e.id → ⊥
  pub larges_apart : (e : NewEntry) (id : ℕ) → entry ≡ Some e → Among (large_ids e) id → Among gone id → ⊥

-- so many pages more are put, and so many more are deleted
pub record AddsPages (puts deletes : ℕ) (old new : Change) : Type 0 where
  pub more_puts : length new.puts ≡ length old.puts + puts
  pub more_deletes : length new.deletes ≡ length old.deletes + deletes

-- The new entry has ids of its own, and the objects that go are others, each once, and no
-- directory; nothing is planned yet.
pub record CanBePlanned (objects : Held) (entry : Option NewEntry) (gone : List ℕ) : Type 0 where
  pub none : objects.plans ≡ []
  pub ids : (e : NewEntry) → entry ≡ Some e → HasIds e
  pub apart : IsApart entry gone
  pub there : (id : ℕ) → Among gone id → IsSome (held objects id)
  pub above : (id : ℕ) → Among gone id → 0 < id
  pub once : AreOnce gone

-- a new entry whose objects have no plans yet
pub record IsFree (objects : Held) (e : NewEntry) : Type 0 where
  pub ids : HasIds e
  pub no_plan : IsUnplanned objects e.id
  pub no_plans : (id : ℕ) → Among (large_ids e) id → IsUnplanned objects id

-- some objects are under way
abbrev pub IsOnTheWay : Held → Change → Type 0
IsOnTheWay objects change =
    (live : Pages) × (texts : Objects) × IsUnderWay objects change live texts

-- whatever objects are under way, others are then, of which this is said
abbrev pub LeadsTo : (Objects → Objects → Type 0) → (old : Held) → (before : Change) →
    (new : Held) → (after : Change) → Type 0
LeadsTo Becomes old before new after = (live : Pages) (texts : Objects) →
    IsUnderWay old before live texts →
    (next : Objects) × IsUnderWay new after live next × Becomes texts next

-- all other ids that have no plan have none then
abbrev pub LeavesUnplanned : (ℕ → Type 0) → Held → Held → Type 0
LeavesUnplanned IsOther old new = (id : ℕ) → IsOther id → IsUnplanned old id → IsUnplanned new id
