-- What is seen of the records of entries, one after the other. This project's own.
use Rattle.std.specs.Prelude.{◌≡◌, ◌⊎◌, ◌<◌, ◌++◌, ℕ, zero, suc, ◌+◌, ◌%◌, ◌==◌, nat_lt, ◌&&◌, not}
use Rattle.std.specs.Prelude.{Bool, true, false, List, [], filter, flat_map, Option, Some, None}
use Rattle.std.specs.List.{list_all}
use Rattle.std.specs.BTreeMap as tree
use Rattle.std.specs.BTreeMap.{BTreeMap}
use Rattle.std.specs.FinMap as map
use Rattle.std.specs.Ordering.{nat_cmp}
use Rattle.newt_spec_image.specs.Objects.{Objects, Table}
use Rattle.newt_spec_nsof.specs.Text.{AreBytes}
use Rattle.newt_spec_check.specs.Damage.{count_of, ids_in, is_odd}
use Rattle.newt_spec_store.specs.Lies.{Places}
use Rattle.newt_spec_store.specs.Store.{Store}
use Rattle.newt_spec_store.specs.StoreOf.{entry_row}
use Rattle.newt_laws_changes.specs.Written.{Names}
use Rattle.newt_laws_images.specs.Found.{HasGiven, ids_named}
use Rattle.newt_entries.specs.declared.row.EntryRow.{EntryRow}
use Rattle.newt_store_catalog.specs.Opening.{AreFoundTo, OfObjects, has_length, objects_named}

-- whether what stands so often stands once; none where it does not stand
abbrev pub once_of : ℕ → Option Bool
once_of zero = None
once_of (suc n) = Some (n == 0)

-- each number among others is kept, with whether it stands once, and no other is
abbrev pub AreCounts : List ℕ → BTreeMap ℕ Bool → Type 0
AreCounts names counts = (o : ℕ) → tree.get nat_cmp counts o ≡ once_of (count_of o names)

-- an object with an even id is not named exactly once
abbrev pub is_stray_id : List ℕ → ℕ → Bool
is_stray_id names id = (id % 2 == 0) && not (count_of id names == 1)

-- the ids that the object of an id names
abbrev pub names_at : Option (List ℕ) → List ℕ
names_at None = []
names_at (Some bytes) = ids_named bytes

abbrev pub names_in : Objects → Names
names_in texts id = names_at (map.get texts id)

-- the ids that the records of objects up to an id name, one after the other
abbrev pub named_to : ℕ → Objects → List ℕ
named_to last texts =
    flat_map (λ o. ids_in (entry_row o.1))
    (filter (λ o. is_odd o && nat_lt o.0 (last + 1)) (map.entries texts))

-- Each object up to an id with an odd one is a record and has its place, there are no other places,
-- and what these records name is counted.
pub record HasSeen (told : Bool) (now : List ℕ) (last : ℕ) (d : Store) (place : Places)
    (counts : BTreeMap ℕ Bool) : Type 0 where
  pub below : (sig uid id : ℕ) → place sig uid ≡ Some id → id < last + 1
  pub found : OfObjects told now (λ texts. AreFoundTo last place (names_in texts) d texts)
  pub counted : OfObjects told now (λ texts. AreCounts (named_to last texts) counts)

-- A soup of the directory has given the id of a record, it had no place and has this one now, its
-- large binaries are there, and what it names is counted.
pub record KeepsRow (table : Table) (d : Store) (id : ℕ) (row : EntryRow) (place place' : Places)
    (counts counts' : BTreeMap ℕ Bool) : Type 0 where
  pub given : HasGiven d row.soup row.uid
  pub free : place row.soup row.uid ≡ None
  pub there : list_all (λ l. has_length table l) row.larges ≡ true
  pub placed : place' row.soup row.uid ≡ Some id
  pub others : (sig uid : ℕ) → ((sig ≡ row.soup) → (uid ≡ row.uid) → ⊥)
      → place' sig uid ≡ place sig uid
  pub counted : (names : List ℕ) → AreCounts names counts
      → AreCounts (names ++ objects_named row.larges) counts'

-- No soup has given its id, or it has a place, or one of its large binaries is not there.
abbrev pub IsBadRow : Table → Store → EntryRow → Places → Type 0
IsBadRow table d row place =
    (HasGiven d row.soup row.uid → ⊥)
    ⊎ (((other : ℕ) × (place row.soup row.uid ≡ Some other))
    ⊎ (list_all (λ l. has_length table l) row.larges ≡ false))

-- objects with odd ids are bytes
abbrev pub AreRecordBytes : Objects → Type 0
AreRecordBytes texts =
    (id : ℕ) (bytes : List ℕ) → map.get texts id ≡ Some bytes → id % 2 ≡ 1 → AreBytes bytes
