-- Where the records of entries are.
use Rattle.std.specs.Prelude.{◌≡◌, ◌==◌, ℕ, ◌%◌, List, map, filter, Some, IsSome}
use Rattle.std.specs.BTreeMap as tree
use Rattle.newt_spec_image.specs.Objects.{Table}
use Rattle.newt_objects.specs.Headers.{part_cmp}
use Rattle.newt_spec_store.specs.Lies.{Places}
use Rattle.newt_objects_commit.specs.declared.places.PlaceTable.{PlaceTable}

-- the id of the object that has an entry's record, by soup signature and entry id
abbrev pub place_of : PlaceTable → Places
place_of places sig uid = tree.get part_cmp places.rows (sig, uid)

-- Each place is that of an object with an odd id, and no two places are that of one.
pub record AreSoundPlaces (table : Table) (place : Places) : Type 0 where
  pub there : (sig uid id : ℕ) → place sig uid ≡ Some id → IsSome (table id)
  pub odd : (sig uid id : ℕ) → place sig uid ≡ Some id → id % 2 ≡ 1
  pub once : (sig uid other_sig other_uid id : ℕ) → place sig uid ≡ Some id → place other_sig other_uid ≡ Some id → (sig ≡ other_sig) × (uid ≡ other_uid)

-- the objects of the rows of a soup, in order
abbrev pub picked : ℕ → List ((ℕ × ℕ) × ℕ) → List ℕ
picked sig rows = map (λ e. e.1) (filter (λ e. e.0.0 == sig) rows)

-- the ids of the entries of the rows of a soup, in order
abbrev pub uids_at : ℕ → List ((ℕ × ℕ) × ℕ) → List ℕ
uids_at sig rows = map (λ e. e.0.1) (filter (λ e. e.0.0 == sig) rows)
