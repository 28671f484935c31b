-- What one change of a store writes: how its objects, the places of its entries and the ids that
-- their records name were before it and are after it. Each object, place and name is spoken of
-- alone, so it does not matter in what order they are written. All of it is this project's own.
use Rattle.std.specs.Prelude.{◌≡◌, ◌≢◌, [], ℕ, ◌%◌, List, length, slice_get, Some, None}
use Rattle.std.specs.FinMap as map
use Rattle.newt_graph.specs.Graph.{RawGraph}
use Rattle.newt_spec_image.specs.Objects.{Objects}
use Rattle.newt_spec_graph.specs.Lists.{Among}
use Rattle.newt_spec_store.specs.Image.{larges, entry_bytes}
use Rattle.newt_spec_store.specs.Lies.{Places, AreLarges}
use Rattle.newt_spec_store.specs.Store.{Entry}

-- the ids that the record of an object names (a word of these definitions)
abbrev pub Names : Type 0
Names = ℕ → List ℕ

-- no object has one of these ids (this project's own)
abbrev pub AreFree : Objects → List ℕ → Type 0
AreFree objects ids = (o : ℕ) → Among ids o → map.get objects o ≡ None

-- The record of this object names these ids now, and every other record the ids that it named.
-- (this project's own)
pub record NamesAre (id : ℕ) (ids : List ℕ) (named named' : Names) : Type 0 where
  pub names_it : named' id ≡ ids
  pub other_names : (r : ℕ) → r ≢ id → named' r ≡ named r

-- Object 0 is these bytes, and there is no other object. (this project's own)
pub record HeadAlone (head : List ℕ) (objects : Objects) : Type 0 where
  pub head_is : map.get objects 0 ≡ Some head
  pub no_others : (id : ℕ) → id ≢ 0 → map.get objects id ≡ None

-- Object 0 is these bytes now, and every other object is as it was. (this project's own)
pub record HeadWritten (head : List ℕ) (objects objects' : Objects) : Type 0 where
  pub head_is : map.get objects' 0 ≡ Some head
  pub others : (id : ℕ) → id ≢ 0 → map.get objects' id ≡ map.get objects id

-- An entry is new. Its record is an object with an odd id that was not there, at its place, and its
-- large binaries are objects that were not there. Object 0 is these bytes. All else is as it was.
-- (this project's own)
pub record EntryWritten (sig : ℕ) (e : Entry) (id : ℕ) (ids : List ℕ) (head : List ℕ) (objects objects' : Objects) (place place' : Places) (named named' : Names) : Type 0 where
  pub odd : id % 2 ≡ 1
  pub is_new : map.get objects id ≡ None
  pub are_new : AreFree objects ids
  pub head_is : map.get objects' 0 ≡ Some head
  pub record_is : map.get objects' id ≡ Some (entry_bytes sig e ids)
  pub larges_are : AreLarges objects' e.graph ids
  pub others : (o : ℕ) → o ≢ 0 → o ≢ id → (Among ids o → ⊥) → map.get objects' o ≡ map.get objects o
  pub placed : place' sig e.uid ≡ Some id
  pub other_places : (t u : ℕ) → (t ≡ sig → u ≡ e.uid → ⊥) → place' t u ≡ place t u
  pub names_are : NamesAre id ids named named'

-- An entry has changed. The object of its place is the record of another entry of its id, whose
-- large binaries are objects that were not there. Those that the record named before are gone. All
-- else is as it was. (this project's own)
pub record EntryRewritten (sig uid : ℕ) (e : Entry) (id : ℕ) (ids : List ℕ) (objects objects' : Objects) (place : Places) (named named' : Names) : Type 0 where
  pub is_placed : place sig uid ≡ Some id
  pub are_new : AreFree objects ids
  pub record_is : map.get objects' id ≡ Some (entry_bytes sig e ids)
  pub larges_are : AreLarges objects' e.graph ids
  pub are_gone : (o : ℕ) → Among (named id) o → map.get objects' o ≡ None
  pub others : (o : ℕ) → o ≢ id → (Among ids o → ⊥) → (Among (named id) o → ⊥) → map.get objects' o ≡ map.get objects o
  pub names_are : NamesAre id ids named named'

-- An entry is gone: the object of its place with those that it named, and the place. All else is as
-- it was. (this project's own)
pub record EntryErased (sig uid id : ℕ) (objects objects' : Objects) (place place' : Places) (named named' : Names) : Type 0 where
  pub was_placed : place sig uid ≡ Some id
  pub is_gone : map.get objects' id ≡ None
  pub are_gone : (o : ℕ) → Among (named id) o → map.get objects' o ≡ None
  pub others : (o : ℕ) → o ≢ id → (Among (named id) o → ⊥) → map.get objects' o ≡ map.get objects o
  pub not_placed : place' sig uid ≡ None
  pub other_places : (t u : ℕ) → (t ≡ sig → u ≡ uid → ⊥) → place' t u ≡ place t u
  pub names_are : NamesAre id [] named named'

-- A soup is gone: the objects of all its places with those that they named, and the places. Object
-- 0 is these bytes. All else is as it was. (this project's own)
pub record SoupErased (sig : ℕ) (head : List ℕ) (objects objects' : Objects) (place place' : Places) (named named' : Names) : Type 0 where
  pub head_is : map.get objects' 0 ≡ Some head
  pub are_gone : (u id : ℕ) → place sig u ≡ Some id → map.get objects' id ≡ None
  pub names_are_gone : (u id o : ℕ) → place sig u ≡ Some id → Among (named id) o → map.get objects' o ≡ None
  pub others : (o : ℕ) → o ≢ 0 → ((u : ℕ) → place sig u ≡ Some o → ⊥) → ((u id : ℕ) → place sig u ≡ Some id → Among (named id) o → ⊥) → map.get objects' o ≡ map.get objects o
  pub not_placed : (u : ℕ) → place' sig u ≡ None
  pub other_places : (t u : ℕ) → t ≢ sig → place' t u ≡ place t u
  pub no_names : (u id : ℕ) → place sig u ≡ Some id → named' id ≡ []
  pub other_names : (r : ℕ) → ((u : ℕ) → place sig u ≡ Some r → ⊥) → named' r ≡ named r

-- An entry is new, and another one is gone. The record of the new one is an object with an odd id
-- that was not there, at its place, and its large binaries are objects that were not there. The
-- object of the other one's place is gone with those that it named, and the place. Object 0 is
-- these bytes. All else is as it was. (this project's own)
pub record EntryMoved (sig uid old to : ℕ) (e : Entry) (id : ℕ) (ids : List ℕ) (head : List ℕ) (objects objects' : Objects) (place place' : Places) (named named' : Names) : Type 0 where
  pub odd : id % 2 ≡ 1
  pub is_new : map.get objects id ≡ None
  pub are_new : AreFree objects ids
  pub was_placed : place sig uid ≡ Some old
  pub head_is : map.get objects' 0 ≡ Some head
  pub record_is : map.get objects' id ≡ Some (entry_bytes to e ids)
  pub larges_are : AreLarges objects' e.graph ids
  pub is_gone : map.get objects' old ≡ None
  pub are_gone : (o : ℕ) → Among (named old) o → map.get objects' o ≡ None
  pub others : (o : ℕ) → o ≢ 0 → o ≢ id → (Among ids o → ⊥) → o ≢ old → (Among (named old) o → ⊥) → map.get objects' o ≡ map.get objects o
  pub placed : place' to e.uid ≡ Some id
  pub not_placed : place' sig uid ≡ None
  pub other_places : (t u : ℕ) → (t ≡ to → u ≡ e.uid → ⊥) → (t ≡ sig → u ≡ uid → ⊥) → place' t u ≡ place t u
  pub names_it : named' id ≡ ids
  pub names_none : named' old ≡ []
  pub other_names : (r : ℕ) → r ≢ id → r ≢ old → named' r ≡ named r

-- One of an entry's large binaries has other bytes, as many as before: its object has them. All
-- else is as it was. (this project's own)
pub record EntryPatched (sig uid id node o : ℕ) (g : RawGraph) (bytes : List ℕ) (objects objects' : Objects) (place : Places) (named : Names) : Type 0 where
  pub is_placed : place sig uid ≡ Some id
  pub at : ℕ
  pub old : List ℕ
  pub is_large : slice_get (larges g) at ≡ Some (node, old)
  pub is_named : slice_get (named id) at ≡ Some o
  pub as_many : length bytes ≡ length old
  pub object_is : map.get objects' o ≡ Some bytes
  pub others : (q : ℕ) → q ≢ o → map.get objects' q ≡ map.get objects q
