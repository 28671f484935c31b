-- What is promised of a change that is written. All of it is this project's own.
use Rattle.newt_spec_image.specs.Records.{version}
use Rattle.std.specs.Prelude.{◌≡◌, ◌≢◌, ℕ, ◌<◌, ◌≤◌, Bool, IsTrue, List, [], Option, Some, None, IsSome, Result, OnOk, IfOk, IfErr, IsErrOf}
use Rattle.newt_base.specs.declared.Refusal.TheVariants.{Full}
use Rattle.newt_host.specs.Moments.{image, Leaves}
use Rattle.newt_host.specs.Outside.{Outside, Spends, Wears}
use Rattle.newt_spec_image.specs.Objects.{Objects}
use Rattle.newt_spec_image.specs.Pages.{cap}
use Rattle.newt_spec_graph.specs.Lists.{Among}
use Rattle.newt_spec_store.specs.Cost.{cost}
use Rattle.newt_spec_store.specs.OfImage.{blocks_of}
use Rattle.newt_spec_store.specs.Store.{Store}
use Rattle.newt_pagebook.specs.Book.{IsOpenFor}
use Rattle.newt_objects.specs.Changing.{HoldsObjects, total_pages}
use Rattle.newt_objects.specs.Held.{Held, held}
use Rattle.newt_objects_commit.specs.Batch.{large_ids}
use Rattle.newt_objects_commit.specs.Commit.{Fit}
use Rattle.newt_objects_commit.specs.Faults.{RefusesOnly}
use Rattle.newt_objects_commit.specs.declared.batch.NewEntry.{NewEntry}
use Rattle.newt_store_change.specs.Faults.{IsRefused}
use Rattle.newt_store_change.specs.declared.fault.StoreFault.{StoreFault}
use Rattle.newt_store_change.specs.declared.fault.StoreFault.TheVariants.{Refused}
use Rattle.newt_store_catalog.specs.Stands.{StandsFor}
use Rattle.newt_store_catalog.specs.declared.catalog.Catalog.{Catalog}
use Rattle.newt_store.specs.Next.{Goes, HoldsEither, IsEitherStore, Turns, WritesNext, turn_bytes}
use Rattle.newt_laws_changes.specs.Written.{Names}
use Rattle.newt_spec_store.specs.Lies.{Places}
use Rattle.newt_store.specs.declared.next.Gone.{Gone}
use Rattle.newt_store.specs.declared.next.Next.{Next}

-- what is claimed, where bytes are told, of the objects that an image holds
abbrev pub ForHeld : Bool → List ℕ → (Objects → Type 0) → Type 0
ForHeld told now claim = IsTrue told → (before : Objects) → HoldsObjects now before → claim before

-- What a change makes is written and these objects go, all at once; or, where the objects would
-- take more pages than the unit has, nothing is done.
pub record WritesObjects (told : Bool) (unit : ℕ) (next : Next) (gone : List ℕ)
    (objects written : Held) (before after : Outside)
    (result : Result (Unit {0}) StoreFault) : Type 0 where
  -- the new entry's objects are there, and those that do not go stay
  pub new : OnOk result ((e : NewEntry) → next.entry ≡ Some e → IsSome (held written e.id))
  pub new_larges : OnOk result ((e : NewEntry) (id : ℕ) → next.entry ≡ Some e →
      Among (large_ids e) id → IsSome (held written id))
  pub there : OnOk result ((id : ℕ) → IsSome (held objects id) → (Among gone id → ⊥) →
      IsSome (held written id))
  pub holds : ForHeld told (image unit before.now) (λ was. OnOk result ((will : Objects) ×
      HoldsObjects (image unit after.now) will × WritesNext next gone was will ×
      Fit will (image unit before.now) × (version (image unit after.now) ≡ 2)))
  pub full : IsErrOf result (Refused Full) → ForHeld told (image unit before.now) (λ was.
      (will : Objects) × WritesNext next gone was will ×
      (cap (blocks_of (image unit before.now)) < total_pages will))
  pub only : IfErr result (RefusesOnly Full)
  pub still : IsRefused result → (id : ℕ) → held written id ≡ held objects id
  pub any_moment : ForHeld told (image unit before.now) (λ was.
      Leaves unit (HoldsEither (image unit before.now) next gone was) before.now after.now)
  -- nothing is programmed, erased or fetched for objects that do not fit, whatever the answer
  pub too_many : ForHeld told (image unit before.now) (λ was. ((will : Objects) →
      WritesNext next gone was will → cap (blocks_of (image unit before.now)) < total_pages will) →
      Spends unit 0 0 before after × Wears unit 0 0 before after)
  -- and nothing happens
  pub idle : ForHeld told (image unit before.now) (λ was. ((will : Objects) →
      WritesNext next gone was will → cap (blocks_of (image unit before.now)) < total_pages will) →
      after.now ≡ before.now)

-- what is claimed, where bytes are told, of all stores that an image stands for and that what is
-- planned leads to
abbrev pub ForTurn : Bool → Catalog → Next → List ℕ → (Store → Store → Type 0) → Type 0
ForTurn told catalog next now claim = IsTrue told → (s t : Store) → StandsFor catalog s now →
    Turns catalog next s t → claim s t

-- What was planned is made of a store, whole, with the change's answer; or, where it would cost
-- more pages than the unit has, the store is as it was.
pub record MakesNext (told : Bool) (unit : ℕ) (next : Next) (catalog made : Catalog)
    (before after : Outside) (result : Result ℕ StoreFault) : Type 0 where
  pub answer : IfOk result (λ n. n ≡ next.answer)
  pub changed : ForTurn told catalog next (image unit before.now) (λ s t.
      OnOk result (StandsFor made t (image unit after.now)))
  pub fits : ForTurn told catalog next (image unit before.now) (λ s t.
      OnOk result (cost t ≤ cap (blocks_of (image unit before.now))))
  pub full : IsRefused result → ForTurn told catalog next (image unit before.now) (λ s t.
      cap (blocks_of (image unit before.now)) < cost t)
  pub only : IfErr result (RefusesOnly Full)
  pub still : IsRefused result → ForTurn told catalog next (image unit before.now) (λ s t.
      StandsFor made s (image unit before.now))

-- What happens to the unit meanwhile, whatever the answer: a crash leaves one store or the other,
-- and while the bank has room nothing is erased.
pub record TurnsUnit (told : Bool) (unit : ℕ) (next : Next) (catalog : Catalog)
    (before after : Outside) : Type 0 where
  pub any_moment : ForTurn told catalog next (image unit before.now) (λ s t.
      Leaves unit (IsEitherStore (image unit before.now) s t) before.now after.now)
  pub bound : ForTurn told catalog next (image unit before.now) (λ s t.
      IsOpenFor (turn_bytes next s t) (image unit before.now) →
      Spends unit (turn_bytes next s t) 0 before after)
  pub wears : ForTurn told catalog next (image unit before.now) (λ s t.
      IsOpenFor (turn_bytes next s t) (image unit before.now) → Wears unit 0 2 before after)
  -- nothing is programmed, erased or fetched for a store that does not fit
  pub too_many : ForTurn told catalog next (image unit before.now) (λ s t.
      cap (blocks_of (image unit before.now)) < cost t →
      Spends unit 0 0 before after × Wears unit 0 0 before after)
  -- and nothing happens
  pub idle : ForTurn told catalog next (image unit before.now) (λ s t.
      cap (blocks_of (image unit before.now)) < cost t → after.now ≡ before.now)

-- The places follow what was written: the entries that go have none, and all others as they were.
pub record FollowsPlaces (going : Gone) (old new : Places) : Type 0 where
  pub gone : (sig uid : ℕ) → Goes going sig uid → new sig uid ≡ None
  pub others : (sig uid : ℕ) → (Goes going sig uid → ⊥) → new sig uid ≡ old sig uid

-- The names follow what was written: what these records named is forgotten, and then the new
-- entry's record names these.
pub record FollowsNames (entry : Option NewEntry) (records named : List ℕ) (old new : Names) :
    Type 0 where
  pub names : (e : NewEntry) → entry ≡ Some e → new e.id ≡ named
  pub between : Names
  pub forgotten : (r : ℕ) → Among records r → between r ≡ []
  pub others : (r : ℕ) → (Among records r → ⊥) → between r ≡ old r
  pub stay : (r : ℕ) → ((e : NewEntry) → entry ≡ Some e → e.id ≢ r) → new r ≡ between r
