-- Objects of a unit as they are planned, committed and kept. This project's own.
use Rattle.newt_spec_image.specs.Records.{version}
use Rattle.std.specs.Prelude.{◌≡◌, ◌⊎◌, ℕ, ◌<◌, ◌≤◌, Bool, IsTrue, List, [], length, Result, OnOk, IfErr, IsErrOf}
use Rattle.newt_base.specs.declared.Refusal.TheVariants.{Full}
use Rattle.newt_host.specs.Moments.{image, Leaves}
use Rattle.newt_host.specs.Outside.{Outside, Spends, Wears}
use Rattle.newt_spec_image.specs.Pages.{Pages, Change, cap}
use Rattle.newt_spec_image.specs.Objects.{AreObjectsOf, Objects}
use Rattle.newt_pagebook.specs.Book.{Numbers}
use Rattle.newt_objects.specs.Headers.{ArePages}
use Rattle.newt_objects.specs.Held.{Held, held, planned, AreOf}
use Rattle.newt_objects.specs.Changing.{HoldsObjects, IsUnderWay, total_pages}
use Rattle.newt_spec_store.specs.OfImage.{blocks_of}
use Rattle.newt_store_change.specs.Faults.{IsRefused}
use Rattle.newt_store_change.specs.declared.fault.StoreFault.{StoreFault}
use Rattle.newt_store_change.specs.declared.fault.StoreFault.TheVariants.{Refused}
use Rattle.newt_objects_commit.specs.Faults.{RefusesOnly}

-- A table of objects with no plans, which is that of the live pages of a unit.
pub record AreKept (told : Bool) (objects : Held) (numbers : Numbers) (unit : ℕ) (outside : Outside) : Type 0 where
  pub none : objects.plans ≡ []
  pub are : AreOf told (held objects) numbers unit outside

-- The batch and the plans make the objects `after` of the objects `before`, which the live pages hold.
pub record IsPlanned (told : Bool) (objects : Held) (change : Change) (numbers : Numbers) (now : List ℕ) (before after : Objects) : Type 0 where
  pub live : Pages
  pub are : ArePages told numbers now live
  pub were : AreObjectsOf live before
  pub way : IsUnderWay objects change live after

-- the objects take no more pages than the unit of an image has
abbrev pub Fit : Objects → List ℕ → Type 0
Fit texts now = total_pages texts ≤ cap (blocks_of now)

-- What a crash may leave of an image within a commit: as many bytes, which hold the objects before it, in the version before it, or those after it, where they
-- fit, in version 2.
pub record IsEither (now : List ℕ) (before after : Objects) (left : List ℕ) : Type 0 where
  pub size : length left ≡ length now
  pub holds : (HoldsObjects left before × (version left ≡ version now)) ⊎ (HoldsObjects left after × Fit after now × (version left ≡ 2))

-- what is claimed, where bytes are told, of all objects that the batch and the plans change
abbrev pub ForPlanned : Bool → Held → Change → Numbers → List ℕ →
    (Objects → Objects → Type 0) → Type 0
ForPlanned told objects batch numbers now claim = IsTrue told → (was will : Objects) →
    IsPlanned told objects batch numbers now was will → claim was will

-- The planned objects are put and removed, all of them, and the plans are taken over; or, where the
-- objects would take more pages than the unit has, nothing is done, and the plans are dropped.
pub record MakesPlanned (told : Bool) (unit : ℕ) (batch : Change) (numbers : Numbers)
    (objects next : Held) (before after : Outside)
    (result : Result (Unit {0}) StoreFault) : Type 0 where
  pub made : OnOk result ((id : ℕ) → held next id ≡ planned objects id)
  pub still : IsRefused result → (id : ℕ) → held next id ≡ held objects id
  pub only : IfErr result (RefusesOnly Full)
  pub holds : ForPlanned told objects batch numbers (image unit before.now) (λ was will.
      OnOk result (HoldsObjects (image unit after.now) will × Fit will (image unit before.now) ×
      (version (image unit after.now) ≡ 2)))
  pub full : IsErrOf result (Refused Full) →
      ForPlanned told objects batch numbers (image unit before.now) (λ was will.
      cap (blocks_of (image unit before.now)) < total_pages will)
  pub any_moment : ForPlanned told objects batch numbers (image unit before.now) (λ was will.
      Leaves unit (IsEither (image unit before.now) was will) before.now after.now)
  -- nothing is programmed or fetched for objects that do not fit, whatever the answer
  pub too_many : ForPlanned told objects batch numbers (image unit before.now) (λ was will.
      cap (blocks_of (image unit before.now)) < total_pages will → Spends unit 0 0 before after)
  pub too_many_wears : ForPlanned told objects batch numbers (image unit before.now) (λ was will.
      cap (blocks_of (image unit before.now)) < total_pages will → Wears unit 0 0 before after)
  -- and nothing happens
  pub idle : ForPlanned told objects batch numbers (image unit before.now) (λ was will.
      cap (blocks_of (image unit before.now)) < total_pages will → after.now ≡ before.now)
