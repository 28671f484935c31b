-- What the tests keep while objects are changed.
use Rattle.std.specs.Prelude.{◌≡◌, ℕ, [], true}
use Rattle.newt_host.specs.Outside.{Outside}
use Rattle.newt_spec_image.specs.Pages.{Pages, Change}
use Rattle.newt_spec_image.specs.Objects.{IsTableOf, Objects}
use Rattle.newt_pagebook.specs.Book.{Numbers}
use Rattle.newt_objects.specs.Held.{Held, held, AreOf}
use Rattle.newt_objects.specs.Changing.{IsUnderWay}

-- the objects are those of a unit, and none is about to change
pub record AreAtRest (objects : Held) (numbers : Numbers) (unit : ℕ) (outside : Outside) : Type 0 where
  pub table : AreOf true (held objects) numbers unit outside
  pub none : objects.plans ≡ []

-- the objects of before, none of which is about to change
pub record AreStill (old new : Held) : Type 0 where
  pub kept : (id : ℕ) → held new id ≡ held old id
  pub none : new.plans ≡ []

-- what the batch does to pages is what is planned, whatever the pages are
abbrev pub IsPlanned : Held → Change → Type 0
IsPlanned objects change = (live : Pages) → IsTableOf live (held objects) → (texts : Objects) × IsUnderWay objects change live texts
