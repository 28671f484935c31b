-- What is kept in memory of the objects.
use Rattle.std.proofs.Common.{IsTrue, ◌≡◌, ℕ, Bool, refl, sym, ◌∙◌, ap, subst}
use Rattle.newt_host.specs.Moments.{Moment, image, changes}
use Rattle.newt_host.specs.Outside.{Outside}
use Rattle.newt_spec_image.specs.Pages.{Pages}
use Rattle.newt_spec_image.specs.Objects.{AreObjectsOf, Objects}
use Rattle.newt_pagebook.specs.Book.{Numbers}
use Rattle.newt_pagebook.proofs.Tests.{some_inj}
use Rattle.newt_objects.specs.Held.{Held, held}
use Rattle.newt_objects.specs.Changing.{HoldsObjects}
use Rattle.newt_objects.proofs.Changing.{are_still}
use Rattle.newt_objects_commit.specs.Commit.{AreKept}

pub kept-over : (told : Bool) (objects : Held) (numbers numbers' : Numbers) (unit unit' : ℕ) (old new : Outside) → unit' ≡ unit → numbers' ≡ numbers → new.now ≡ old.now → AreKept told objects numbers unit old → AreKept told objects numbers' unit' new
kept-over told objects numbers numbers' unit unit' old new place same now kept = subst (λ (u : ℕ). AreKept told objects numbers' u new) (sym place) (record {
  none = kept.none;
  are = are_still told (held objects) (held objects) numbers numbers' unit old new (λ id. refl) same (ap (λ (m : Moment). changes unit m) now) kept.are;
})

module _ (told : Bool) (objects : Held) (numbers : Numbers) (unit : ℕ) (outside : Outside) (kept : AreKept told objects numbers unit outside) where
  abbrev live : Pages
  live = kept.are.live

  -- objects that the image holds are those of the live pages
  pub held-are : (before : Objects) → IsTrue told → HoldsObjects (image unit outside.now) before → AreObjectsOf live before
  held-are before tells holds = subst (λ (m : Pages). AreObjectsOf m before) (some_inj _ _ (sym holds.of_image ∙ kept.are.are.of_image tells)) holds.are
