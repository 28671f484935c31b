-- What the clauses of a commit say together.
use Rattle.newt_spec_image.specs.Records.{version}
use Rattle.std.proofs.Common.{IsTrue, ◌≡◌, inl, inr, ℕ, ◌*◌, ◌/◌, ◌<◌, ◌≤◌, Bool, List, length, Option, Some, None, IsSome, refl, sym, ◌∙◌, ap, arith, ⊎_elim}
use Rattle.std.specs.FinSet as set
use Rattle.newt_host.specs.Moments.{Moment, image, changes, IsDurable, Leaves}
use Rattle.newt_host.specs.Outside.{Outside}
use Rattle.newt_host.proofs.Moments.{Leaves-weaken, Leaves-start}
use Rattle.newt_spec_image.specs.Pages.{Change, pages, after, cap}
use Rattle.newt_spec_image.specs.Objects.{Objects}
use Rattle.newt_pagebook.specs.Batch.{IsBatch}
use Rattle.newt_pagebook.specs.Book.{Numbers, changed_numbers, ReadsChanged}
use Rattle.newt_objects.specs.Held.{Held, held, planned, AreOf}
use Rattle.newt_objects.specs.Changing.{HoldsObjects, total_pages}
use Rattle.newt_objects.proofs.Changing.{adopted_are, are_still, changed_holds, left_holds}
use Rattle.newt_objects.proofs.Counting.{would_count}
use Rattle.newt_objects.proofs.Whole.{image_whole}
use Rattle.newt_spec_store.specs.OfImage.{blocks_of}
use Rattle.newt_objects_commit.specs.Commit.{IsPlanned, IsEither, Fit}
use Rattle.newt_objects_commit.specs.Calls.{IsEitherSide}

pub blocks-are : (now : List ℕ) (blocks : ℕ) → length now ≡ blocks * 4096 → blocks_of now ≡ blocks
blocks-are now blocks size = ap (λ (n : ℕ). n / 4096) size ∙ whole blocks where
  whole : (b : ℕ) → b * 4096 / 4096 ≡ b
  whole b = omega arith

module _ (told : Bool) (objects : Held) (change : Change) (numbers : Numbers) (now : List ℕ) (before after : Objects) (tells : IsTrue told) (batch : IsBatch change) (p : IsPlanned told objects change numbers now before after) where
  -- as many pages would be live as the objects after it have
  pub planned-count : set.len (changed_numbers change numbers) ≡ total_pages after
  planned-count = would_count objects change p.live after numbers (image_whole now p.live (p.are.of_image tells)) batch p.are.named p.way.would

  module _ (blocks : ℕ) (size : length now ≡ blocks * 4096) where
    pub planned-fits : set.len (changed_numbers change numbers) ≤ cap blocks → Fit after now
    planned-fits low =
        let same : cap (blocks_of now) ≡ cap blocks = ap cap (blocks-are now blocks size) in
        omega (arith, same, low, planned-count)

    pub planned-full : cap blocks < set.len (changed_numbers change numbers) → cap (blocks_of now) < total_pages after
    planned-full more =
        let same : cap (blocks_of now) ≡ cap blocks = ap cap (blocks-are now blocks size) in
        omega (arith, same, more, planned-count)

    -- what a crash leaves within a commit that fits
    pub leaves-either : (unit : ℕ) (old new : Moment) → Fit after now → Leaves unit (IsEitherSide change now) old new → Leaves unit (IsEither now before after) old new
    leaves-either unit old new fits leaves = Leaves-weaken
        (λ left both. record {
          size = both.0;
          holds = ⊎_elim (λ was. inl was) (λ is. inr (is.0, fits, is.1)) (left_holds objects change p.live before after now left (p.are.of_image tells) p.were p.way.would both.1);
        })
        leaves

  -- nothing has happened, and nothing is pending
  pub leaves-nothing : (unit : ℕ) (old : Moment) → now ≡ image unit old → IsDurable unit old → Leaves unit (IsEither now before after) old old
  leaves-nothing unit old is durable = Leaves-start (λ left may.
      let same : left ≡ now = durable left may ∙ sym is in
      record {
        size = ap (λ (l : List ℕ). length l) same;
        holds = inl (record { live = p.live; of_image = ap pages same ∙ p.are.of_image tells; are = p.were }, ap version same);
      })

  pub holds-after : (new : List ℕ) → ReadsChanged change now new → HoldsObjects new after
  holds-after new changed = changed_holds objects change p.live after now new (p.are.of_image tells) p.way.would changed

pub kept-after : (told : Bool) (objects adopted : Held) (change : Change) (numbers numbers' : Numbers) (unit : ℕ) (old new : Outside) (before after : Objects) → IsPlanned told objects change numbers (image unit old.now) before after
    → numbers' ≡ changed_numbers change numbers → (IsTrue told → ReadsChanged change (image unit old.now) (image unit new.now)) → ((id : ℕ) → held adopted id ≡ planned objects id) → AreOf told (held adopted) numbers' unit new
kept-after told objects adopted change numbers numbers' unit old new before after p changed committed taken = adopted_are told objects adopted change p.live after numbers numbers' unit old new p.are p.way changed committed taken

-- a unit that has blocks has a device
pub some-card : (card : Option (List ℕ)) (blocks : ℕ) → (card ≡ None → blocks ≡ 0) → 13 ≤ blocks → IsSome card
some-card None blocks none many = absurd (omega (arith, none refl, many))
some-card (Some name) blocks none many = refl

-- where nothing is changed
pub kept-still : (told : Bool) (objects still : Held) (change : Change) (numbers numbers' : Numbers) (unit : ℕ) (old new : Outside) (before after : Objects) → IsPlanned told objects change numbers (image unit old.now) before after
    → numbers' ≡ numbers → new.now ≡ old.now → ((id : ℕ) → held still id ≡ held objects id) → AreOf told (held still) numbers' unit new
kept-still told objects still change numbers numbers' unit old new before after p same now kept =
    are_still told (held objects) (held still) numbers numbers' unit old new kept same (ap (λ (m : Moment). changes unit m) now) (record { live = p.live; are = p.are; is_table = p.way.is_table })
