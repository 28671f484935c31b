-- What a reading leaves, and one after another.
use Rattle.std.proofs.Common.{◌≡◌, ℕ, ◌+◌, ◌*◌, ◌≤◌, Bool, Result, Ok, Err, IfErr, OnOk, IsErrAnd, refl, sym, ◌∙◌, ap, subst, arith}
use Rattle.newt_host.specs.Moments.{changes, image, Moment}
use Rattle.newt_host.specs.Outside.{Outside, Broke, NoFault, OnlyReads, Spends}
use Rattle.newt_host.proofs.Outside.{Broke-on, Broke-since, NoFault-append, OnlyReads-refl, OnlyReads-append}
use Rattle.newt_pagebook.specs.Book.{Numbers, Shown}
use Rattle.newt_pagebook.specs.Calls.{Loads}
use Rattle.newt_pagebook.specs.Stops.{StopsAt}
use Rattle.newt_pagebook.specs.declared.book.Stop.{Stop}
use Rattle.newt_pagebook.specs.declared.book.Stop.TheVariants.{Memory, Device}
use Rattle.newt_objects.specs.Held.{AreOf}
use Rattle.newt_objects.specs.Calls.{Looks, Reads}
use Rattle.newt_objects.proofs.Changing.{are_still}

-- a unit, which is the same, broke in a later call, where no fault was counted before
pub broke_since : (unit mid : ℕ) (old between new : Outside) → mid ≡ unit → NoFault old between → Broke mid between new → Broke unit old new
broke_since unit mid old between new same none broke = Broke-since (none.dev_faults unit) (Broke-on same broke)

-- why a later call stops, where no fault was counted before
pub stop_since : (unit mid : ℕ) (old between new : Outside) (stop : Stop) → mid ≡ unit → NoFault old between →
    StopsAt mid between new stop → StopsAt unit old new stop
stop_since unit mid old between new Memory same none cause = NoFault-append none cause
stop_since unit mid old between new (Device at) same none cause = (cause.0 ∙ same, broke_since unit mid old between new same none cause.1)

pub stops_since : {T : Type 0} (r : Result T Stop) (unit mid : ℕ) (old between new : Outside) → mid ≡ unit → NoFault old between →
    IfErr r (StopsAt mid between new) → IfErr r (StopsAt unit old new)
stops_since (Ok x) unit mid old between new same none cause = tt
stops_since (Err stop) unit mid old between new same none cause = stop_since unit mid old between new stop same none cause

-- the same fault is handed on
pub stops_as : {T : Type 0} (r : Result T Stop) (stop : Stop) (P : Stop → Type 0) → IsErrAnd r (λ f. f ≡ stop) → P stop → IfErr r P
stops_as (Ok x) stop P fails p = tt
stops_as (Err f) stop P fails p = subst P (sym fails) p

pub ends_as : {T : Type 0} (r : Result T Stop) (stop : Stop) (A : Type 0) → IsErrAnd r (λ f. f ≡ stop) → OnOk r A
ends_as (Ok x) stop A fails = absurd fails
ends_as (Err f) stop A fails = tt

-- a later answer without a fault
pub none_since : {T : Type 0} (r : Result T Stop) (old between new : Outside) → NoFault old between → OnOk r (NoFault between new) → OnOk r (NoFault old new)
none_since (Ok x) old between new none more = NoFault-append none more
none_since (Err stop) old between new none more = tt

-- one page more is fetched
pub spends_page : (unit pages : ℕ) {a b c : Outside} → Spends unit 0 (512 * pages) a b → Spends unit 0 512 b c → Spends unit 0 (512 * (pages + 1)) a c
spends_page unit pages s t = record {
  programmed = omega (arith, s.programmed, t.programmed);
  fetched = omega (arith, s.fetched, t.fetched);
}

module _ {B : Type 0} (place : B → ℕ) (numbers : B → Numbers) (spare : B → ℕ) (standing : Bool → B → Outside → Type 0) (told : Bool) where
  pub Looks-refl : (book : B) (outside : Outside) → standing told book outside → Looks place numbers spare standing told book book outside outside
  Looks-refl book outside stands = record {
    stands = stands;
    same_place = refl;
    same_numbers = refl;
    same_spare = refl;
    objects = λ table are. are;
    looks = OnlyReads-refl (place book) outside;
  }

  pub Looks-append : {old mid new : B} {before between after : Outside} → Looks place numbers spare standing told old mid before between
      → Looks place numbers spare standing told mid new between after → Looks place numbers spare standing told old new before after
  Looks-append {old = old} {mid = mid} {new = new} {before = before} {between = between} {after = after} a b = record {
    stands = b.stands;
    same_place = b.same_place ∙ a.same_place;
    same_numbers = b.same_numbers ∙ a.same_numbers;
    same_spare = b.same_spare ∙ a.same_spare;
    objects = λ table are. subst (λ (u : ℕ). AreOf told table (numbers new) u after) a.same_place
        (b.objects table (subst (λ (u : ℕ). AreOf told table (numbers mid) u between) (sym a.same_place) (a.objects table are)));
    looks = OnlyReads-append a.looks (subst (λ (u : ℕ). OnlyReads u between after) a.same_place b.looks);
  }

  pub looks-read : {old new : B} {before after : Outside} → standing told new after → place new ≡ place old → numbers new ≡ numbers old → spare new ≡ spare old
      → OnlyReads (place old) before after → Looks place numbers spare standing told old new before after
  looks-read {old = old} {new = new} {before = before} {after = after} stands at same room reads = record {
    stands = stands;
    same_place = at;
    same_numbers = same;
    same_spare = room;
    objects = λ table are. are_still told table table (numbers old) (numbers new) (place old) before after (λ id. refl) same
        (ap (λ (m : Moment). changes (place old) m) reads.moment) are;
    looks = reads;
  }

  -- the image is the one that it was
  pub image-looked : {old new : B} {before after : Outside} → Looks place numbers spare standing told old new before after → image (place new) after.now ≡ image (place old) before.now
  image-looked {old = old} {after = after} a = ap (λ (u : ℕ). image u after.now) a.same_place ∙ ap (λ (m : Moment). image (place old) m) a.looks.moment

  -- a page that was loaded
  pub looks-loaded : {E : Type 0} (shown : B → Shown) {number : ℕ} {old new : B} {before after : Outside} {result : Result (Unit {0}) E}
      → Loads place numbers shown spare standing told number old new before after result → Looks place numbers spare standing told old new before after
  looks-loaded shown loads = looks-read loads.stands loads.same_place loads.same_numbers loads.same_spare loads.reads

  -- a reading after others
  pub Reads-since : {T : Type 0} {r : Result T Stop} {old mid new : B} {before between after : Outside} → Looks place numbers spare standing told old mid before between → NoFault before between
      → Reads place numbers spare standing told mid new between after r → Reads place numbers spare standing told old new before after r
  Reads-since {r = r} {old = old} {mid = mid} {before = before} {between = between} {after = after} a none b = record {
    book = Looks-append a b.book;
    cause = stops_since r (place old) (place mid) before between after a.same_place none b.cause;
    no_fault = none_since r before between after none b.no_fault;
  }

  -- and one that stops
  pub Reads-ended : {T : Type 0} (r : Result T Stop) (stop : Stop) {old new : B} {before after : Outside} → IsErrAnd r (λ f. f ≡ stop) → Looks place numbers spare standing told old new before after
      → StopsAt (place old) before after stop → Reads place numbers spare standing told old new before after r
  Reads-ended r stop {old = old} {before = before} {after = after} fails book cause = record {
    book = book;
    cause = stops_as r stop (StopsAt (place old) before after) fails cause;
    no_fault = ends_as r stop (NoFault before after) fails;
  }
