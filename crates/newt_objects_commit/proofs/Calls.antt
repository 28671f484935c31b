-- What a commit promises, of what its calls do.
use Rattle.std.proofs.Common.{IsTrue, ◌≡◌, ℕ, ◌*◌, Bool, List, [], length, Result, Ok, Err, OnOk, refl, sym, ap, subst, arith, ⊎_elim}
use Rattle.std.proofs.lemmas.Bool.{cases_lt}
use Rattle.newt_host.specs.Moments.{Moment, image, IsDurable, Leaves}
use Rattle.newt_host.specs.Outside.{Outside}
use Rattle.newt_spec_image.specs.Pages.{Change, cap}
use Rattle.newt_spec_image.specs.Objects.{Objects}
use Rattle.newt_pagebook.specs.Book.{Numbers, batch_bytes}
use Rattle.newt_objects.specs.Calls.{Looks}
use Rattle.newt_objects.specs.Held.{Held, held, planned}
use Rattle.newt_spec_store.specs.OfImage.{blocks_of}
use Rattle.newt_store_change.specs.Faults.{GoesOn, IsRefused}
use Rattle.newt_store_change.specs.declared.fault.StoreFault.{StoreFault}
use Rattle.newt_store_change.specs.declared.fault.StoreFault.TheVariants.{Refused, Stop}
use Rattle.newt_objects_commit.specs.Calls.{CommitsBatch, CommitsObjects, live_after}
use Rattle.newt_objects_commit.specs.Commit.{AreKept, IsPlanned, IsEither, MakesPlanned}
use Rattle.newt_objects_commit.proofs.Committing.{blocks-are, planned-count, planned-fits, planned-full, leaves-either, leaves-nothing, holds-after, kept-after, kept-still}

-- what is said where the run goes on, by its two ways
pub goes-on : {T : Type 0} (P : Type 0) (r : Result T StoreFault) → OnOk r P → (IsRefused r → P) → GoesOn r → P
goes-on P (Ok x) done refused goes = done
goes-on P (Err (Refused refusal)) done refused goes = refused goes
goes-on P (Err (Stop stop)) done refused goes = absurd goes

pub ok-map : {T E : Type 0} (P Q : Type 0) (r : Result T E) → (P → Q) → OnOk r P → OnOk r Q
ok-map P Q (Ok x) f p = f p
ok-map P Q (Err e) f p = tt

pub ok-both : {T E : Type 0} (P Q : Type 0) (r : Result T E) → OnOk r P → OnOk r Q → OnOk r (P × Q)
ok-both P Q (Ok x) p q = (p, q)
ok-both P Q (Err e) p q = tt

pub ok-three : {T E : Type 0} (P Q R : Type 0) (r : Result T E) → OnOk r P → OnOk r Q → OnOk r R → OnOk r (P × Q × R)
ok-three P Q R (Ok x) p q s = (p, q, s)
ok-three P Q R (Err e) p q s = tt

-- what becomes of the plans: they are taken over, or dropped
pub record Settles (objects next : Held) (result : Result (Unit {0}) StoreFault) : Type 0 where
  pub made : OnOk result ((id : ℕ) → held next id ≡ planned objects id)
  pub still : IsRefused result → (id : ℕ) → held next id ≡ held objects id
  pub none : GoesOn result → next.plans ≡ []

pub ok-told : {T E : Type 0} (P : Type 0) (told : Bool) (r : Result T E) → (IsTrue told → OnOk r P) → OnOk r (IsTrue told → P)
ok-told P told (Ok x) f = f
ok-told P told (Err e) f = tt

-- objects that are kept of a book are kept of it where it is only looked at
pub kept-looked : {B : Type 0} (place : B → ℕ) (numbers : B → Numbers) (spare : B → ℕ)
    (standing : Bool → B → Outside → Type 0) {told : Bool} {old new : B} {before after : Outside}
    (objects : Held) → Looks place numbers spare standing told old new before after
    → AreKept told objects (numbers old) (place old) before
    → AreKept told objects (numbers new) (place old) after
kept-looked place numbers spare standing objects look kept = record {
  none = kept.none;
  are = look.objects (held objects) kept.are;
}

-- the same fault under another name
pub batch-as : {B : Type 0} (place : B → ℕ) (numbers : B → Numbers) (standing : Bool → B → Outside → Type 0) {told : Bool} {batch : Change} {unit : ℕ} {was : Numbers} {new : B} {before after : Outside} (f q : StoreFault) → f ≡ q
    → CommitsBatch place numbers standing told batch unit was new before after (let r : Result (Unit {0}) StoreFault = Err f in r)
    → CommitsBatch place numbers standing told batch unit was new before after (let r : Result (Unit {0}) StoreFault = Err q in r)
batch-as place numbers standing {told = told} {batch = batch} {unit = unit} {was = was} {new = new} {before = before} {after = after} f q is c =
    subst (λ (x : StoreFault). CommitsBatch place numbers standing told batch unit was new before after (let r : Result (Unit {0}) StoreFault = Err x in r)) is c

module _ {B : Type 0} (place : B → ℕ) (numbers : B → Numbers) (standing : Bool → B → Outside → Type 0) (told : Bool) (batch : Change) (objects next : Held) (old new : B) (before after : Outside)
    (r : Result (Unit {0}) StoreFault) (c : CommitsBatch place numbers standing told batch (place old) (numbers old) new before after r) (settles : Settles objects next r) where
  pub commits-planned : (was will : Objects) → IsPlanned told objects batch (numbers old) (image (place old) before.now) was will
      → CommitsObjects place numbers standing told next (batch_bytes batch) 0 old new before after r
  commits-planned was will p = record {
    stands = c.stands;
    kept = λ goes. record {
      none = settles.none goes;
      are = goes-on _ r
          (ok-map _ _ r (λ all. kept-after told objects next batch (numbers old) (numbers new) (place old) before after was will p all.0 all.1.0 all.1.1)
          (ok-both _ _ r c.numbers_are (ok-both _ _ r (ok-told _ told r c.committed) settles.made)))
          (λ refused. kept-still told objects next batch (numbers old) (numbers new) (place old) before after was will p (c.same_numbers refused) (c.nothing_done refused) (settles.still refused)) goes;
    };
    same_place = c.same_place;
    nothing_done = c.nothing_done;
    unchanged = c.unchanged;
    bound = c.bound;
    wears = c.wears;
    open_after = c.open_after;
    alone = c.alone;
    cause = c.cause;
    no_fault = c.no_fault;
  }

  module _ (size : IsTrue told → length (image (place old) before.now) ≡ before.blocks (place old) * 4096) (durable : IsTrue told → IsDurable (place old) before.now) where
    pub makes-planned : MakesPlanned told (place old) batch (numbers old) objects next before after r
    makes-planned =
        let unit : ℕ = place old in
        let blocks : ℕ = before.blocks unit in
        let now : List ℕ = image unit before.now in
        record {
          made = settles.made;
          still = settles.still;
          only = c.only;
          holds = λ tells was will p. ok-three _ _ _ r
              (ok-map _ _ r (λ changed. holds-after told objects batch (numbers old) now was will tells c.sound p (image unit after.now) changed) (c.committed tells))
              (ok-map _ _ r (λ low. planned-fits told objects batch (numbers old) now was will tells c.sound p blocks (size tells) low) c.fits)
              (ok-map _ _ r (λ ready. ready.is_open.new) (c.open_after tells));
          full = λ is tells was will p. planned-full told objects batch (numbers old) now was will tells c.sound p blocks (size tells) (c.full is);
          any_moment = λ tells was will p. ⊎_elim
              (λ more. subst (λ (m : Moment). Leaves unit (IsEither now was will) before.now m) (sym (c.idle more).0)
              (leaves-nothing told objects batch (numbers old) now was will tells c.sound p unit before.now refl (durable tells)))
              (λ low. leaves-either told objects batch (numbers old) now was will tells c.sound p blocks (size tells) unit before.now after.now
              (planned-fits told objects batch (numbers old) now was will tells c.sound p blocks (size tells) low) (c.any_moment tells))
              (cases_lt (cap blocks) (live_after batch (numbers old)));
          too_many = λ tells was will p more.
              let count = planned-count told objects batch (numbers old) now was will tells c.sound p in
              let same : cap (blocks_of now) ≡ cap blocks = ap cap (blocks-are now blocks (size tells)) in
              (c.idle (omega (arith, count, same, more))).1;
          too_many_wears = λ tells was will p more.
              let count = planned-count told objects batch (numbers old) now was will tells c.sound p in
              let same : cap (blocks_of now) ≡ cap blocks = ap cap (blocks-are now blocks (size tells)) in
              (c.idle (omega (arith, count, same, more))).2;
          idle = λ tells was will p more.
              let count = planned-count told objects batch (numbers old) now was will tells c.sound p in
              let same : cap (blocks_of now) ≡ cap blocks = ap cap (blocks-are now blocks (size tells)) in
              (c.idle (omega (arith, count, same, more))).0;
        }
