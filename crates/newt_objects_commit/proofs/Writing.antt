-- What a batch that is committed promises, exit by exit.
use Rattle.newt_spec_image.specs.Records.{version}
use Rattle.std.proofs.Common.{◌≡◌, inl, ℕ, ◌*◌, ◌<◌, ◌≤◌, Bool, IsTrue, List, length, Option, IsSome, None, Result, Ok, Err, refl, sym, ◌∙◌, ap, subst, arith}
use Rattle.newt_base.specs.declared.Refusal.TheVariants.{Full as IsFull}
use Rattle.newt_host.specs.Moments.{image, changes, IsDurable, IsHistory, Leaves}
use Rattle.newt_host.specs.Outside.{Outside, Touches}
use Rattle.newt_host.proofs.Moments.{Leaves-start, Leaves-weaken}
use Rattle.newt_host.proofs.Outside.{NoFault-refl, Touches-refl, Wears-refl, Wears-widen}
use Rattle.newt_spec_image.specs.Pages.{Change, cap, pages}
use Rattle.newt_pagebook.specs.Batch.{IsBatch}
use Rattle.newt_pagebook.specs.Book.{Numbers, Shown, IsBeforeOrAfter, ReadsChanged, IsOpenFor, batch_bytes, changed_numbers}
use Rattle.newt_pagebook.specs.Calls.{Commits}
use Rattle.newt_pagebook.specs.declared.book.CommitFault.{CommitFault}
use Rattle.newt_pagebook.specs.declared.book.CommitFault.TheVariants.{Full, Device}
use Rattle.newt_pagebook.specs.declared.book.Stop.TheVariants.{Memory, Device as DeviceOf}
use Rattle.newt_store_change.specs.declared.fault.StoreFault.{StoreFault}
use Rattle.newt_store_change.specs.declared.fault.StoreFault.TheVariants.{Refused, Stop}
use Rattle.newt_store_change.specs.Faults.{FaultsAt, GoesOn, IsRefused}
use Rattle.newt_objects_commit.specs.Calls.{CommitsBatch, IsEitherSide, live_after}
use Rattle.newt_objects_commit.specs.Faults.{RefusesOnly}
use Rattle.newt_objects_commit.proofs.Committing.{some-card}
use Rattle.newt_objects_commit.proofs.Exits.{Fails, no-value, by-fault, no-refusal, not-refused, spends-nothing}
use Rattle.newt_objects_commit.proofs.Lengths.{Leaves-length}

-- a run that ends does not go on, and refuses nothing
pub ends-not : {T A : Type 0} (r : Result T StoreFault) → Fails r (Stop Memory) → GoesOn r → A
ends-not (Ok x) fails goes = absurd fails
ends-not (Err (Refused refusal)) fails goes = absurd (cc)
ends-not (Err (Stop stop)) fails goes = absurd goes

pub refuses-not : {T A : Type 0} (r : Result T StoreFault) → Fails r (Stop Memory) → IsRefused r → A
refuses-not (Ok x) fails refused = absurd fails
refuses-not (Err (Refused refusal)) fails refused = absurd (cc)
refuses-not (Err (Stop stop)) fails refused = absurd refused

-- a crash leaves as many bytes
pub leaves-sized : (unit : ℕ) (old new : Outside) (batch : Change) → 13 ≤ old.blocks unit → (old.card unit ≡ None → old.blocks unit ≡ 0) → length (image unit old.now) ≡ old.blocks unit * 4096
    → (IsSome (old.card unit) → IsHistory (old.blocks unit * 4096) (changes unit old.now)) → (IsSome (new.card unit) → IsHistory (new.blocks unit * 4096) (changes unit new.now)) → Touches unit old new
    → Leaves unit (IsBeforeOrAfter batch (image unit old.now)) old.now new.now → Leaves unit (IsEitherSide batch (image unit old.now)) old.now new.now
leaves-sized unit old new batch banks none size first last alone leaves =
    let card : IsSome (old.card unit) = some-card (old.card unit) (old.blocks unit) none banks in
    let also : IsSome (new.card unit) = subst (λ (x : Option (List ℕ)). IsSome x) (sym (alone.cards.card unit)) card in
    Leaves-weaken (λ left both. (both.0 ∙ sym size, both.1))
    (Leaves-length (first card) (subst (λ (b : ℕ). IsHistory (b * 4096) (changes unit new.now)) (alone.cards.blocks unit) (last also)) leaves)

-- the same, of the book before it was looked at or its room was made
pub batch-at : {B : Type 0} (place : B → ℕ) (numbers : B → Numbers) (standing : Bool → B → Outside → Type 0) {told : Bool} {batch : Change} {unit at : ℕ} {was ns : Numbers} {new : B} {before after : Outside} (r : Result (Unit {0}) StoreFault)
    → at ≡ unit → ns ≡ was → CommitsBatch place numbers standing told batch at ns new before after r → CommitsBatch place numbers standing told batch unit was new before after r
batch-at place numbers standing {told = told} {batch = batch} {unit = unit} {ns = ns} {new = new} {before = before} {after = after} r at same c =
    subst (λ (live : Numbers). CommitsBatch place numbers standing told batch unit live new before after r) same
    (subst (λ (u : ℕ). CommitsBatch place numbers standing told batch u ns new before after r) at c)

not-above : (a b : ℕ) → (a < b → ⊥) → b ≤ a
not-above a b none = omega (arith, none)

module _ {B : Type 0} (place : B → ℕ) (numbers : B → Numbers) (shown : B → Shown) (spare : B → ℕ) (standing : Bool → B → Outside → Type 0) (told : Bool) (batch : Change) (sound : IsBatch batch) where
  -- memory was wanting, and nothing has happened
  pub batch_ended : (r : Result (Unit {0}) StoreFault) (unit : ℕ) (was : Numbers) (new : B) (outside : Outside) → Fails r (Stop Memory) → place new ≡ unit → (IsTrue told → IsDurable unit outside.now)
      → CommitsBatch place numbers standing told batch unit was new outside outside r
  batch_ended r unit was new outside fails at durable = record {
    sound = sound;
    stands = λ goes. ends-not r fails goes;
    same_place = at;
    numbers_are = no-value r (Stop Memory) (λ x. numbers new ≡ changed_numbers batch was) fails;
    same_numbers = λ refused. refuses-not r fails refused;
    committed = λ tells. no-value r (Stop Memory) (λ x. ReadsChanged batch (image unit outside.now) (image unit outside.now)) fails;
    any_moment = λ tells. Leaves-start (λ left may.
        let same : left ≡ image unit outside.now = durable tells left may in
        (ap (λ (l : List ℕ). length l) same, inl (ap pages same, ap version same)));
    fits = no-value r (Stop Memory) (λ x. live_after batch was ≤ cap (outside.blocks unit)) fails;
    full = λ is. absurd (not-refused r IsFull fails is);
    only = by-fault r (Stop Memory) (RefusesOnly IsFull) fails tt;
    idle = λ more. (refl, spends-nothing unit 0 0 outside, Wears-refl unit outside);
    nothing_done = λ refused. refl;
    unchanged = λ is. refl;
    bound = λ tells ready. spends-nothing unit (batch_bytes batch) 0 outside;
    wears = λ tells ready. Wears-widen 0 0 0 2 (omega arith) (omega arith) (Wears-refl unit outside);
    open_after = λ tells. no-value r (Stop Memory) (λ x. IsOpenFor 0 (image unit outside.now)) fails;
    alone = Touches-refl unit outside;
    cause = by-fault r (Stop Memory) (FaultsAt unit outside outside) fails (NoFault-refl outside);
    no_fault = λ goes. NoFault-refl outside;
  }

  module _ {mid new : B} {before after : Outside} (leaves : IsTrue told → Leaves (place mid) (IsEitherSide batch (image (place mid) before.now)) before.now after.now) where
    -- the pages are changed
    pub batch_done : {x : Unit {0}} → Commits place numbers shown spare standing told batch mid new before after (let r : Result (Unit {0}) CommitFault = Ok x in r)
        → CommitsBatch place numbers standing told batch (place mid) (numbers mid) new before after (let r : Result (Unit {0}) StoreFault = Ok tt in r)
    batch_done c = record {
      sound = sound;
      stands = λ goes. c.stands;
      same_place = c.same_place;
      numbers_are = c.numbers_are;
      same_numbers = λ refused. absurd refused;
      committed = c.committed;
      any_moment = leaves;
      fits = not-above (cap (before.blocks (place mid))) (live_after batch (numbers mid)) (λ more. let no = c.fits more in absurd (cc));
      full = λ is. absurd (cc);
      only = tt;
      idle = λ more. let no = c.fits more in absurd (cc);
      nothing_done = λ refused. absurd refused;
      unchanged = λ is. absurd (cc);
      bound = c.bound;
      wears = c.wears;
      open_after = c.open_after;
      alone = c.alone;
      cause = tt;
      no_fault = λ goes. c.no_fault;
    }

    -- more pages would be live than the unit takes
    pub batch_full : Commits place numbers shown spare standing told batch mid new before after (let r : Result (Unit {0}) CommitFault = Err Full in r)
        → CommitsBatch place numbers standing told batch (place mid) (numbers mid) new before after (let r : Result (Unit {0}) StoreFault = Err (Refused IsFull) in r)
    batch_full c =
        let kept = c.unchanged refl in
        record {
          sound = sound;
          stands = λ goes. kept.stands;
          same_place = c.same_place;
          numbers_are = tt;
          same_numbers = λ refused. kept.same_numbers;
          committed = λ tells. tt;
          any_moment = leaves;
          fits = tt;
          full = λ is. c.full refl;
          only = refl;
          idle = λ more. (kept.moment, kept.costs, kept.wears);
          nothing_done = λ refused. kept.moment;
          unchanged = λ is. kept.moment;
          bound = c.bound;
          wears = c.wears;
          open_after = λ tells. tt;
          alone = c.alone;
          cause = tt;
          no_fault = λ goes. kept.no_fault;
        }

    -- the device failed
    pub batch_failed : (at : ℕ) → at ≡ place mid → Commits place numbers shown spare standing told batch mid new before after (let r : Result (Unit {0}) CommitFault = Err Device in r)
        → CommitsBatch place numbers standing told batch (place mid) (numbers mid) new before after (let r : Result (Unit {0}) StoreFault = Err (Stop (DeviceOf at)) in r)
    batch_failed at same c = record {
      sound = sound;
      stands = λ goes. absurd goes;
      same_place = c.same_place;
      numbers_are = tt;
      same_numbers = λ refused. absurd refused;
      committed = λ tells. tt;
      any_moment = leaves;
      fits = tt;
      full = λ is. absurd (no-refusal is);
      only = tt;
      idle = λ more. let no = c.fits more in absurd (cc);
      nothing_done = λ refused. absurd refused;
      unchanged = λ is. absurd (cc);
      bound = c.bound;
      wears = c.wears;
      open_after = λ tells. tt;
      alone = c.alone;
      cause = (same, c.cause refl);
      no_fault = λ goes. absurd goes;
    }
