-- A record is begun, written and finished.
use Rattle.std.proofs.Common.{IsTrue, ◌≡◌, inl, inr, ℕ, ◌+◌, Bool, false, List, [], ◌++◌, length, replicate, Option, Result, Ok, Err, IsErr, OnOk, refl, sym, ◌∙◌, ap, subst, arith, ⊎_elim}
use Rattle.std.proofs.lemmas.List.{length-replicate}
use Rattle.std.proofs.lemmas.Result.{IfOk-weaker}
use Rattle.newt_host.specs.Moments.{Moment, image, Leaves}
use Rattle.newt_host.specs.Outside.{Outside, Work}
use Rattle.newt_spec_image.specs.Records.{records, tail, version}
use Rattle.newt_spec_image.specs.Pages.{Change}
use Rattle.newt_journal.specs.Calls.{Programs}
use Rattle.newt_journal.specs.Journal.{Stands, Reading, reading, ReadsAs, ReadsAsEither}
use Rattle.newt_journal.specs.Draft.{IsBegun, IsFinished, journal_of, len_of, put_of, place_of, front_of, unit_of, is_switch, payload_of, rest_of, outcome, outcome_of, commit_work}
use Rattle.newt_journal.specs.Places.{first_place}
use Rattle.newt_journal.specs.declared.draft.Draft.TheVariants.{Append, Switch}
use Rattle.newt_journal.specs.declared.draft.Draft.{Draft}
use Rattle.newt_journal.specs.declared.journal.Journal.{Journal}
use Rattle.newt_pagebook.specs.Book.{IsOpenFor, IsBeforeOrAfter, ReadsChanged}
use Rattle.newt_pagelog.specs.Steps.{Stays, Begins, WritesMore, done}
use Rattle.newt_pagelog.specs.Commits.{Rewrites, Commits}
use Rattle.newt_pagelog.proofs.Changing.{read-same}
use Rattle.newt_pagelog.proofs.Failing.{no-value, no-ok}
use Rattle.newt_pagelog.proofs.Stepping.{NoMore, both, stays-two, stays-on, steady-after, steady-on, writes-failed, writes-two, writes-weaken, writes-widen}

-- what is known of a draft that was begun and written
pub record Written (told : Bool) (unit : ℕ) (work : Work) (kind : Bool) (payload : List ℕ) (draft : Draft) (old now : Outside) : Type 0 where
  pub on : unit_of draft ≡ unit
  pub kind_is : is_switch draft ≡ kind
  pub payload_is : IsTrue told → payload_of draft (image unit now.now) ≡ payload
  pub same : IsTrue told → reading (image unit now.now) ≡ reading (image unit old.now)
  pub stays : Stays told unit work done old now

-- where a record stands that is written after the others, and one that is written alone
pub append-place : (d : Draft) → is_switch d ≡ false → (place_of d ≡ (journal_of d).end + 5) × (front_of d ≡ first_place (journal_of d))
append-place (Append a) is = (refl, refl)
append-place (Switch s) is = absurd (cc)

nothing_more : (a b : List ℕ) → a ≡ [] → a ++ b ≡ b
nothing_more a b e = ap (λ (l : List ℕ). l ++ b) e

-- a record after the others that was begun
pub begun : {told : Bool} {j : Journal} {len : ℕ} {alone : Bool} {d : Draft} {a b : Outside}
    → IsBegun told j len alone d a b
    → (IsTrue told → Leaves j.unit (ReadsAs (reading (image j.unit a.now))) a.now b.now)
    → Begins told j len alone d a b
begun {j = j} {d = d} {a = a} {b = b} is leaves = record {
  begun = is;
  steady = λ tells. steady-on j.unit (unit_of d) b.now (sym is.on) (steady-after j.unit a.now b.now (leaves tells) (is.same tells));
}

-- a call on the draft that was begun
pub stays-begun : {T E : Type 0} {r : Result T E} (told : Bool) (j : Journal) (len : ℕ) (kind : Bool)
    (d : Draft) (a b c : Outside) (w v : Work) → Begins told j len kind d a b
    → Stays told j.unit w done a b → Stays told (unit_of d) v r b c
    → Stays told j.unit (both w v) r a c
stays-begun told j len kind d a b c w v begins begun more =
    stays-two w v begins.begun.same begun (stays-on (unit_of d) j.unit begins.begun.on more)

pub written : (told : Bool) (j : Journal) (len : ℕ) (kind : Bool) (bytes : List ℕ) (x y : Draft)
    (a b c : Outside) (w v : Work) → Begins told j len kind x a b → Stays told j.unit w done a b
    → Stays told (unit_of x) v done b c → WritesMore told (unit_of x) bytes x y b c
    → Written told j.unit (both w v) kind bytes y a c
written told j len kind bytes x y a b c w v begins begun more writes' =
    let writes : WritesMore told j.unit bytes x y b c = subst (λ (u : ℕ). WritesMore told u bytes x y b c) begins.begun.on writes' in
    record {
      on = writes.on;
      kind_is = writes.kind ∙ begins.begun.kind;
      payload_is = λ tells. writes.more tells ∙ nothing_more (payload_of x (image j.unit b.now)) bytes (begins.begun.empty (image j.unit b.now));
      same = λ tells. writes.same tells ∙ begins.begun.same tells;
      stays = stays-begun told j len kind x a b c w v begins begun more;
    }

-- until a record is finished the records are those before
pub first-either : {T E : Type 0} {r : Result T E} {told : Bool} {unit : ℕ} {w : Work}
    {a b : Outside} (after : Reading) → Stays told unit w r a b
    → Programs told unit w (ReadsAsEither (reading (image unit a.now)) after) r a b
first-either after stays = writes-weaken (λ tells left e. inl e) stays

-- a bank of version 2 with blank bytes after its records
pub open-for : {image : List ℕ} → version image ≡ 2 → (n : ℕ) → tail image ≡ replicate n 255 → IsOpenFor 0 image
open-for new n blank = record {
  is_open = record {
    new = new;
    erased = blank ∙ ap (λ (k : ℕ). replicate k 255) (sym (ap (λ (l : List ℕ). length l) blank ∙ length-replicate n 255));
  };
  room = omega arith;
}

module _ (told : Bool) (unit : ℕ) (work : Work) (kind : Bool) (payload : List ℕ) (d : Draft) (a b c : Outside) (w : Written told unit work kind payload d a b) where
  abbrev out : Option (List (List ℕ))
  out = outcome kind (records (image unit a.now)) payload

  -- what a draft reads as once it is finished
  abbrev ends : ℕ → Option (List (List ℕ))
  ends u = outcome (is_switch d) (records (image u b.now)) (payload_of d (image u b.now))

  outcome_is : IsTrue told → ends unit ≡ out
  outcome_is tells = ap (λ (k : Bool). outcome k (records (image unit b.now)) (payload_of d (image unit b.now))) w.kind_is ∙ ap (λ (r : Option (List (List ℕ))). outcome kind r (payload_of d (image unit b.now))) (ap (λ (r : Reading). r.1) (w.same tells))
      ∙ ap (outcome kind (records (image unit a.now))) (w.payload_is tells)

  -- at each moment the records are those before, or with the new one
  pub finish-writes : {T E : Type 0} {r : Result T E}
      → Programs told (unit_of d) (commit_work (is_switch d))
      (ReadsAsEither (reading (image (unit_of d) b.now)) (2, ends (unit_of d))) r b c
      → Programs told unit (both work (commit_work kind))
      (ReadsAsEither (reading (image unit a.now)) (2, out)) r a c
  finish-writes {r = r} writes =
      let on_unit : Programs told unit (commit_work (is_switch d)) (ReadsAsEither (reading (image unit b.now)) (2, ends unit)) r b c =
      subst (λ (u : ℕ). Programs told u (commit_work (is_switch d)) (ReadsAsEither (reading (image u b.now)) (2, ends u)) r b c) w.on writes in
      let of_kind : Programs told unit (commit_work kind) (ReadsAsEither (reading (image unit b.now)) (2, ends unit)) r b c =
      subst (λ (k : Bool). Programs told unit (commit_work k) (ReadsAsEither (reading (image unit b.now)) (2, ends unit)) r b c) w.kind_is on_unit in
      writes-two work (commit_work kind) (first-either (2, out) w.stays)
      (writes-weaken (λ tells left e. ⊎_elim
      (λ (f : reading left ≡ reading (image unit b.now)). inl (f ∙ w.same tells))
      (λ (s : reading left ≡ (2, ends unit)). inr (s ∙ ap (λ (r : Option (List (List ℕ))). (2, r)) (outcome_is tells))) e) of_kind)

  pub finish-records : IsTrue told → reading (image (unit_of d) c.now) ≡ (2, ends (unit_of d)) → records (image unit c.now) ≡ out
  finish-records tells is =
      ap (λ (r : Reading). r.1) (subst (λ (u : ℕ). reading (image u c.now) ≡ (2, ends u)) w.on is) ∙ outcome_is tells

  pub finish-open : (n : ℕ) → reading (image (unit_of d) c.now) ≡ (2, ends (unit_of d)) → tail (image (unit_of d) c.now) ≡ replicate n 255 → IsOpenFor 0 (image unit c.now)
  finish-open n is blank = subst (λ (u : ℕ). IsOpenFor 0 (image u c.now)) w.on (open-for (ap (λ (r : Reading). r.0) is) n blank)

-- a call that failed before the record was finished, and while it was
module _ {E : Type 0} (told : Bool) (j : Journal) (work : Work) (after : Option (List (List ℕ))) (r : Result Journal E) (a b : Outside) (failed : IsErr r) where
  pub stopped-late : Programs told j.unit work (ReadsAsEither (reading (image j.unit a.now)) (2, after)) r a b → Rewrites told j work after r a b
  stopped-late writes = record {
    stands = no-value r _ failed;
    committed = λ tells. no-ok r _ failed;
    open_after = λ tells. no-ok r _ failed;
    writes = writes;
  }

  pub stopped : Stays told j.unit work r a b → Rewrites told j work after r a b
  stopped stays = stopped-late (first-either (2, after) stays)

-- and one that finished it
pub finished : {E : Type 0} (told : Bool) (j : Journal) (work : Work) (kind : Bool) (payload : List ℕ) (d : Draft) (a b c : Outside) → Written told j.unit work kind payload d a b → (next : Journal) → IsFinished told d next b c
    → Programs {E = E} told (unit_of d) (commit_work (is_switch d)) (ReadsAsEither (reading (image (unit_of d) b.now)) (outcome_of d b)) (Ok next) b c
    → Rewrites {E = E} told j (both work (commit_work kind)) (outcome kind (records (image j.unit a.now)) payload) (Ok next) a c
finished told j work kind payload d a b c w next is writes = record {
  stands = (is.stands, is.on ∙ w.on);
  committed = λ tells. finish-records told j.unit work kind payload d a b c w tells (is.committed tells);
  open_after = λ tells. finish-open told j.unit work kind payload d a b c w (rest_of d) (is.committed tells) (is.rest tells);
  writes = finish-writes told j.unit work kind payload d a b c w writes;
}

pub rewrites-widen : {E : Type 0} {told : Bool} {j : Journal} {after : Option (List (List ℕ))} {r : Result Journal E} {a b : Outside} (w v : Work) → NoMore w v → Rewrites told j w after r a b → Rewrites told j v after r a b
rewrites-widen w v more s = record { stands = s.stands; committed = s.committed; open_after = s.open_after; writes = writes-widen w v more s.writes }

-- the same records
pub rewrites-same : {E : Type 0} (told : Bool) (j : Journal) (work : Work) (after other : Option (List (List ℕ))) (r : Result Journal E) (a b : Outside) → (IsTrue told → after ≡ other) → Rewrites told j work after r a b → Rewrites told j work other r a b
rewrites-same told j work after other r a b same w = record {
  stands = w.stands;
  committed = λ tells. subst (λ (x : Option (List (List ℕ))). OnOk r (records (image j.unit b.now) ≡ x)) (same tells) (w.committed tells);
  open_after = w.open_after;
  writes = writes-weaken (λ tells left e. subst (λ (x : Option (List (List ℕ))). ReadsAsEither (reading (image j.unit a.now)) (2, x) left) (same tells) e) w.writes;
}

-- what is read of the records is read of the pages
pub commits : {E : Type 0} (told : Bool) (j : Journal) (work : Work) (batch : Change) (after : Option (List (List ℕ))) (r : Result Journal E) (a b : Outside) → (IsTrue told → (left : List ℕ) → records left ≡ after → ReadsChanged batch (image j.unit a.now) left)
    → Rewrites told j work after r a b → Commits told j work batch r a b
commits told j work batch after r a b reads w = record {
  stands = w.stands;
  committed = λ tells. IfOk-weaker r _ _ (λ _ is. reads tells (image j.unit b.now) is) (w.committed tells);
  open_after = w.open_after;
  writes = writes-weaken {P = ReadsAsEither (reading (image j.unit a.now)) (2, after)} {Q = IsBeforeOrAfter batch (image j.unit a.now)}
      (λ tells left either. ⊎_elim
      (λ (same : reading left ≡ reading (image j.unit a.now)). inl (read-same left (image j.unit a.now) (ap (λ (r : Reading). r.1) same), ap (λ (r : Reading). r.0) same))
      (λ (more : reading left ≡ (2, after)). inr (reads tells left (ap (λ (r : Reading). r.1) more), ap (λ (r : Reading). r.0) more)) either) w.writes;
}

pub commits-widen : {E : Type 0} {told : Bool} {j : Journal} {batch : Change} {r : Result Journal E} {a b : Outside} (w v : Work) → NoMore w v → Commits told j w batch r a b → Commits told j v batch r a b
commits-widen w v more s = record { stands = s.stands; committed = s.committed; open_after = s.open_after; writes = writes-widen w v more s.writes }

-- a failure that is handed on
pub commits-failed : {E : Type 0} (told : Bool) (j : Journal) (work : Work) (batch : Change) (e : E) (r : Result Journal E) (a b : Outside) → IsErr r → Commits {E = E} told j work batch (Err e) a b → Commits told j work batch r a b
commits-failed told j work batch e r a b failed c = record {
  stands = no-value r _ failed;
  committed = λ tells. no-ok r _ failed;
  open_after = λ tells. no-ok r _ failed;
  writes = writes-failed r failed c.writes;
}
