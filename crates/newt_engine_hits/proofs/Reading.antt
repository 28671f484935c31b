-- Units and devices that are read alone, call after call.
use Rattle.std.proofs.Common.{arith, ◌≡◌, refl, sym, ◌∙◌, ap, subst, ℕ, Bool, true, false, List, Option}
use Rattle.std.specs.Prelude.{Result, Ok, Err, IfErr}
use Rattle.newt_host.specs.Outside.{Outside, NoFault}
use Rattle.newt_host.proofs.Outside.{Broke-since, NoFault-append, OnDevices-refl, OnDevices-append}
use Rattle.newt_pagebook.specs.Stops.{HasStopCause}
use Rattle.newt_pagebook.specs.declared.book.Stop.{Stop}
use Rattle.newt_pagebook.specs.declared.book.Stop.TheVariants.{Memory, Device}
use Rattle.newt_spec_store.specs.Store.{Store}
use Rattle.newt_engine_card.specs.Bounds.{FetchesAtMost}
use Rattle.newt_engine_units.specs.declared.units.Units.{Units}
use Rattle.newt_engine_units.specs.Stands.{Stands}
use Rattle.newt_engine_units.proofs.Costs.{alone-append, alone-refl}
use Rattle.newt_engine_units.specs.Breaks.{AtStop, FailsAlone}
use Rattle.newt_engine_units.specs.Calls.{AreRead}
use Rattle.newt_engine_units.proofs.Broken.{err-stop-map, fails-after}
use Rattle.newt_engine_hits.specs.Calls.{IsReading}

-- why a run ends after calls in which no fault was counted
pub cause-since : (o p q : Outside) (stop : Stop) → NoFault o p → HasStopCause stop p q → HasStopCause stop o q
cause-since o p q Memory f h = NoFault-append f h
cause-since o p q (Device u) f h = Broke-since (f.dev_faults u) h

-- what holds of a device that failed, where the error is handed on
pub handed-stop : {T : Type 0} (P : ℕ → Type 0) (stop : Stop) → AtStop P stop → (result : Result T Stop) → (e : Stop) × (result ≡ Err e) × (e ≡ stop) → IfErr result (AtStop P)
handed-stop {T} P stop at result is = subst (λ (r : Result T Stop). IfErr r (AtStop P)) (sym (is.1 ∙ ap {B = Result T Stop} (λ e. Err e) is.2)) at

-- ---- what is fetched

-- nothing is, unless words or texts are asked for
abbrev pub Unread : Bool → Outside → Outside → Type 0
Unread asks o p = asks ≡ false → FetchesAtMost (λ u. 0) o p

-- where they are asked for, nothing is said
pub asked-read : {asks : Bool} {T : Type 0} → asks ≡ true → asks ≡ false → T
asked-read is e = absurd (both is e)
  where
    both : {b : Bool} → b ≡ true → b ≡ false → ⊥
    both e f = cc

module _ {C : Type 0} {reads : List ℕ → Option Store} {place : C → ℕ} {stands : Bool → C → Outside → Type 0} {told : Bool} where
  -- nothing was read
  pub not-read : {units : Units C} {o : Outside} → Stands place stands told units o → AreRead reads place stands told units units o o
  not-read {units} {o} s = record { stand = s; world = λ t. refl; marks = λ u. refl; dues = λ u. refl; default = refl; minute = refl; moment = refl; untouched = λ u. alone-refl u o; alone = OnDevices-refl o }

  -- one call after another
  pub then-unread : {asks : Bool} {units mid later : Units C} {o p q : Outside} → AreRead reads place stands told units mid o p → AreRead reads place stands told mid later p q
      → Unread asks o p → Unread asks p q → Unread asks o q
  then-unread r s a b e u = let x = a e u in let y = b e u in omega (arith, x, y)

  pub read-then : {units mid later : Units C} {o p q : Outside} → AreRead reads place stands told units mid o p → AreRead reads place stands told mid later p q
      → AreRead reads place stands told units later o q
  read-then a b = record {
    stand = b.stand;
    world = λ t. b.world t ∙ a.world t;
    marks = λ u. b.marks u ∙ a.marks u;
    dues = λ u. b.dues u ∙ a.dues u;
    default = b.default ∙ a.default;
    minute = b.minute ∙ a.minute;
    moment = b.moment ∙ a.moment;
    untouched = λ u. alone-append (a.untouched u) (b.untouched u);
    alone = OnDevices-append a.alone b.alone;
  }

  -- a device that has failed after calls that read is the only one since
  pub failed-since : {T : Type 0} {units mid : Units C} {o p : Outside} (q : Outside) → AreRead reads place stands told units mid o p → NoFault o p → (result : Result T Stop)
      → IfErr result (AtStop (FailsAlone p q)) → IfErr result (AtStop (FailsAlone o q))
  failed-since q a f result h = err-stop-map _ _ result (λ u k. fails-after a.alone.cards f k) h

module _ {C : Type 0} {reads : List ℕ → Option Store} {place : C → ℕ} {stands : Bool → C → Outside → Type 0} {asks told : Bool} where
  -- an answer
  pub is-read : {T : Type 0} {x : T} {units later : Units C} {o q : Outside} → AreRead reads place stands told units later o q → NoFault o q → Unread asks o q
      → IsReading reads place stands asks told units later o q (Ok x)
  is-read a f n = record { read = a; cause = tt; failed = tt; no_fault = f; unread = n }

  -- a call after one that has read
  pub read-more : {T : Type 0} {units mid later : Units C} {o p q : Outside} {result : Result T Stop} → AreRead reads place stands told units mid o p → NoFault o p → Unread asks o p
      → IsReading reads place stands asks told mid later p q result → IsReading reads place stands asks told units later o q result
  read-more {result = Ok x} a f n r = record { read = read-then a r.read; cause = tt; failed = tt; no_fault = NoFault-append f r.no_fault; unread = then-unread a r.read n r.unread }
  read-more {T = T} {q = q} {result = Err stop} a f n r = record {
    read = read-then a r.read;
    cause = cause-since _ _ _ stop f r.cause;
    failed = failed-since {T = T} q a f (Err stop) r.failed;
    no_fault = tt;
    unread = then-unread a r.read n r.unread;
  }

  -- want of memory, where no fault was counted
  pub end-memory : {T : Type 0} {units later : Units C} {o q : Outside} → AreRead reads place stands told units later o q → NoFault o q → Unread asks o q → (r : Result T Stop)
      → (e : Stop) × (r ≡ Err e) × (e ≡ Memory) → IsReading reads place stands asks told units later o q r
  end-memory {T = T} {units} {later} {o} {q} a f n r is =
      subst (λ (r : Result T Stop). IsReading reads place stands asks told units later o q r) (sym (is.1 ∙ ap {B = Result T Stop} (λ e. Err e) is.2))
      (record { read = a; cause = f; failed = tt; no_fault = tt; unread = n })

  -- an error that is handed on
  pub end-read : {S T : Type 0} {stop : Stop} {units mid later : Units C} {o p q : Outside} → AreRead reads place stands told units mid o p → NoFault o p → Unread asks o p
      → IsReading reads place stands {T = S} asks told mid later p q (Err stop) → (r : Result T Stop) → (e : Stop) × (r ≡ Err e) × (e ≡ stop)
      → IsReading reads place stands asks told units later o q r
  end-read {S = S} {T} {stop} {units} {later = later} {o} {q = q} a f n h r is =
      subst (λ (r : Result T Stop). IsReading reads place stands asks told units later o q r) (sym (is.1 ∙ ap {B = Result T Stop} (λ e. Err e) is.2))
      (record {
        read = read-then a h.read;
        cause = cause-since _ _ _ stop f h.cause;
        failed = failed-since {T = S} q a f (Err stop) h.failed;
        no_fault = tt;
        unread = then-unread a h.read n h.unread;
      })

  -- what is said of a query that asks for words or texts is said of one that may
  pub asked-reading : {T : Type 0} {units later : Units C} {o q : Outside} {result : Result T Stop} → asks ≡ true → IsReading reads place stands true told units later o q result
      → IsReading reads place stands asks told units later o q result
  asked-reading e r = record { read = r.read; cause = r.cause; failed = r.failed; no_fault = r.no_fault; unread = asked-read e }

  -- and what is said of any query
  pub any-reading : {T : Type 0} {units later : Units C} {o q : Outside} {result : Result T Stop} → IsReading reads place stands asks told units later o q result
      → IsReading reads place stands true told units later o q result
  any-reading r = record { read = r.read; cause = r.cause; failed = r.failed; no_fault = r.no_fault; unread = asked-read refl }
