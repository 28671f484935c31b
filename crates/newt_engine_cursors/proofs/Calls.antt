-- Calls on cursors, one after another.
use Rattle.std.proofs.Common.{arith, ◌≡◌, refl, sym, ◌∙◌, ◌*◌, ap, subst, Bool, true, false, List, Option, Some, None, ℕ, IsTrue}
use Rattle.std.specs.Prelude.{Result, Ok, Err, IfErr, if◌then◌else◌, not}
use Rattle.newt_host.specs.Outside.{Outside, NoFault}
use Rattle.newt_host.proofs.Outside.{NoFault-refl}
use Rattle.newt_pagebook.specs.declared.book.Stop.{Stop}
use Rattle.newt_pagebook.specs.declared.book.Stop.TheVariants.{Memory, Device}
use Rattle.newt_spec_query.specs.Cursor.{Cursor}
use Rattle.newt_spec_store.specs.Store.{Store}
use Rattle.newt_spec_world.specs.World.{World}
use Rattle.newt_spec_world.specs.Answer.{answer}
use Rattle.newt_spec_world.specs.Reply.{Reply}
use Rattle.newt_spec_world.specs.declared.command.Command.{Command}
use Rattle.newt_laws_answers.specs.Fetched.{pages_shown}
use Rattle.newt_laws_world.specs.Settled.{IsSettled, MountedApart}
use Rattle.newt_engine_card.specs.Bounds.{FetchesAtMost}
use Rattle.newt_engine_units.specs.Answers.{Answers}
use Rattle.newt_laws_world.specs.Cursors.{with_cursors}
use Rattle.newt_store_change.specs.Faults.{NoDevice}
use Rattle.newt_store_change.specs.declared.fault.StoreFault.{StoreFault}
use Rattle.newt_store_change.specs.declared.fault.StoreFault.TheVariants.{Refused, Stop as Ends}
use Rattle.newt_engine_units.specs.Breaks.{AtStop}
use Rattle.newt_engine_units.specs.Calls.{AreRead}
use Rattle.newt_engine_units.specs.Stands.{Stands}
use Rattle.newt_engine_units.specs.declared.units.Units.{Units}
use Rattle.newt_engine_units.proofs.Broken.{none-devices}
use Rattle.newt_engine_units.proofs.Obeying.{none-cause}
use Rattle.newt_engine_hits.specs.Calls.{IsReading}
use Rattle.newt_engine_hits.proofs.Reading.{asked-read, not-read, read-then, cause-since, failed-since, read-more}
use Rattle.newt_engine_cursors.specs.Calls.{FetchesAnswered, Settles, Turns, Walks}
use Rattle.newt_engine_cursors.specs.Unread.{is_unread, steps_unread, walks_unread}
use Rattle.newt_query.specs.Filter.{asks_texts}
use Rattle.newt_spec_graph.proofs.Lists.{some-same, none-some}
use Rattle.newt_engine_cursors.specs.Fits.{DeskFits}
use Rattle.newt_engine_cursors.specs.World.{world_with}

-- ---- what is fetched

-- the query of an open cursor that asks for none
pub unread-query : (o : Option Cursor) (k : Cursor) → Some k ≡ o → is_unread o ≡ true → asks_texts k.query.spec ≡ false
unread-query None k e h = absurd (none-some k (sym e))
unread-query (Some j) k e h = ap (λ (x : Cursor). asks_texts x.query.spec) (some-same k j e) ∙ not-true (asks_texts j.query.spec) h
  where
    not-true : (b : Bool) → not b ≡ true → b ≡ false
    not-true true h = cc
    not-true false h = refl

-- so many pages of one unit
pub on-unit : (this : Bool) (n : ℕ) → (if this then 512 * n else 0) ≡ 512 * (if this then n else 0)
on-unit true n = refl
on-unit false n = refl

-- where the run has ended nothing is said
pub ended-fetches : {T : Type 0} (reply : T → Reply) (o p : Outside) {stop : Stop}
    (r : Result T StoreFault) → (e : StoreFault) × (r ≡ Err e) × (e ≡ Ends stop)
    → FetchesAnswered reply r o p
ended-fetches {T} reply o p r e =
    subst (λ (r : Result T StoreFault). FetchesAnswered reply r o p)
    (sym (e.1 ∙ ap {B = Result T StoreFault} (λ e. Err e) e.2)) tt

-- nothing was fetched
pub answers-none : {T : Type 0} (reply : T → Reply) (o : Outside) (r : Result T StoreFault)
    → FetchesAnswered reply r o o
answers-none reply o (Ok it) = λ u. omega arith
answers-none reply o (Err (Refused refusal)) = λ u. omega arith
answers-none reply o (Err (Ends stop)) = tt

-- ---- a device that fails

-- the cursors are as they were
pub all-kept : (was : List (Option Cursor)) (stop : Stop) → AtStop (λ u. was ≡ was) stop
all-kept was Memory = tt
all-kept was (Device u) = refl

module _ {C : Type 0} {reads : List ℕ → Option Store} {place : C → ℕ} {stands : Bool → C → Outside → Type 0} {told : Bool} {units : Units C} {was : List (Option Cursor)} {o : Outside} where
  -- ---- a call that turns the world into another

  -- that reads nothing and changes nothing
  pub stays-turn : {T : Type 0} {becomes : World → World → Type 0} {result : Result T StoreFault} → Stands place stands told units o → DeskFits was
      → IfErr result (λ fault. NoDevice fault) → (IsTrue told → let w = world_with reads units was o in MountedApart w → becomes w w)
      → Turns reads place stands told becomes units units was was o o result
  stays-turn {result = result} s d none turned = record {
    read = not-read s;
    desk = d;
    turned = turned;
    cause = none-cause result o o (NoFault-refl o) none;
    failed = none-devices _ result none;
    kept = none-devices _ result none;
    refused = λ no. refl;
    no_fault = λ goes. NoFault-refl o;
  }

  -- that reads and changes nothing
  pub turns-read : {T : Type 0} {becomes : World → World → Type 0} {later : Units C} {q : Outside} {result : Result T StoreFault} → AreRead reads place stands told units later o q
      → NoFault o q → DeskFits was → IfErr result (λ fault. NoDevice fault) → (IsTrue told → let w = world_with reads units was o in MountedApart w → becomes w w)
      → Turns reads place stands told becomes units later was was o q result
  turns-read {becomes = becomes} {q = q} {result} a f d none turned = record {
    read = a;
    desk = d;
    turned = λ t apart. subst (λ (x : World). becomes (world_with reads units was o) (with_cursors was x)) (sym (a.world t)) (turned t apart);
    cause = none-cause result o q f none;
    failed = none-devices _ result none;
    kept = none-devices _ result none;
    refused = λ no. refl;
    no_fault = λ goes. f;
  }

  -- that ends with what a call answers which changes cursors
  pub turns-settled : {S T : Type 0} {x : S} {y : T} {one other : World → World → Type 0} {later : Units C} {is : List (Option Cursor)} {q : Outside}
      → Settles reads place stands told one units later was is o q (Ok x)
      → (IsTrue told → let w = world_with reads units was o in let v = world_with reads later is q in MountedApart w → one w v → other w v)
      → Turns reads place stands told other units later was is o q (Ok y)
  turns-settled a same = record { read = a.read; desk = a.desk; turned = λ t apart. same t apart (a.settled t apart); cause = tt; failed = tt; kept = tt; refused = λ no. absurd no; no_fault = λ goes. a.no_fault }

  -- that ends the run where it read
  pub turns-end : {S T : Type 0} {asks : Bool} (becomes : Result T StoreFault → World → World → Type 0) {stop : Stop} {later : Units C} {is : List (Option Cursor)} {q : Outside}
      → IsReading reads place stands {T = S} asks told units later o q (Err stop) → DeskFits is → AtStop (λ u. is ≡ was) stop → (r : Result T StoreFault)
      → (e : StoreFault) × (r ≡ Err e) × (e ≡ Ends stop)
      → ((w v : World) → becomes (Err (Ends stop)) w v) → Turns reads place stands told (becomes r) units later was is o q r
  turns-end {T = T} becomes {stop} {later} {is} {q} a d kept r e ends =
      subst (λ (r : Result T StoreFault). Turns reads place stands told (becomes r) units later was is o q r) (sym (e.1 ∙ ap {B = Result T StoreFault} (λ e. Err e) e.2))
      (record { read = a.read; desk = d; turned = λ t apart. ends _ _; cause = a.cause; failed = a.failed; kept = kept; refused = λ no. absurd no; no_fault = λ goes. absurd goes })

  -- ---- a command

  -- that turns the world so
  pub walks-of : {T : Type 0} {becomes : World → World → Type 0} {c : Command} {reply : T → Reply} {later : Units C} {is : List (Option Cursor)} {q : Outside} {result : Result T StoreFault}
      → Turns reads place stands told becomes units later was is o q result
      → (IsTrue told → let w = world_with reads units was o in let v = world_with reads later is q in MountedApart w → IsSettled w → becomes w v → Answers w v c reply result)
      → (IsTrue told → let w = world_with reads units was o in MountedApart w → IsSettled w → steps_unread w c ≡ true → FetchesAtMost (λ u. 512 * pages_shown (answer w c).1 u) o q)
      → (walks_unread was c ≡ true → FetchesAnswered reply result o q)
      → Walks reads place stands told c reply units later was is o q result
  walks-of a answers fetches shown = record {
    read = a.read;
    desk = a.desk;
    answered = λ t apart settled. answers t apart settled (a.turned t apart);
    fetches = fetches;
    shown = shown;
    cause = a.cause;
    failed = a.failed;
    kept = a.kept;
    refused = a.refused;
    no_fault = a.no_fault;
  }

  -- that reads nothing and changes nothing
  pub stays : {T : Type 0} {c : Command} {reply : T → Reply} {result : Result T StoreFault} → Stands place stands told units o → DeskFits was
      → IfErr result (λ fault. NoDevice fault) → (IsTrue told → let w = world_with reads units was o in MountedApart w → Answers w w c reply result)
      → Walks reads place stands told c reply units units was was o o result
  stays {c = c} {reply} {result} s d none answers =
      walks-of (stays-turn {becomes = λ w v. Answers w v c reply result} s d none answers) (λ t apart settled d. d) (λ t apart settled un. (λ u. omega arith)) (λ un. answers-none reply o result)

  -- ---- a call that settles

  pub settles-reads : {T : Type 0} {becomes : World → World → Type 0} {later : Units C} {is : List (Option Cursor)} {q : Outside} {result : Result T Stop}
      → Settles reads place stands told becomes units later was is o q result → IsReading reads place stands true told units later o q result
  settles-reads a = record { read = a.read; cause = a.cause; failed = a.failed; no_fault = a.no_fault; unread = asked-read refl }

  -- that makes of the world what is said otherwise
  pub settles-as : {T : Type 0} {one other : World → World → Type 0} {later : Units C} {is : List (Option Cursor)} {q : Outside} {result : Result T Stop}
      → Settles reads place stands told one units later was is o q result → ((w v : World) → one w v → other w v) → Settles reads place stands told other units later was is o q result
  settles-as a same = record { read = a.read; desk = a.desk; settled = λ t apart. same _ _ (a.settled t apart); cause = a.cause; failed = a.failed; kept = a.kept; no_fault = a.no_fault }

  -- after a call that reads
  pub settles-after : {T : Type 0} {becomes : World → World → Type 0} {mid later : Units C} {is : List (Option Cursor)} {p q : Outside} {result : Result T Stop}
      → AreRead reads place stands told units mid o p → NoFault o p → Settles reads place stands told becomes mid later was is p q result
      → Settles reads place stands told becomes units later was is o q result
  settles-after {T = T} {becomes = becomes} {mid = mid} {later = later} {is} {p} {q} {result} a f s =
      let last : IsReading reads place stands {T = T} true told mid later p q result = record { read = s.read; cause = s.cause; failed = s.failed; no_fault = s.no_fault; unread = asked-read refl } in
      let all = read-more {asks = true} a f (asked-read refl) last in
      record {
        read = all.read;
        desk = s.desk;
        settled = λ t apart. subst (λ (x : World). MountedApart (with_cursors was x) → becomes (with_cursors was x) (world_with reads later is q)) (a.world t) (s.settled t) apart;
        cause = all.cause;
        failed = all.failed;
        kept = s.kept;
        no_fault = all.no_fault;
      }

  -- that ends the run where it read
  pub settles-end : {S T : Type 0} {asks : Bool} (becomes : Result T Stop → World → World → Type 0) {stop : Stop} {mid later : Units C} {is : List (Option Cursor)} {p q : Outside}
      → AreRead reads place stands told units mid o p → NoFault o p → IsReading reads place stands {T = S} asks told mid later p q (Err stop) → DeskFits is → AtStop (λ u. is ≡ was) stop
      → (r : Result T Stop) → (e : Stop) × (r ≡ Err e) × (e ≡ stop) → ((w v : World) → becomes (Err stop) w v) → Settles reads place stands told (becomes r) units later was is o q r
  settles-end {S = S} {T} becomes {stop} {later = later} {is} {q = q} a f h d kept r e ends =
      subst (λ (r : Result T Stop). Settles reads place stands told (becomes r) units later was is o q r) (sym (e.1 ∙ ap {B = Result T Stop} (λ e. Err e) e.2))
      (record {
        read = read-then a h.read;
        desk = d;
        settled = λ t apart. ends _ _;
        cause = cause-since _ _ _ stop f h.cause;
        failed = failed-since {T = S} q a f (Err stop) h.failed;
        kept = kept;
        no_fault = tt;
      })
