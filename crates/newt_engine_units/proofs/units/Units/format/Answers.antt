-- The unit is looked at and made sure of, its store is looked for, and it is formatted.
use Rattle.std.proofs.Common.{◌≡◌, refl, sym, ap, ◌∙◌, subst, ℕ, IsTrue, true, inr, Err}
use Rattle.std.specs.Prelude.{Result, Ok, OnOk, is_some}
use Rattle.std.proofs.lemmas.Bool.{ne_eqb}
use Rattle.std.proofs.lemmas.Result.{err_from_is_err_and}
use Rattle.newt_base.specs.declared.Refusal.TheVariants.{Store as HasStore}
use Rattle.newt_store_change.specs.declared.fault.StoreFault.TheVariants.{Refused}
use Rattle.newt_host.specs.Moments.{MayLeave, Moment, Always, changes, image}
use Rattle.newt_host.proofs.Histories.{history-leaves}
use Rattle.newt_spec_graph.proofs.Lists.{both-ways}
use Rattle.newt_spec_world.specs.Reply.{Reply}
use Rattle.newt_spec_world.specs.Step.{formats}
use Rattle.newt_spec_world.specs.World.{World, IsBlankOn}
use Rattle.newt_spec_world.specs.declared.command.Command.{Command}
use Rattle.newt_spec_world.specs.declared.command.Command.TheVariants as command
use Rattle.newt_laws_steps.specs.StandsFor.{seen_on}
use Rattle.newt_spec_world.specs.Answer.{answer}
use Rattle.newt_laws_answers.specs.Tests.{formatted}
use Rattle.newt_laws_answers.proofs.Stores.{format-not-ready}
use Rattle.newt_engine_units.specs.Answers.{Answers}
use Rattle.newt_engine_units.specs.Breaks.{AtDevice, FailsAlone, Meanwhile}
use Rattle.newt_engine_units.specs.Calls.{Breaks, BreaksIn}
use Rattle.newt_engine_units.specs.Stands.{Stands, due_in, world_of}
use Rattle.newt_engine_units.proofs.Answering.{format-has-answers, format-answers, format-makes, format-blank, format-formats}
use Rattle.newt_engine_units.proofs.Broken.{at-device-both, err-device-map, none-device}
use Rattle.newt_engine_units.proofs.Costs.{alone-once, alone-refl, once-after, same-before, synced-once}
use Rattle.newt_engine_units.proofs.Keeping.{keeps-refl}
use Rattle.newt_engine_units.proofs.Marked.{free-card}
use Rattle.newt_engine_units.specs.Looks.{IsFree, known_ready}
use Rattle.newt_engine_units.proofs.Obeying.{breaks-after, end-answers, handed, handed-ends, none-ends, none-refused, ends-after}
use Rattle.newt_engine_units.proofs.Settings.{Setting, still, not-looked, ready-refused, ready-there}
use Rattle.newt_engine_units.proofs.Sure.{as-seen, failed-device, failed-end, failed-keeps, failed-moments, failed-stands, images-same, moments-after, now-free, now-setting, now-stands, now-sure, sure-breaks, sure-keeps, sure-read-breaks, sync-still}
use Rattle.newt_engine_units.proofs.Turns.{world-still}
use Rattle.newt_engine_units.proofs.units.Units.format.Given.{Over}
use Rattle.newt_engine_units.proofs.units.Units.format.Goals as goal

-- an error is no answer
no-answer : {T E : Type 0} {Q : E → Type 0} (r : Result T E) (P : Type 0) → (y : E) × (r ≡ Err y) × Q y → OnOk r P
no-answer (Ok x) P (y, is, q) = absurd (cc)
no-answer (Err y) P is = tt

-- where it begins
begins : (g : Over) {units : _} {host : _} → Stands g.C.Card.place g.C.Card.stands g.H.Host.told units (g.H.Host.outside host)
    → Setting g.C.Card.reads g.C.Card.place g.C.Card.soups g.C.Card.stands g.H.Host.told units (g.H.Host.outside host)
begins g {units} {host} stand = record {
  laws = record { formed = g.met.C.Card.formed; plain = g.met.C.Card.plain; durable = g.met.C.Card.durable; banks = g.met.C.Card.banks; kept = g.met.C.Card.kept };
  eight = record { eight = g.met.H.Host.eight host; none = g.met.H.Host.none host };
  stand = stand;
}

pub returns-in_err-find_ready : goal.returns-in_err-find_ready
returns-in_err-find_ready g c =
    let at = begins g c.requires.stands in
    let o = g.H.Host.outside c.args.host.now in
    let w = world_of g.C.Card.reads c.args.self.now o in
    let format : Command = command.Format c.args.unit c.args.name.now c.args.sig in
    let p = err_from_is_err_and c.from_residual.result c.from_residual.ensures.1 in
    let none = none-refused (known_ready c.args.self.now.slots.items (o.blocks c.args.unit) c.args.unit) _ c.in_err-find_ready.ensures in
    let B : ℕ → Type 0 = BreaksIn g.C.Card.reads g.C.Card.place g.C.Card.stands g.H.Host.told format c.args.self.now c.args.self.now o o in
    record {
      stands = λ goes. c.requires.stands;
      answered = λ t. subst (λ k. Answers (seen_on g.C.Card.reads w o.now k) w format (λ _. Reply.done) c.from_residual.result) (sym (not-looked at t c.args.unit _ c.in_err-find_ready.ensures))
          (ready-refused at t c.args.unit _ _ (λ r k. format-not-ready w c.args.unit r k c.args.name.now c.args.sig) _ c.in_err-find_ready.ensures _ p);
      fresh = λ t. no-answer _ _ p;
      moments = λ t. still at t _ _ _ refl;
      costs = λ u. alone-once 10 (alone-refl u o);
      open_after = λ t goes u. inr refl;
      ends = handed-ends _ p (none-ends {T = Unit {0}} _ none);
      broke = handed (AtDevice B) _ _ p (none-device B _ none);
      kept = λ idle. keeps-refl c.args.self.now;
    }

pub returns-in_err-make_sure : goal.returns-in_err-make_sure
returns-in_err-make_sure g c =
    let at = begins g c.requires.stands in
    let made = c.in_err-make_sure.ensures in
    let format : Command = command.Format c.args.unit c.args.name.now c.args.sig in
    let p = err_from_is_err_and c.from_residual-in_err-make_sure.result c.from_residual-in_err-make_sure.ensures.1 in
    record {
      stands = λ goes. failed-stands at made;
      answered = λ t. end-answers _ _ _ _ _ _ p (failed-end at made);
      fresh = λ t. no-answer _ _ p;
      moments = λ t. failed-moments at made t _ _;
      costs = synced-once made.alone made.costs (λ u. alone-once 9 (alone-refl u (g.H.Host.outside c.make_sure.new.host)));
      open_after = λ t goes u. inr (ap (image u) (made.nothing_done t));
      ends = handed-ends _ p made.ends;
      broke = handed (AtDevice (BreaksIn g.C.Card.reads g.C.Card.place g.C.Card.stands g.H.Host.told format c.args.self.now c.make_sure.new.self (g.H.Host.outside c.args.host.now) (g.H.Host.outside c.make_sure.new.host)))
          _ _ p (failed-device at made format);
      kept = λ idle. failed-keeps at made;
    }

pub returns-in_err-has_store : goal.returns-in_err-has_store
returns-in_err-has_store g c =
    let at = begins g c.requires.stands in
    let o = g.H.Host.outside c.args.host.now in
    let m = g.H.Host.outside c.make_sure.new.host in
    let q = g.H.Host.outside c.has_store.new.host in
    let format : Command = command.Format c.args.unit c.args.name.now c.args.sig in
    let free = c.in_ok-find_ready.ensures in
    let made = c.in_ok-make_sure.ensures in
    let may : IsTrue g.H.Host.told → MayLeave c.args.unit o.now (image c.args.unit o.now) = λ t.
    history-leaves _ (changes c.args.unit o.now) (g.met.H.Host.history c.args.host.now c.args.unit t (free-card c.requires.stands free)) in
    let e = c.in_err-has_store.ensures in
    let p = err_from_is_err_and c.from_residual-in_err-has_store.result c.from_residual-in_err-has_store.ensures.1 in
    let B : ℕ → Type 0 = BreaksIn g.C.Card.reads g.C.Card.place g.C.Card.stands g.H.Host.told format c.args.self.now c.make_sure.new.self o q in
    record {
      stands = λ goes. e.looks.stand;
      answered = λ t. end-answers _ _ _ _ _ _ p e.has;
      fresh = λ t. no-answer _ _ p;
      moments = λ t. sync-still at free made t (may t) format _ refl _ e.looks.moment;
      costs = synced-once made.alone made.costs (λ u. alone-once 9 (e.looks.untouched u));
      open_after = λ t goes u. inr (ap (image u) e.looks.moment ∙ images-same at free made t u);
      ends = ends-after made.ends tt (handed-ends _ p e.ends);
      broke = handed (AtDevice B) _ _ p (at-device-both (λ k. k ≡ c.args.unit) (FailsAlone m q) B _
          (λ k is failed. subst B (sym is) (sure-read-breaks at free made format may e.looks (subst (FailsAlone m q) is failed))) e.its e.ends.failed);
      kept = λ idle. sure-keeps at free made;
    }

pub returns-then-branch : goal.returns-then-branch
returns-then-branch g c =
    let at = begins g c.requires.stands in
    let o = g.H.Host.outside c.args.host.now in
    let m = g.H.Host.outside c.make_sure.new.host in
    let q = g.H.Host.outside c.has_store.new.host in
    let format : Command = command.Format c.args.unit c.args.name.now c.args.sig in
    let free = c.in_ok-find_ready.ensures in
    let made = c.in_ok-make_sure.ensures in
    let then = now-setting at free made (record { eight = g.met.H.Host.eight c.make_sure.new.host; none = g.met.H.Host.none c.make_sure.new.host }) in
    let mid = world_of g.C.Card.reads c.make_sure.new.self m in
    let may : IsTrue g.H.Host.told → MayLeave c.args.unit o.now (image c.args.unit o.now) = λ t.
    history-leaves _ (changes c.args.unit o.now) (g.met.H.Host.history c.args.host.now c.args.unit t (free-card c.requires.stands free)) in
    let e = c.in_ok-has_store.ensures in
    record {
      stands = λ goes. e.looks.stand;
      answered = λ t.
          let same = world-still g.C.Card.reads c.make_sure.new.self m q e.looks.alone.cards (λ j. ap (changes j) e.looks.moment) in
          subst (λ x. Answers {T = Unit {0}} x (world_of g.C.Card.reads c.make_sure.new.self q) format (λ _. Reply.done) (Err (Refused HasStore))) (as-seen at free made format refl t)
          (format-has-answers mid _ c.args.unit _ (g.C.Card.reads (image c.args.unit m.now)) c.args.name.now c.args.sig (ready-there then t c.args.unit (now-free at free made) (now-sure at free made)) refl
          (sym (e.has t) ∙ c.if-branch.true) same);
      fresh = λ t. tt;
      moments = λ t. sync-still at free made t (may t) format _ refl _ e.looks.moment;
      costs = synced-once made.alone made.costs (λ u. alone-once 9 (e.looks.untouched u));
      open_after = λ t goes u. inr (ap (image u) e.looks.moment ∙ images-same at free made t u);
      ends = ends-after made.ends tt (ends-after e.ends tt (none-ends {T = Unit {0}} _ tt));
      broke = tt;
      kept = λ idle. sure-keeps at free made;
    }

pub returns : goal.returns
returns g c =
    let at = begins g c.requires.stands in
    let o = g.H.Host.outside c.args.host.now in
    let m = g.H.Host.outside c.make_sure.new.host in
    let q = g.H.Host.outside c.has_store.new.host in
    let p = g.H.Host.outside c.make.new.host in
    let u : ℕ = c.args.unit in
    let format : Command = command.Format c.args.unit c.args.name.now c.args.sig in
    let free = c.in_ok-find_ready.ensures in
    let made = c.in_ok-make_sure.ensures in
    let then = now-setting at free made (record { eight = g.met.H.Host.eight c.make_sure.new.host; none = g.met.H.Host.none c.make_sure.new.host }) in
    let before : World = world_of g.C.Card.reads c.args.self.now o in
    let mid : World = world_of g.C.Card.reads c.make_sure.new.self m in
    let may : IsTrue g.H.Host.told → MayLeave c.args.unit o.now (image c.args.unit o.now) = λ t.
    history-leaves _ (changes c.args.unit o.now) (g.met.H.Host.history c.args.host.now c.args.unit t (free-card c.requires.stands free)) in
    let e = c.in_ok-has_store.ensures in
    let found = g.C.Card.reads (image c.args.unit m.now) in
    let same = world-still g.C.Card.reads c.make_sure.new.self m q e.looks.alone.cards (λ j. ap (changes j) e.looks.moment) in
    let ready = λ (t : IsTrue g.H.Host.told). ready-there then t c.args.unit (now-free at free made) (now-sure at free made) in
    let P : ℕ → Type 0 = λ k. (k ≡ c.args.unit) × Breaks g.C.Card.reads g.C.Card.place g.C.Card.stands g.H.Host.told c.make_sure.new.self c.make_sure.new.self q p k in
    let B : ℕ → Type 0 = BreaksIn g.C.Card.reads g.C.Card.place g.C.Card.stands g.H.Host.told format c.args.self.now c.make_sure.new.self o p in
    record {
      stands = c.make.ensures.stands;
      answered = λ t. subst (λ x. Answers x (world_of g.C.Card.reads c.make_sure.new.self p) format (λ _. Reply.done) c.make.result) (as-seen at free made format refl t)
          (format-answers mid (world_of g.C.Card.reads c.make_sure.new.self p) c.args.unit _ found c.args.name.now c.args.sig (ready t) refl
          (sym (e.has t) ∙ c.if-branch.false) _
          (subst (λ (x : World). OnOk c.make.result (world_of g.C.Card.reads c.make_sure.new.self p ≡ formatted x c.args.unit c.args.name.now c.args.sig)) same (c.make.ensures.made t)) c.make.ensures.only);
      fresh = c.make.ensures.fresh;
      moments = λ t.
          let empty = sym (e.has t) ∙ c.if-branch.false in
          let v : World = (answer mid format).0 in
          let way = c.make.ensures.moments t format v
          (subst (λ (x : World). IsBlankOn x u) (sym same) (format-blank mid mid u _ found c.args.name.now c.args.sig (ready t) refl empty))
          (subst (λ (x : World). formats x format u ≡ true) (sym same) (format-formats mid mid u _ found c.args.name.now c.args.sig (ready t) refl empty))
          (format-makes mid mid u _ found c.args.name.now c.args.sig (ready t) refl empty) in
          subst (λ (x : World). Always (Meanwhile g.C.Card.reads (due_in c.args.self.now.slots.items) before format (answer x format).0 o.now) o.now p.now) (as-seen at free made format refl t)
          (moments-after at free made t (may t) format v (λ j other. ne_eqb u j (λ k. other (sym k)))
          (subst (λ (x : World). formats x format u ≡ true) (as-seen at free made format refl t) (format-formats mid mid u _ found c.args.name.now c.args.sig (ready t) refl empty)) empty
          (subst (λ (k : Moment). Always (Meanwhile g.C.Card.reads (due_in c.make_sure.new.self.slots.items) mid format v k) k p.now) e.looks.moment
          (subst (λ (x : World). Always (Meanwhile g.C.Card.reads (due_in c.make_sure.new.self.slots.items) x format v q.now) q.now p.now) same way)));
      costs = synced-once made.alone made.costs (λ j. once-after (e.looks.untouched j) (e.looks.alone.cards.blocks j) (c.make.ensures.costs j));
      open_after = λ t goes j. same-before j o.now q.now p.now (ap (image j) e.looks.moment ∙ images-same at free made t j) (c.make.ensures.open_after t goes j);
      ends = ends-after made.ends tt (ends-after e.ends tt c.make.ensures.ends);
      broke = err-device-map P B c.make.result (λ k b. subst B (sym b.0) (record {
        breaks = sure-breaks at free made (breaks-after e.looks (e.ends.no_fault tt)
            (subst (Breaks g.C.Card.reads g.C.Card.place g.C.Card.stands g.H.Host.told c.make_sure.new.self c.make_sure.new.self q p) b.0 b.1));
        same = λ t untorn sure store.
            let empty = sym (e.has t) ∙ c.if-branch.false in
            absurd (both-ways (sym empty ∙ ap (λ bytes. is_some (g.C.Card.reads bytes)) (images-same at free made t u)
            ∙ store (subst (λ (x : World). formats x format u ≡ true) (as-seen at free made format refl t) (format-formats mid mid u _ found c.args.name.now c.args.sig (ready t) refl empty))));
      })) c.make.ensures.broke;
      kept = λ idle. sure-keeps at free made;
    }

pub make_sure-requires : goal.make_sure-requires
make_sure-requires g c = record { stands = c.requires.stands; free = c.in_ok-find_ready.ensures }

pub has_store-requires : goal.has_store-requires
has_store-requires g c =
    let at = begins g c.requires.stands in
    let free = c.in_ok-find_ready.ensures in
    let made = c.in_ok-make_sure.ensures in
    record { stands = now-stands at free made; free = now-free at free made; sure = now-sure at free made }

pub make-requires-clause-free : goal.make-requires-clause-free
make-requires-clause-free g c =
    let free = now-free (begins g c.requires.stands) c.in_ok-find_ready.ensures c.in_ok-make_sure.ensures in
    subst (λ n. IsFree c.make_sure.new.self n c.args.unit) (sym (c.in_ok-has_store.ensures.looks.alone.cards.blocks c.args.unit)) free

pub make-requires-clause-sure : goal.make-requires-clause-sure
make-requires-clause-sure g c = now-sure (begins g c.requires.stands) c.in_ok-find_ready.ensures c.in_ok-make_sure.ensures
