-- The unit is looked at and made sure of, its store is opened, may be mounted, and is.
use Rattle.std.proofs.Common.{◌≡◌, ap, sym, subst, ℕ, List, IsTrue}
use Rattle.std.proofs.lemmas.Result.{err_from_is_err_and}
use Rattle.newt_host.specs.Moments.{MayLeave, image, changes}
use Rattle.newt_host.proofs.Histories.{history-leaves}
use Rattle.newt_spec_graph.proofs.Lists.{both-ways}
use Rattle.newt_spec_world.specs.Reply.{Reply}
use Rattle.newt_spec_world.specs.declared.command.Command.TheVariants as command
use Rattle.newt_laws_steps.specs.StandsFor.{seen_on}
use Rattle.newt_laws_answers.proofs.Stores.{mount-not-ready}
use Rattle.newt_engine_units.specs.Answers.{Answers}
use Rattle.newt_engine_units.specs.Breaks.{AtDevice, FailsAlone}
use Rattle.newt_engine_units.specs.Calls.{BreaksIn}
use Rattle.newt_engine_units.specs.Faces.{card_faces}
use Rattle.newt_engine_units.specs.Looks.{known_ready}
use Rattle.newt_engine_units.specs.Stands.{Stands, world_of}
use Rattle.newt_engine_units.proofs.Broken.{at-device-both, none-device}
use Rattle.newt_engine_units.proofs.Costs.{alone-refl, synced-costs}
use Rattle.newt_engine_units.proofs.Marked.{free-card}
use Rattle.newt_engine_units.proofs.Mounts.{mount-unopened, mount-refuses, mount-answers, mounted-stands, admits-none}
use Rattle.newt_engine_units.proofs.Obeying.{end-answers, ends-after, handed, handed-ends, none-ends, none-refused, refused-obeys}
use Rattle.newt_engine_units.proofs.Settings.{Setting, is-err, not-looked, stand-told, ready-refused}
use Rattle.newt_engine_units.proofs.Sure.{failed-device, failed-end, failed-keeps, failed-moments, failed-stands, mount-obeys, now-free, now-setting, now-stands, now-sure, sure-keeps, sure-read-breaks}
use Rattle.newt_engine_units.proofs.units.Units.mount.Given.{Over}
use Rattle.newt_engine_units.proofs.units.Units.mount.Goals as goal

-- where it begins
begins : (g : Over) {units : _} {host : _} → Stands g.C.Card.place g.C.Card.stands g.H.Host.told units (g.H.Host.outside host)
    → Setting g.C.Card.reads g.C.Card.place g.C.Card.soups g.C.Card.stands g.H.Host.told units (g.H.Host.outside host)
begins g {units} {host} stand = record {
  laws = record { formed = g.met.C.Card.formed; plain = g.met.C.Card.plain; durable = g.met.C.Card.durable; banks = g.met.C.Card.banks; kept = g.met.C.Card.kept };
  eight = record { eight = g.met.H.Host.eight host; none = g.met.H.Host.none host };
  stand = stand;
}

pub returns-in_err-find_ready : goal.returns-in_err-find_ready
returns-in_err-find_ready g c =
    let at = begins g c.requires in
    let w = world_of g.C.Card.reads c.args.self.now (g.H.Host.outside c.args.host.now) in
    let p = err_from_is_err_and c.from_residual.result c.from_residual.ensures.1 in
    refused-obeys at (command.Mount c.args.unit) (λ x. Reply.store x.0 x.1) _ (none-refused (known_ready c.args.self.now.slots.items ((g.H.Host.outside c.args.host.now).blocks c.args.unit) c.args.unit) _ c.in_err-find_ready.ensures) _ p
    (λ t. subst (λ k. Answers (seen_on g.C.Card.reads w (g.H.Host.outside c.args.host.now).now k) w (command.Mount c.args.unit) (λ x. Reply.store x.0 x.1) c.from_residual.result)
    (sym (not-looked at t c.args.unit _ c.in_err-find_ready.ensures))
    (ready-refused at t c.args.unit _ _ (mount-not-ready w c.args.unit) _ c.in_err-find_ready.ensures _ p))

pub returns-in_err-make_sure : goal.returns-in_err-make_sure
returns-in_err-make_sure g c =
    let at = begins g c.requires in
    let made = c.in_err-make_sure.ensures in
    let p = err_from_is_err_and c.from_residual-in_err-make_sure.result c.from_residual-in_err-make_sure.ensures.1 in
    let ends = handed-ends _ p made.ends in
    record {
      stands = λ goes. failed-stands at made;
      answered = λ t. end-answers _ _ _ _ _ _ p (failed-end at made);
      moments = λ t. failed-moments at made t _ _;
      costs = λ t. synced-costs _ _ _ c.args.unit made.alone made.costs (λ j. ap (image j) (made.nothing_done t)) (λ j. alone-refl j _);
      alone = ends.alone;
      cause = ends.cause;
      broke = handed (AtDevice (BreaksIn g.C.Card.reads g.C.Card.place g.C.Card.stands g.H.Host.told (command.Mount c.args.unit) c.args.self.now c.make_sure.new.self (g.H.Host.outside c.args.host.now) (g.H.Host.outside c.make_sure.new.host)))
          _ _ p (failed-device at made (command.Mount c.args.unit));
      no_fault = ends.no_fault;
      kept = λ idle. failed-keeps at made;
    }

pub returns-in_err-card : goal.returns-in_err-card
returns-in_err-card g c =
    let at = begins g c.requires in
    let o = g.H.Host.outside c.args.host.now in
    let m = g.H.Host.outside c.make_sure.new.host in
    let q = g.H.Host.outside c.open_store.new.host in
    let free = c.in_ok-find_ready.ensures in
    let made = c.in_ok-make_sure.ensures in
    let then = now-setting at free made (record { eight = g.met.H.Host.eight c.make_sure.new.host; none = g.met.H.Host.none c.make_sure.new.host }) in
    let may : IsTrue g.H.Host.told → MayLeave c.args.unit o.now (image c.args.unit o.now) = λ t.
    history-leaves _ (changes c.args.unit o.now) (g.met.H.Host.history c.args.host.now c.args.unit t (free-card c.requires free)) in
    let e = c.in_err-card.ensures in
    let p = err_from_is_err_and c.from_residual-in_err-card.result c.from_residual-in_err-card.ensures.1 in
    let B : ℕ → Type 0 = BreaksIn g.C.Card.reads g.C.Card.place g.C.Card.stands g.H.Host.told (command.Mount c.args.unit) c.args.self.now c.make_sure.new.self o q in
    mount-obeys at free made (λ x. Reply.store x.0 x.1) _ may e.looks.untouched e.looks.moment (handed-ends _ p e.ends) (λ goes. e.looks.stand)
    (λ t. subst (λ r. Answers (world_of g.C.Card.reads c.make_sure.new.self m) (world_of g.C.Card.reads c.make_sure.new.self q) (command.Mount c.args.unit) (λ x. Reply.store x.0 x.1) r)
    (sym (is-err _ _ p))
    (mount-unopened at.laws c.make_sure.new.self c.args.unit m q then.eight (stand-told then t) (now-free at free made) (now-sure at free made)
    e.looks.moment e.looks.alone.cards g.H.Host.told t (λ card. g.C.Card.stands g.H.Host.told card q × (g.C.Card.place card ≡ c.args.unit)) _ e.opened))
    (handed (AtDevice B) _ _ p (at-device-both (λ k. k ≡ c.args.unit) (FailsAlone m q) B _
    (λ k is failed. subst B (sym is) (sure-read-breaks at free made (command.Mount c.args.unit) may e.looks (subst (FailsAlone m q) is failed))) e.its e.ends.failed))
    (λ idle. sure-keeps at free made)

pub returns-in_err-face : goal.returns-in_err-face
returns-in_err-face g c =
    let at = begins g c.requires in
    let o = g.H.Host.outside c.args.host.now in
    let m = g.H.Host.outside c.make_sure.new.host in
    let q = g.H.Host.outside c.open_store.new.host in
    let free = c.in_ok-find_ready.ensures in
    let made = c.in_ok-make_sure.ensures in
    let then = now-setting at free made (record { eight = g.met.H.Host.eight c.make_sure.new.host; none = g.met.H.Host.none c.make_sure.new.host }) in
    let may : IsTrue g.H.Host.told → MayLeave c.args.unit o.now (image c.args.unit o.now) = λ t.
    history-leaves _ (changes c.args.unit o.now) (g.met.H.Host.history c.args.host.now c.args.unit t (free-card c.requires free)) in
    let e = c.in_ok-card.ensures in
    let there = e.opened in
    let p = err_from_is_err_and c.from_residual-in_err-face.result c.from_residual-in_err-face.ensures.1 in
    let none = admits-none (card_faces g.C.Card.soups c.make_sure.new.self.slots.items) (g.C.Card.soups c.in_ok-card.card) _ c.in_err-face.ensures in
    let B : ℕ → Type 0 = BreaksIn g.C.Card.reads g.C.Card.place g.C.Card.stands g.H.Host.told (command.Mount c.args.unit) c.args.self.now c.make_sure.new.self o q in
    mount-obeys at free made (λ x. Reply.store x.0 x.1) _ may e.looks.untouched e.looks.moment (ends-after e.ends tt (handed-ends _ p (none-ends {T = ℕ × List ℕ} _ none))) (λ goes. e.looks.stand)
    (λ t. subst (λ r. Answers (world_of g.C.Card.reads c.make_sure.new.self m) (world_of g.C.Card.reads c.make_sure.new.self q) (command.Mount c.args.unit) (λ x. Reply.store x.0 x.1) r)
    (sym (is-err _ _ p))
    (mount-refuses at.laws c.make_sure.new.self c.args.unit c.in_ok-card.card m q then.eight (stand-told then t) (now-free at free made) (now-sure at free made)
    e.looks.moment e.looks.alone.cards (subst (λ b. g.C.Card.stands b c.in_ok-card.card q) t there.0) there.1 _ c.in_err-face.ensures))
    (handed (AtDevice B) _ _ p (none-device B _ none))
    (λ idle. sure-keeps at free made)

pub returns : goal.returns
returns g c =
    let at = begins g c.requires in
    let o = g.H.Host.outside c.args.host.now in
    let m = g.H.Host.outside c.make_sure.new.host in
    let q = g.H.Host.outside c.open_store.new.host in
    let free = c.in_ok-find_ready.ensures in
    let made = c.in_ok-make_sure.ensures in
    let then = now-setting at free made (record { eight = g.met.H.Host.eight c.make_sure.new.host; none = g.met.H.Host.none c.make_sure.new.host }) in
    let may : IsTrue g.H.Host.told → MayLeave c.args.unit o.now (image c.args.unit o.now) = λ t.
    history-leaves _ (changes c.args.unit o.now) (g.met.H.Host.history c.args.host.now c.args.unit t (free-card c.requires free)) in
    let e = c.in_ok-card.ensures in
    let there = e.opened in
    mount-obeys at free made (λ x. Reply.store x.0 x.1) _ may e.looks.untouched e.looks.moment (record { alone = e.ends.alone; cause = tt; failed = tt; no_fault = λ goes. e.ends.no_fault tt })
    (λ goes. mounted-stands at.laws c.make_sure.new.self c.args.unit c.in_ok-card.card g.H.Host.told q c.put.new.self c.put.ensures.slots c.put.ensures.default (now-free at free made).attached (now-sure at free made)
    _ c.in_ok-face.ensures.0 there.0 there.1 e.looks.stand)
    (λ t. mount-answers at.laws c.make_sure.new.self c.args.unit c.in_ok-card.card m q then.eight (stand-told then t) (now-free at free made) (now-sure at free made)
    e.looks.moment e.looks.alone.cards (subst (λ b. g.C.Card.stands b c.in_ok-card.card q) t there.0) there.1
    c.put.new.self c.in_ok-face.face c.put.ensures.slots c.put.ensures.default c.put.ensures.minute c.in_ok-face.ensures)
    tt
    (λ idle. absurd (both-ways idle))

pub make_sure-requires : goal.make_sure-requires
make_sure-requires g c = record { stands = c.requires; free = c.in_ok-find_ready.ensures }

pub open_store-requires : goal.open_store-requires
open_store-requires g c =
    let at = begins g c.requires in
    let free = c.in_ok-find_ready.ensures in
    let made = c.in_ok-make_sure.ensures in
    record { stands = now-stands at free made; free = now-free at free made; sure = now-sure at free made }

pub put-requires : goal.put-requires
put-requires g c = (now-free (begins g c.requires) c.in_ok-find_ready.ensures c.in_ok-make_sure.ensures).attached
