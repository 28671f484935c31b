-- The world is asked, and then the watches are told.
use Rattle.std.proofs.Common.{◌≡◌, refl, subst, sym, ℕ, IsTrue, Some, true}
use Rattle.std.specs.Prelude.{IsSome, Result}
use Rattle.std.specs.declared.alloc.AllocError.{AllocError}
use Rattle.std.proofs.lemmas.Result.{err_from_is_err_and}
use Rattle.newt_host.specs.Moments.{MayLeave, changes, image}
use Rattle.newt_host.proofs.Histories.{history-leaves}
use Rattle.newt_host.specs.Outside.{Outside}
use Rattle.newt_reply.specs.declared.reply.Reply.{Reply}
use Rattle.newt_spec_store.specs.Store.{Store}
use Rattle.newt_spec_store.specs.Valid.{valid}
use Rattle.newt_spec_whole.specs.Events.{events}
use Rattle.newt_spec_world.specs.Reply.{Reply as Plain}
use Rattle.newt_engine_units.specs.Stands.{Eight, Stands, world_of}
use Rattle.newt_engine_units.proofs.Known.{Laws}
use Rattle.newt_engine.specs.Laws.{laws_of}
use Rattle.newt_engine.proofs.Applying.{standing-told}
use Rattle.newt_engine_whole.specs.Calls.{Applied}
use Rattle.newt_engine_whole.specs.Told.{HasSig, all_due}
use Rattle.newt_engine_whole.proofs.Asking.{asked-applied, asked-ends, unasked-ends}
use Rattle.newt_engine_whole.proofs.whole.Whole.ask.Given.{Over}
use Rattle.newt_engine_whole.proofs.whole.Whole.ask.Goals as goal

abbrev laws : (g : Over) → Laws g.C.Card.reads g.C.Card.place g.C.Card.soups g.C.Card.stands
laws g = laws_of g.met.C.Card.formed g.met.C.Card.plain g.met.C.Card.durable g.met.C.Card.banks g.met.C.Card.kept

-- what reads is one of what may be left
may_leave : (g : Over) (host : _) → IsTrue g.H.Host.told → let o = g.H.Host.outside host in (u : ℕ) → IsSome (o.card u) → MayLeave u o.now (image u o.now)
may_leave g host t u has = history-leaves _ (changes u (g.H.Host.outside host).now) (g.met.H.Host.history host u t has)

-- and only stores that are valid are read
valid_there : (g : Over) (host : _) → IsTrue g.H.Host.told → let o = g.H.Host.outside host in (u : ℕ) (s : Store) → IsSome (o.card u) → g.C.Card.reads (image u o.now) ≡ Some s → IsTrue (valid (o.blocks u) s)
valid_there g host t u s has is = g.met.C.Card.fits ((g.H.Host.outside host).blocks u) (image u (g.H.Host.outside host).now) s (g.met.H.Host.sized host u t) is

pub returns-in_err-due : goal.returns-in_err-due
returns-in_err-due g c =
    let memory = err_from_is_err_and c.from_residual.result c.from_residual.ensures.1 in
    let o = g.H.Host.outside c.args.host.now in
    subst (λ (r : Result Reply AllocError). Applied g.C.Card.reads g.C.Card.place g.C.Card.stands g.H.Host.told c.args.command c.args.self.now c.args.self.now o o r) (sym memory.1)
    (unasked-ends (laws g) c.requires.of_world c.requires.stands (may_leave g c.args.host.now) (valid_there g c.args.host.now) memory.0 c.in_err-due.ensures.only)

pub returns-in_err-reply : goal.returns-in_err-reply
returns-in_err-reply g c =
    let memory = err_from_is_err_and c.from_residual-in_err-reply.result c.from_residual-in_err-reply.ensures.1 in
    let o = g.H.Host.outside c.args.host.now in
    subst (λ (r : Result Reply AllocError). Applied g.C.Card.reads g.C.Card.place g.C.Card.stands g.H.Host.told c.args.command c.args.self.now (record c.args.self.now { world = c.apply.new.self }) o (g.H.Host.outside c.apply.new.host) r)
    (sym memory.1)
    (asked-ends (laws g) c.requires.of_world c.requires.stands (may_leave g c.args.host.now) (valid_there g c.args.host.now) memory.0 c.in_err-reply.ensures)

pub returns : goal.returns
returns g c =
    let o = g.H.Host.outside c.args.host.now in
    let s = c.requires.stands.world in
    let due = subst (λ units. (outside : Outside) → Eight outside → Stands g.C.Card.place g.C.Card.stands true units outside
    → (r : Plain) → HasSig (world_of g.C.Card.reads units outside) c.args.command r → all_due c.in_ok-due.due r ≡ events (world_of g.C.Card.reads units outside) c.args.command)
    c.units.ensures c.in_ok-due.ensures.due in
    asked-applied (laws g) c.requires.of_world c.requires.stands c.in_ok-due.due (λ t. due o s.eight (standing-told s t).stand) refl refl c.in_ok-reply.ensures c.tell.ensures
