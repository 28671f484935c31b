-- A refusal is a reply, and so is a device that failed: its unit is thrown out.
use Rattle.std.proofs.Common.{◌≡◌, refl, ap, sym, ◌∙◌, subst, ℕ, IsTrue, Some}
use Rattle.std.specs.Prelude.{IsSome}
use Rattle.newt_host.specs.Moments.{MayLeave, changes, image}
use Rattle.newt_host.proofs.Histories.{history-leaves}
use Rattle.newt_spec_store.specs.Store.{Store}
use Rattle.newt_spec_store.specs.Valid.{valid}
use Rattle.newt_store_change.specs.declared.fault.StoreFault.TheVariants.{Stop}
use Rattle.newt_engine_units.specs.Stands.{Eight}
use Rattle.newt_engine_units.proofs.Known.{Laws}
use Rattle.newt_engine.specs.Laws.{laws_of}
use Rattle.newt_engine.proofs.Applied.{applied-done, applied-memory, applied-refused, applied-thrown, broke-stands, served-as}
use Rattle.newt_engine.proofs.Outcast.{slot-there}
use Rattle.newt_engine.proofs.world.World.apply.Given.{Over}
use Rattle.newt_engine.proofs.world.World.apply.Goals as goal

abbrev laws : (g : Over) → Laws g.C.Card.reads g.C.Card.place g.C.Card.soups g.C.Card.stands
laws g = laws_of g.met.C.Card.formed g.met.C.Card.plain g.met.C.Card.durable g.met.C.Card.banks g.met.C.Card.kept

units_are : (g : Over) (host : _) → Eight (g.H.Host.outside host)
units_are g host = record { eight = g.met.H.Host.eight host; none = g.met.H.Host.none host }

-- what reads is one of what may be left
may_leave : (g : Over) (host : _) → IsTrue g.H.Host.told → let o = g.H.Host.outside host in (u : ℕ) → IsSome (o.card u) → MayLeave u o.now (image u o.now)
may_leave g host t u has = history-leaves _ (changes u (g.H.Host.outside host).now) (g.met.H.Host.history host u t has)

-- and only stores that are valid are read
valid_there : (g : Over) (host : _) → IsTrue g.H.Host.told → let o = g.H.Host.outside host in (u : ℕ) (s : Store) → IsSome (o.card u) → g.C.Card.reads (image u o.now) ≡ Some s → IsTrue (valid (o.blocks u) s)
valid_there g host t u s has is = g.met.C.Card.fits ((g.H.Host.outside host).blocks u) (image u (g.H.Host.outside host).now) s (g.met.H.Host.sized host u t) is

pub returns-in-Ok : goal.returns-in-Ok
returns-in-Ok g c = applied-done (laws g) c.requires.stands (may_leave g c.args.host.now) (valid_there g c.args.host.now) c.in-Ok.reply c.in-Ok.ensures

pub returns-in-Err-Refused : goal.returns-in-Err-Refused
returns-in-Err-Refused g c =
    let h = c.in-Err-Refused in
    applied-refused (laws g) c.requires.stands (may_leave g c.args.host.now) (valid_there g c.args.host.now) h.refusal (served-as h.field-0-is h.ensures)

pub throw_out-requires : goal.throw_out-requires
throw_out-requires g c =
    let h = c.in-Err-Stop in
    let d = c.in-Device in
    let k = broke-stands d.unit (served-as (h.field-0-is ∙ ap Stop d.is) h.ensures) in
    slot-there d.unit (units_are g c.serve.new.host) k.0 (subst IsSome (sym (h.ensures.alone.cards.card d.unit)) k.1)

pub returns-in-Device : goal.returns-in-Device
returns-in-Device g c =
    let h = c.in-Err-Stop in
    let d = c.in-Device in
    let k = c.throw_out.ensures in
    applied-thrown (laws g) c.requires.stands (may_leave g c.args.host.now) (valid_there g c.args.host.now) (units_are g c.serve.new.host) d.unit (served-as (h.field-0-is ∙ ap Stop d.is) h.ensures) refl
    k.stands k.world

pub returns-in-Memory : goal.returns-in-Memory
returns-in-Memory g c =
    let h = c.in-Err-Stop in
    let d = c.in-Memory in
    applied-memory (laws g) c.requires.stands (may_leave g c.args.host.now) (valid_there g c.args.host.now) _ (served-as (h.field-0-is ∙ ap Stop d.is) h.ensures)
