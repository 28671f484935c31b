-- The unit has no card, and no other is touched.
use Rattle.std.proofs.Common.{◌≡◌, refl, ℕ, Err}
use Rattle.newt_host.proofs.Moments.{Leaves-others}
use Rattle.newt_engine_units.specs.Stands.{Stands}
use Rattle.newt_engine_units.specs.Breaks.{FailsAlone}
use Rattle.newt_engine_units.specs.Calls.{Breaks}
use Rattle.newt_engine_units.proofs.Broken.{fails-alone, its-stops, world-beside}
use Rattle.newt_engine_units.proofs.Marked.{free-card}
use Rattle.newt_engine_units.proofs.Calls.{on-devices, stop-cause}
use Rattle.newt_engine_units.proofs.Costs.{format-once, opened-alone}
use Rattle.newt_engine_units.proofs.Slots.{but-beside, but-of, stands-beside}
use Rattle.newt_engine_units.proofs.Turns.{world-formatted, anything-moments}
use Rattle.newt_engine_units.proofs.Settings.{Setting, stand-told}
use Rattle.newt_engine_units.proofs.units.Units.make.Given.{Over}
use Rattle.newt_engine_units.proofs.units.Units.make.Goals as goal

-- where it begins
begins : (g : Over) {units : _} {host : _} → Stands g.C.Card.place g.C.Card.stands g.H.Host.told units (g.H.Host.outside host)
    → Setting g.C.Card.reads g.C.Card.place g.C.Card.soups g.C.Card.stands g.H.Host.told units (g.H.Host.outside host)
begins g {units} {host} stand = record {
  laws = record { formed = g.met.C.Card.formed; plain = g.met.C.Card.plain; durable = g.met.C.Card.durable; banks = g.met.C.Card.banks; kept = g.met.C.Card.kept };
  eight = record { eight = g.met.H.Host.eight host; none = g.met.H.Host.none host };
  stand = stand;
}

pub returns-in-Ok : goal.returns-in-Ok
returns-in-Ok g c =
    let at = begins g c.requires.stands in
    let o = g.H.Host.outside c.args.host.now in
    let p = g.H.Host.outside c.format.new.host in
    let e = c.format.ensures in
    let free = c.requires.free.free in
    record {
      stands = λ goes. stands-beside g.C.Card.place g.C.Card.stands g.met.C.Card.kept g.met.C.Card.durable g.H.Host.told c.args.self.now c.args.unit o p e.alone.cards
          (λ t. Leaves-others (e.any_moment t)) free (λ t. (c.in-Ok.ensures.formatted t).1) c.requires.stands;
      made = λ t. world-formatted g.C.Card.reads c.args.self.now c.args.unit o p c.args.name.now c.args.sig e.alone.cards (Leaves-others (e.any_moment t)) c.requires.sure free (c.in-Ok.ensures.formatted t).0;
      fresh = λ t. c.in-Ok.ensures.fresh t;
      only = tt;
      moments = λ t command v has formatting makes. anything-moments at.laws c.args.self.now o at.eight (stand-told at t) c.args.unit _ command v _ has formatting makes c.requires.sure (e.any_moment t);
      costs = format-once e.costs e.wears e.alone;
      open_after = λ t goes. opened-alone c.args.unit o.now p.now (c.in-Ok.ensures.open_after t) (Leaves-others (e.any_moment t));
      ends = record { alone = on-devices e.alone; cause = tt; failed = tt; no_fault = λ goes. c.in-Ok.ensures.no_fault };
      broke = tt;
    }

pub returns-in-Err : goal.returns-in-Err
returns-in-Err g c =
    let at = begins g c.requires.stands in
    let o = g.H.Host.outside c.args.host.now in
    let p = g.H.Host.outside c.format.new.host in
    let e = c.format.ensures in
    let failed = fails-alone (free-card c.requires.stands c.requires.free) e.alone in
    let B : ℕ → Type 0 = λ u. (u ≡ c.args.unit) × Breaks g.C.Card.reads g.C.Card.place g.C.Card.stands g.H.Host.told c.args.self.now c.args.self.now o p u in
    record {
      stands = λ goes. absurd goes;
      made = λ t. tt;
      fresh = λ t. tt;
      only = tt;
      moments = λ t command v has formatting makes. anything-moments at.laws c.args.self.now o at.eight (stand-told at t) c.args.unit _ command v _ has formatting makes c.requires.sure (e.any_moment t);
      costs = format-once e.costs e.wears e.alone;
      open_after = λ t goes. absurd goes;
      ends = record {
        alone = on-devices e.alone;
        cause = stop-cause {T = Unit {0}} c.args.unit o p (Err c.in-Err.stop) c.in-Err.ensures.cause;
        failed = its-stops {T = Unit {0}} (FailsAlone o p) c.args.unit o p (Err c.in-Err.stop) failed c.in-Err.ensures.cause;
        no_fault = λ goes. absurd goes;
      };
      broke = its-stops {T = Unit {0}} B c.args.unit o p (Err c.in-Err.stop) (
        refl,
        record {
          stands = but-beside g.C.Card.place g.C.Card.stands g.met.C.Card.kept g.met.C.Card.durable g.H.Host.told c.args.self.now c.args.unit o p e.alone.cards
              (λ t. Leaves-others (e.any_moment t)) (but-of g.C.Card.place g.C.Card.stands g.H.Host.told c.args.self.now c.args.unit o c.requires.stands);
          world = λ t. world-beside g.C.Card.reads c.args.self.now c.args.unit o p e.alone.cards (Leaves-others (e.any_moment t));
          others = λ t. Leaves-others (e.any_moment t);
          failed = failed;
        },
      ) c.in-Err.ensures.cause;
    }
