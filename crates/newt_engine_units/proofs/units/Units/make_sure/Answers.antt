-- The unit is synced where that is due.
use Rattle.std.proofs.Common.{arith, ◌≡◌, refl, ap, sym, ◌∙◌, true, false, ◌∷◌, if◌then◌else◌, Ok}
use Rattle.newt_host.specs.Moments.{On, Synced}
use Rattle.newt_host.proofs.Outside.{Touches-no_fault, Touches-refl}
use Rattle.newt_engine_units.specs.Stands.{due_of, is_due}
use Rattle.newt_engine_units.proofs.Broken.{fails-alone}
use Rattle.newt_engine_units.proofs.Calls.{on-devices}
use Rattle.newt_engine_units.proofs.Marked.{attached-bound, free-card, slot-set, slot-so}
use Rattle.newt_engine_units.proofs.Obeying.{none-ends}
use Rattle.newt_engine_units.proofs.units.Units.make_sure.Goals as goal

pub returns-then-not-is_due : goal.returns-then-not-is_due
returns-then-not-is_due g c =
    let o = g.H.Host.outside c.args.host.now in
    let sure : is_due c.args.self.now c.args.unit ≡ false = sym c.is_due.ensures ∙ c.if-not-is_due.true in
    record {
      slots = sym (slot-so (λ slot. record slot { due = false }) c.args.self.now.slots.items c.args.unit (λ slot at. ap (λ b. record slot { due = b }) (sym (sym (ap due_of at) ∙ sure))));
      default = refl;
      minute = refl;
      synced = λ t. sym (ap (λ b. if b then On c.args.unit Synced ∷ o.now else o.now) sure);
      same = tt;
      nothing_done = λ t. tt;
      only = tt;
      alone = Touches-refl c.args.unit o;
      costs = (omega arith, record { erased = omega arith; synced = omega arith });
      ends = none-ends {T = Unit {0}} (Ok tt) tt;
    }

pub returns-in-Ok : goal.returns-in-Ok
returns-in-Ok g c =
    let o = g.H.Host.outside c.args.host.now in
    let due : is_due c.args.self.now c.args.unit ≡ true = sym c.is_due.ensures ∙ c.if-not-is_due.false in
    let call = c.in-Ok.ensures.call in
    record {
      slots = slot-set (λ slot. record slot { due = false }) c.args.self.now.slots.items c.args.unit c.unit.inside.0 c.index_mut.result.now (sym c.unit.view_is)
          (attached-bound c.args.self.now.slots.items c.args.unit c.unit.inside.0 (sym c.unit.view_is) c.requires.free.attached) c.index_mut.ensures.value;
      default = refl;
      minute = refl;
      synced = λ t. (c.in-Ok.ensures.synced t).done ∙ sym (ap (λ b. if b then On c.args.unit Synced ∷ o.now else o.now) due);
      same = tt;
      nothing_done = λ t. tt;
      only = tt;
      alone = call.alone;
      costs = (let k = call.costs.programmed in omega (arith, k), call.wears);
      ends = record { alone = on-devices call.alone; cause = tt; failed = tt; no_fault = λ goes. Touches-no_fault call.alone call.faults.no_fault };
    }

pub returns-in-Err : goal.returns-in-Err
returns-in-Err g c =
    let call = c.in-Err.ensures.call in
    record {
      slots = tt;
      default = refl;
      minute = refl;
      synced = λ t. tt;
      same = refl;
      nothing_done = λ t. (c.in-Err.ensures.synced t).failed;
      only = refl;
      alone = call.alone;
      costs = (let k = call.costs.programmed in omega (arith, k), call.wears);
      ends = record { alone = on-devices call.alone; cause = call.faults.cause; failed = fails-alone (free-card c.requires.stands c.requires.free) call.alone; no_fault = λ goes. absurd goes };
    }
