-- A call on the card of the unit after which nothing has happened.
use Rattle.std.proofs.Common.{IsSome, sym, subst}
use Rattle.newt_engine_units.specs.Stands.{Eight}
use Rattle.newt_engine_units.proofs.Calls.{Called, mounted-bound, not-there, ends-of, call-fetches, call-looks, call-reads, call-there, place-is}
use Rattle.newt_engine_units.proofs.Known.{Laws}
use Rattle.newt_engine_units.proofs.units.Units.large_on.Goals as goal

pub returns-in-Some : goal.returns-in-Some
returns-in-Some g c =
    let laws : Laws g.C.Card.reads g.C.Card.place g.C.Card.soups g.C.Card.stands = record {
      formed = g.met.C.Card.formed;
      plain = g.met.C.Card.plain;
      durable = g.met.C.Card.durable;
      banks = g.met.C.Card.banks;
      kept = g.met.C.Card.kept;
    } in
    let eight : Eight (g.H.Host.outside c.args.host.now) = record { eight = g.met.H.Host.eight c.args.host.now; none = g.met.H.Host.none c.args.host.now } in
    let call : Called g.C.Card.place g.H.Host.told c.args.self.now c.args.unit c.unit.inside.0 c.index_mut.result.now c.in-Some.card c.large.new.self (g.H.Host.outside c.args.host.now) (g.H.Host.outside c.large.new.host) = record {
      unit_is = sym c.unit.view_is;
      bound = mounted-bound _ c.args.unit _ (sym c.unit.view_is) c.requires.mounted;
      value = c.index_mut.ensures.value;
      was = c.in-Some.is;
      place_is = c.large.ensures.same_place;
      touches = c.large.ensures.looks.alone;
    } in record {
      looks = call-looks laws call c.requires.stands c.large.ensures.stands c.large.ensures.looks;
      read = λ t blocks s on. c.large.ensures.found t s (call-reads laws t eight call c.requires.stands blocks s on);
      fetches = λ t blocks s on. call-fetches laws call c.requires.stands (c.large.ensures.costs t s (call-reads laws t eight call c.requires.stands blocks s on));
      whole = λ t blocks s on. call-fetches laws call c.requires.stands (c.large.ensures.whole t s (call-reads laws t eight call c.requires.stands blocks s on));
      ends = ends-of _ (subst (λ u. IsSome ((g.H.Host.outside c.args.host.now).card u)) (sym (place-is laws call c.requires.stands)) (call-there laws eight call c.requires.stands))
          c.large.ensures.looks.alone c.large.ensures.cause c.large.ensures.no_fault;
    }

pub returns-in-None : goal.returns-in-None
returns-in-None g c = absurd (not-there _ c.args.unit _ _ (sym c.unit.view_is) c.index_mut.ensures.value c.requires.mounted c.in-None.is)
