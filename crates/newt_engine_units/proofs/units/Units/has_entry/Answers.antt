-- The card knows it.
use Rattle.std.proofs.Common.{true, refl}
use Rattle.newt_engine_units.proofs.Settings.{Setting, card-reads, card-none}
use Rattle.newt_engine_units.proofs.units.Units.has_entry.Goals as goal

pub returns-in-Some : goal.returns-in-Some
returns-in-Some g c outside eight stand blocks s on =
    let at : Setting g.C.Card.reads g.C.Card.place g.C.Card.soups g.C.Card.stands true c.args.self.now outside = record {
      laws = record { formed = g.met.C.Card.formed; plain = g.met.C.Card.plain; durable = g.met.C.Card.durable; banks = g.met.C.Card.banks; kept = g.met.C.Card.kept };
      eight = eight;
      stand = stand;
    } in
    let k = card-reads at refl c.args.unit blocks s on c.in-Some.card.now c.in-Some.ensures in
    c.has.ensures outside s k.0 k.1

pub returns-in-None : goal.returns-in-None
returns-in-None g c outside eight stand blocks s on =
    let at : Setting g.C.Card.reads g.C.Card.place g.C.Card.soups g.C.Card.stands true c.args.self.now outside = record {
      laws = record { formed = g.met.C.Card.formed; plain = g.met.C.Card.plain; durable = g.met.C.Card.durable; banks = g.met.C.Card.banks; kept = g.met.C.Card.kept };
      eight = eight;
      stand = stand;
    } in
    absurd (card-none at refl c.args.unit blocks s on c.in-None.ensures)
