-- The card decides.
use Rattle.newt_engine_units.proofs.Known.{Laws}
use Rattle.newt_engine_hits.proofs.Cards.{on-card, no-card}
use Rattle.newt_engine_hits.proofs.present.key_unread.Goals as goal

pub returns-in-Some-clause-found : goal.returns-in-Some-clause-found
returns-in-Some-clause-found g c outside eight stands blocks s on carried =
    let laws : Laws g.C.Card.reads g.C.Card.place g.C.Card.soups g.C.Card.stands = record { formed = g.met.C.Card.formed; plain = g.met.C.Card.plain; durable = g.met.C.Card.durable; banks = g.met.C.Card.banks; kept = g.met.C.Card.kept } in
    let k = on-card laws c.args.units.now outside eight stands c.args.unit blocks s on c.in-Some.card.now c.in-Some.ensures in
    c.key_on_card.ensures.found outside s k.0 k.1 carried

pub returns-in-None-clause-found : goal.returns-in-None-clause-found
returns-in-None-clause-found g c outside eight stands blocks s on carried =
    let laws : Laws g.C.Card.reads g.C.Card.place g.C.Card.soups g.C.Card.stands = record { formed = g.met.C.Card.formed; plain = g.met.C.Card.plain; durable = g.met.C.Card.durable; banks = g.met.C.Card.banks; kept = g.met.C.Card.kept } in
    absurd (no-card laws c.args.units.now outside eight stands c.args.unit blocks s on c.in-None.ensures)
