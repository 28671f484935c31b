-- The card decides.
use Rattle.newt_engine_units.proofs.Known.{Laws}
use Rattle.newt_engine_hits.proofs.Cards.{on-card, no-card}
use Rattle.newt_engine_hits.proofs.keep.keeps_unread.Goals as goal

pub returns-in-Some : goal.returns-in-Some
returns-in-Some g c outside eight stands blocks s on there =
    let laws : Laws g.C.Card.reads g.C.Card.place g.C.Card.soups g.C.Card.stands = record { formed = g.met.C.Card.formed; plain = g.met.C.Card.plain; durable = g.met.C.Card.durable; banks = g.met.C.Card.banks; kept = g.met.C.Card.kept } in
    let k = on-card laws c.args.units.now outside eight stands c.args.unit blocks s on c.in-Some.card.now c.in-Some.ensures in
    c.is_kept_on.ensures outside s k.0 k.1 there

pub returns-in-None : goal.returns-in-None
returns-in-None g c outside eight stands blocks s on there =
    let laws : Laws g.C.Card.reads g.C.Card.place g.C.Card.soups g.C.Card.stands = record { formed = g.met.C.Card.formed; plain = g.met.C.Card.plain; durable = g.met.C.Card.durable; banks = g.met.C.Card.banks; kept = g.met.C.Card.kept } in
    absurd (no-card laws c.args.units.now outside eight stands c.args.unit blocks s on c.in-None.ensures)
