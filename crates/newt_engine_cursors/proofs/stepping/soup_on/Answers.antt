-- The card knows the store and its soups.
use Rattle.std.proofs.Common.{◌∙◌, sym}
use Rattle.newt_engine_units.proofs.Known.{Laws}
use Rattle.newt_engine_cursors.proofs.Going.{no-soup-on, soup-on}
use Rattle.newt_engine_cursors.proofs.stepping.soup_on.Goals as goal

pub returns-in-Some : goal.returns-in-Some
returns-in-Some g c outside eight stands =
    let laws : Laws g.C.Card.reads g.C.Card.place g.C.Card.soups g.C.Card.stands = record { formed = g.met.C.Card.formed; plain = g.met.C.Card.plain; durable = g.met.C.Card.durable; banks = g.met.C.Card.banks; kept = g.met.C.Card.kept } in
    c.soup_of_card.ensures ∙ soup-on laws c.args.units.now outside eight stands c.args.unit c.args.name.now c.in-Some.card.now (sym c.in-Some.ensures)

pub returns-in-None : goal.returns-in-None
returns-in-None g c outside eight stands =
    let laws : Laws g.C.Card.reads g.C.Card.place g.C.Card.soups g.C.Card.stands = record { formed = g.met.C.Card.formed; plain = g.met.C.Card.plain; durable = g.met.C.Card.durable; banks = g.met.C.Card.banks; kept = g.met.C.Card.kept } in
    no-soup-on laws c.args.units.now outside eight stands c.args.unit c.args.name.now (sym c.in-None.ensures)
