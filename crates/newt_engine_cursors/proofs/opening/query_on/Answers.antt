-- The soup is there, or the first of its tests that holds is answered.
use Rattle.std.proofs.Common.{◌∙◌, ap, sym}
use Rattle.newt_spec_store.specs.Store.{Store}
use Rattle.newt_laws_answers.proofs.Units.{is-mounted}
use Rattle.newt_engine_units.specs.Looks.{known_checks}
use Rattle.newt_engine_units.specs.Stands.{world_of}
use Rattle.newt_engine_units.proofs.Known.{Laws, checks-are, soup-found}
use Rattle.newt_engine_hits.proofs.Cards.{on-card}
use Rattle.newt_engine_cursors.proofs.Opened.{asked-on, fails-asked}
use Rattle.newt_engine_cursors.proofs.opening.query_on.Goals as goal

pub returns-in-Some-clause-bound : goal.returns-in-Some-clause-bound
returns-in-Some-clause-bound g c outside eight stands =
    let laws : Laws g.C.Card.reads g.C.Card.place g.C.Card.soups g.C.Card.stands = record { formed = g.met.C.Card.formed; plain = g.met.C.Card.plain; durable = g.met.C.Card.durable; banks = g.met.C.Card.banks; kept = g.met.C.Card.kept } in
    let w = world_of g.C.Card.reads c.args.units.now outside in
    let f = soup-found laws c.args.units.now outside eight stands c.args.unit c.args.name.now c.in-Ok.field-0 c.in-Ok.ensures in
    let r = on-card laws c.args.units.now outside eight stands c.args.unit (outside.blocks c.args.unit) f.store f.on c.in-Some.card.now c.in-Some.ensures in
    asked-on w c.args.unit c.args.name.now c.args.graph.now f.store f.soup (is-mounted w c.args.unit (outside.blocks c.args.unit) f.store f.on) f.named
    c.sig.result (c.sig.ensures ∙ sym (ap (λ (t : Store). t.sig) r.2)) c.query_for.result (c.query_for.ensures.bound outside eight stands)

pub returns-in-Err-clause-bound : goal.returns-in-Err-clause-bound
returns-in-Err-clause-bound g c outside eight stands =
    let laws : Laws g.C.Card.reads g.C.Card.place g.C.Card.soups g.C.Card.stands = record { formed = g.met.C.Card.formed; plain = g.met.C.Card.plain; durable = g.met.C.Card.durable; banks = g.met.C.Card.banks; kept = g.met.C.Card.kept } in
    fails-asked (world_of g.C.Card.reads c.args.units.now outside) c.args.unit c.args.name.now c.args.graph.now
    (known_checks g.C.Card.soups c.args.units.now.slots.items c.args.unit c.args.name.now) (checks-are laws c.args.units.now outside eight stands c.args.unit c.args.name.now)
    c.in-Err.fault c.in-Err.ensures
