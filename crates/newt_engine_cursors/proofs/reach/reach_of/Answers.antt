-- The card knows the store.
use Rattle.std.proofs.Common.{◌∙◌, ap, sym}
use Rattle.newt_laws_answers.proofs.Units.{is-mounted}
use Rattle.newt_spec_store.specs.Store.{Store}
use Rattle.newt_engine_units.specs.Stands.{world_of}
use Rattle.newt_engine_units.proofs.Known.{Laws, card-known, none-mounted}
use Rattle.newt_engine_cursors.specs.Reached.{deed_reach, reach_done}
use Rattle.newt_engine_cursors.proofs.reach.reach_of.Goals as goal

pub returns-in-Some : goal.returns-in-Some
returns-in-Some g c outside eight stands =
    let laws : Laws g.C.Card.reads g.C.Card.place g.C.Card.soups g.C.Card.stands = record { formed = g.met.C.Card.formed; plain = g.met.C.Card.plain; durable = g.met.C.Card.durable; banks = g.met.C.Card.banks; kept = g.met.C.Card.kept } in
    let w = world_of g.C.Card.reads c.args.units.now outside in
    let e = c.args.effect.now in
    let k = card-known laws c.args.units.now outside eight stands e.unit c.in-Some.card.now (sym c.in-Some.ensures) in
    c.deed_reach.ensures ∙ ap (λ n. deed_reach n e.deed e.answer) (c.sig.ensures ∙ sym (ap (λ (t : Store). t.sig) k.known))
    ∙ sym (ap (λ o. reach_done o e) (is-mounted w e.unit (outside.blocks e.unit) k.store k.on))

pub returns-in-None : goal.returns-in-None
returns-in-None g c outside eight stands =
    let laws : Laws g.C.Card.reads g.C.Card.place g.C.Card.soups g.C.Card.stands = record { formed = g.met.C.Card.formed; plain = g.met.C.Card.plain; durable = g.met.C.Card.durable; banks = g.met.C.Card.banks; kept = g.met.C.Card.kept } in
    let e = c.args.effect.now in
    sym (ap (λ o. reach_done o e) (none-mounted laws c.args.units.now outside eight stands e.unit (sym c.in-None.ensures)))
