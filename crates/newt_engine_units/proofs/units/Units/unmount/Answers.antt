-- The unit is looked up, its card is taken, and the default is passed on.
use Rattle.std.proofs.Common.{refl, ap, ◌∙◌, true}
use Rattle.std.proofs.lemmas.Result.{err_from_is_err_and}
use Rattle.newt_laws_answers.proofs.Stores.{unmount-refused}
use Rattle.newt_engine_units.specs.Faces.{card_faces, default_after}
use Rattle.newt_engine_units.specs.Stands.{world_of}
use Rattle.newt_engine_units.proofs.Mounts.{unmounted-stands, unmount-answers}
use Rattle.newt_engine_units.proofs.Settings.{Setting, unit-there, unit-refused}
use Rattle.newt_engine_units.proofs.units.Units.unmount.Goals as goal

pub returns-in_err-find_unit-clause-answered : goal.returns-in_err-find_unit-clause-answered
returns-in_err-find_unit-clause-answered g c outside eight stand =
    let at : Setting g.C.Card.reads g.C.Card.place g.C.Card.soups g.C.Card.stands true c.args.self.now outside = record {
      laws = record { formed = g.met.C.Card.formed; plain = g.met.C.Card.plain; durable = g.met.C.Card.durable; banks = g.met.C.Card.banks; kept = g.met.C.Card.kept };
      eight = eight;
      stand = stand;
    } in
    unit-refused at refl c.args.unit _ _ (unmount-refused (world_of g.C.Card.reads c.args.self.now outside) c.args.unit) _ c.in_err-find_unit.ensures _ (err_from_is_err_and c.from_residual.result c.from_residual.ensures.1)

pub returns-clause-stands : goal.returns-clause-stands
returns-clause-stands g c told outside s =
    unmounted-stands g.C.Card.soups c.args.self.now _ c.args.unit c.take.ensures.slots
    (c.default_after-self.ensures ∙ ap (λ d. default_after (card_faces g.C.Card.soups c.take.new.self.slots.items) d c.args.unit) c.take.ensures.default) c.in_ok-find_unit.ensures g.C.Card.place g.C.Card.stands told outside s

pub returns-clause-answered : goal.returns-clause-answered
returns-clause-answered g c outside eight stand =
    let at : Setting g.C.Card.reads g.C.Card.place g.C.Card.soups g.C.Card.stands true c.args.self.now outside = record {
      laws = record { formed = g.met.C.Card.formed; plain = g.met.C.Card.plain; durable = g.met.C.Card.durable; banks = g.met.C.Card.banks; kept = g.met.C.Card.kept };
      eight = eight;
      stand = stand;
    } in
    let p = (unit-there at refl c.args.unit c.in_ok-find_unit.ensures).1 in
    unmount-answers g.C.Card.soups c.args.self.now (record c.take.new.self { default = c.default_after-self.result }) c.args.unit c.take.ensures.slots
    (c.default_after-self.ensures ∙ ap (λ d. default_after (card_faces g.C.Card.soups c.take.new.self.slots.items) d c.args.unit) c.take.ensures.default) c.in_ok-find_unit.ensures at.laws outside eight stand _ p.store p.on c.take.ensures.minute
