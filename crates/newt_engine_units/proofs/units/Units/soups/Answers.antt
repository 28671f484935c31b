-- The unit is looked up, and its card has the soups.
use Rattle.std.proofs.Common.{refl, true}
use Rattle.std.proofs.lemmas.Result.{err_from_is_err_and}
use Rattle.newt_laws_answers.proofs.Soups.{soups-refused}
use Rattle.newt_engine_units.specs.Stands.{world_of}
use Rattle.newt_engine_units.proofs.Rows.{soups-answers}
use Rattle.newt_engine_units.proofs.Settings.{Setting, card-none, card-reads, unit-there, unit-refused}
use Rattle.newt_engine_units.proofs.units.Units.soups.Goals as goal

pub returns-in_err-find_unit-clause-answered : goal.returns-in_err-find_unit-clause-answered
returns-in_err-find_unit-clause-answered g c outside eight stand =
    let at : Setting g.C.Card.reads g.C.Card.place g.C.Card.soups g.C.Card.stands true c.args.self.now outside = record {
      laws = record { formed = g.met.C.Card.formed; plain = g.met.C.Card.plain; durable = g.met.C.Card.durable; banks = g.met.C.Card.banks; kept = g.met.C.Card.kept };
      eight = eight;
      stand = stand;
    } in
    unit-refused at refl c.args.unit _ _ (soups-refused (world_of g.C.Card.reads c.args.self.now outside) c.args.unit) _ c.in_err-find_unit.ensures _ (err_from_is_err_and c.from_residual.result c.from_residual.ensures.1)

pub returns-in_ok-soup_lines-in-Some-clause-answered : goal.returns-in_ok-soup_lines-in-Some-clause-answered
returns-in_ok-soup_lines-in-Some-clause-answered g c outside eight stand =
    let at : Setting g.C.Card.reads g.C.Card.place g.C.Card.soups g.C.Card.stands true c.args.self.now outside = record {
      laws = record { formed = g.met.C.Card.formed; plain = g.met.C.Card.plain; durable = g.met.C.Card.durable; banks = g.met.C.Card.banks; kept = g.met.C.Card.kept };
      eight = eight;
      stand = stand;
    } in
    let p = (unit-there at refl c.args.unit c.in_ok-find_unit.ensures).1 in
    let k = card-reads at refl c.args.unit _ p.store p.on c.in-Some.card.now c.in-Some.ensures in
    soups-answers (world_of g.C.Card.reads c.args.self.now outside) c.args.unit _ p.store p.on refl _ (c.in_ok-soup_lines-in-Some.ensures outside p.store k.0 k.1)

pub returns-in-None-clause-answered : goal.returns-in-None-clause-answered
returns-in-None-clause-answered g c outside eight stand =
    let at : Setting g.C.Card.reads g.C.Card.place g.C.Card.soups g.C.Card.stands true c.args.self.now outside = record {
      laws = record { formed = g.met.C.Card.formed; plain = g.met.C.Card.plain; durable = g.met.C.Card.durable; banks = g.met.C.Card.banks; kept = g.met.C.Card.kept };
      eight = eight;
      stand = stand;
    } in
    let p = (unit-there at refl c.args.unit c.in_ok-find_unit.ensures).1 in
    absurd (card-none at refl c.args.unit _ p.store p.on c.in-None.ensures)
