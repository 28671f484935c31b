-- The unit is looked up, and nothing but the default is other.
use Rattle.std.proofs.Common.{◌≡◌, refl, subst, sym, true}
use Rattle.std.proofs.lemmas.Result.{err_from_is_err_and}
use Rattle.newt_laws_answers.proofs.Stores.{default-done, default-refused}
use Rattle.newt_engine_units.specs.Stands.{mounted_in, world_of}
use Rattle.newt_spec_graph.proofs.Lists.{none-some, some-same}
use Rattle.newt_engine_units.proofs.Settings.{Setting, unit-there, unit-refused}
use Rattle.newt_engine_units.proofs.units.Units.set_default.Goals as goal

pub returns-in_err-find_unit-clause-answered : goal.returns-in_err-find_unit-clause-answered
returns-in_err-find_unit-clause-answered g c outside eight stand =
    let at : Setting g.C.Card.reads g.C.Card.place g.C.Card.soups g.C.Card.stands true c.args.self.now outside = record {
      laws = record { formed = g.met.C.Card.formed; plain = g.met.C.Card.plain; durable = g.met.C.Card.durable; banks = g.met.C.Card.banks; kept = g.met.C.Card.kept };
      eight = eight;
      stand = stand;
    } in
    unit-refused at refl c.args.unit _ _ (default-refused (world_of g.C.Card.reads c.args.self.now outside) c.args.unit) _ c.in_err-find_unit.ensures _ (err_from_is_err_and c.from_residual.result c.from_residual.ensures.1)

pub returns-clause-stands : goal.returns-clause-stands
returns-clause-stands g c told outside s = record {
  eight = s.eight;
  few = s.few;
  attached = s.attached;
  cards = s.cards;
  none = λ h. absurd (none-some _ (sym h));
  sure = s.sure;
  durable = s.durable;
  default = λ u h. subst (λ n. mounted_in c.args.self.now.slots.items n ≡ true) (some-same _ _ h) c.in_ok-find_unit.ensures;
}

pub returns-clause-answered : goal.returns-clause-answered
returns-clause-answered g c outside eight stand =
    let at : Setting g.C.Card.reads g.C.Card.place g.C.Card.soups g.C.Card.stands true c.args.self.now outside = record {
      laws = record { formed = g.met.C.Card.formed; plain = g.met.C.Card.plain; durable = g.met.C.Card.durable; banks = g.met.C.Card.banks; kept = g.met.C.Card.kept };
      eight = eight;
      stand = stand;
    } in
    let p = (unit-there at refl c.args.unit c.in_ok-find_unit.ensures).1 in
    default-done (world_of g.C.Card.reads c.args.self.now outside) c.args.unit _ p.store p.on refl
