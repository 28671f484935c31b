-- The soup is looked up, and then its entry.
use Rattle.std.proofs.Common.{true, refl, sym}
use Rattle.std.proofs.lemmas.Result.{err_from_is_err_and}
use Rattle.newt_engine_units.proofs.Settings.{Setting, has-soup, has-entry, entry-missing, soup-missing}
use Rattle.newt_engine_units.proofs.units.Units.find_entry.Goals as goal

pub returns-in_err-soup-clause-found : goal.returns-in_err-soup-clause-found
returns-in_err-soup-clause-found g c outside eight stand =
    let at : Setting g.C.Card.reads g.C.Card.place g.C.Card.soups g.C.Card.stands true c.args.self.now outside = record {
      laws = record { formed = g.met.C.Card.formed; plain = g.met.C.Card.plain; durable = g.met.C.Card.durable; banks = g.met.C.Card.banks; kept = g.met.C.Card.kept };
      eight = eight;
      stand = stand;
    } in
    soup-missing at refl c.args.unit c.args.name.now c.args.uid _ c.in_err-soup.ensures _ (err_from_is_err_and c.from_residual.result c.from_residual.ensures.1)

pub returns-then-has_entry-clause-found : goal.returns-then-has_entry-clause-found
returns-then-has_entry-clause-found g c outside eight stand =
    let at : Setting g.C.Card.reads g.C.Card.place g.C.Card.soups g.C.Card.stands true c.args.self.now outside = record {
      laws = record { formed = g.met.C.Card.formed; plain = g.met.C.Card.plain; durable = g.met.C.Card.durable; banks = g.met.C.Card.banks; kept = g.met.C.Card.kept };
      eight = eight;
      stand = stand;
    } in
    let h = has-soup at refl c.args.unit c.args.name.now c.in_ok-soup.soup c.in_ok-soup.ensures in
    has-entry at refl c.args.unit c.args.name.now c.in_ok-soup.soup c.args.uid h (sym (c.if-has_entry.ensures outside eight stand h.blocks h.store h.on))

pub returns-else-has_entry-clause-found : goal.returns-else-has_entry-clause-found
returns-else-has_entry-clause-found g c outside eight stand =
    let at : Setting g.C.Card.reads g.C.Card.place g.C.Card.soups g.C.Card.stands true c.args.self.now outside = record {
      laws = record { formed = g.met.C.Card.formed; plain = g.met.C.Card.plain; durable = g.met.C.Card.durable; banks = g.met.C.Card.banks; kept = g.met.C.Card.kept };
      eight = eight;
      stand = stand;
    } in
    let h = has-soup at refl c.args.unit c.args.name.now c.in_ok-soup.soup c.in_ok-soup.ensures in
    entry-missing at refl c.args.unit c.args.name.now c.in_ok-soup.soup c.args.uid h (sym (c.if-has_entry.ensures outside eight stand h.blocks h.store h.on))
