-- The stores that are mounted are those of the world.
use Rattle.newt_engine_units.proofs.Shown.{stores-if-ok}
use Rattle.newt_engine_units.proofs.units.Units.stores.Goals as goal

pub returns : goal.returns
returns g c = record {
  answered = λ outside eight stand. stores-if-ok (record { formed = g.met.C.Card.formed; plain = g.met.C.Card.plain; durable = g.met.C.Card.durable; banks = g.met.C.Card.banks; kept = g.met.C.Card.kept })
      c.args.self.now outside eight stand c.store_lines.result c.store_lines.ensures;
}
