-- The signature is that of the known world.
use Rattle.std.proofs.Common.{ap, ◌∙◌, ℕ, Option, unwrap_or}
use Rattle.newt_engine.specs.Laws.{laws_of}
use Rattle.newt_engine_whole.proofs.Dues.{entry-due}
use Rattle.newt_engine_whole.proofs.due.told_of.Goals as goal

pub returns : goal.returns
returns g c o eight stand =
    let laws = laws_of g.met.C.Card.formed g.met.C.Card.plain g.met.C.Card.durable g.met.C.Card.banks g.met.C.Card.kept in
    entry-due laws c.args.units.now o eight stand c.args.kind c.args.unit c.args.name.now c.args.uid _ _ c.in_ok-name.ensures (c.unwrap_or-soup.ensures ∙ ap (λ (n : Option ℕ). unwrap_or n 0) c.soup_sig.ensures)
