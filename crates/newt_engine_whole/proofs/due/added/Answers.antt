-- The id is that of the known world.
use Rattle.std.proofs.Common.{ap, ◌∙◌, ℕ, Option, unwrap_or}
use Rattle.std.proofs.lemmas.Result.{IfOk-weaker}
use Rattle.newt_engine.specs.Laws.{laws_of}
use Rattle.newt_engine_whole.specs.Told.{event_of}
use Rattle.newt_engine_whole.proofs.Dues.{add-due}
use Rattle.newt_engine_whole.proofs.due.added.Goals as goal

pub returns : goal.returns
returns g c o eight stand =
    let laws = laws_of g.met.C.Card.formed g.met.C.Card.plain g.met.C.Card.durable g.met.C.Card.banks g.met.C.Card.kept in
    IfOk-weaker c.told_of.result _ _ (λ told is. add-due laws c.args.units.now o eight stand c.args.unit c.args.name.now _ (event_of told) (c.unwrap_or-uid.ensures ∙ ap (λ (n : Option ℕ). unwrap_or n 0) c.next_uid.ensures) is) (c.told_of.ensures o eight stand)
