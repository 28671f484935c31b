-- The soup is looked up, and its card has its info frame.
use Rattle.std.proofs.Common.{refl, ap, sym, ◌∙◌, true, Option, Some}
use Rattle.std.proofs.lemmas.Result.{err_from_is_err_and}
use Rattle.newt_laws_answers.proofs.Declares.{info-not-found, info-done}
use Rattle.newt_graph.specs.Graph.{RawGraph}
use Rattle.newt_spec_world.specs.Answer.{or_nil}
use Rattle.newt_spec_world.specs.Reply.{Reply}
use Rattle.newt_spec_world.specs.World.{World}
use Rattle.newt_host.specs.Outside.{Outside}
use Rattle.newt_engine_units.specs.Stands.{Eight, Stands, world_of}
use Rattle.newt_engine_commands.proofs.Declaring.{info-known}
use Rattle.newt_engine_units.proofs.Settings.{Setting, soup-refused, has-soup}
use Rattle.newt_engine_commands.proofs.infos.info.Given.{Over}
use Rattle.newt_engine_commands.proofs.infos.info.Goals as goal

-- where it begins
begins : (g : Over) {units : _} {outside : Outside} → Eight outside → Stands g.C.Card.place g.C.Card.stands true units outside
    → Setting g.C.Card.reads g.C.Card.place g.C.Card.soups g.C.Card.stands true units outside
begins g eight stand = record {
  laws = record { formed = g.met.C.Card.formed; plain = g.met.C.Card.plain; durable = g.met.C.Card.durable; banks = g.met.C.Card.banks; kept = g.met.C.Card.kept };
  eight = eight;
  stand = stand;
}

pub returns-in_err-soup-clause-answered : goal.returns-in_err-soup-clause-answered
returns-in_err-soup-clause-answered g c outside eight stand =
    let w = world_of g.C.Card.reads c.args.units.now outside in
    soup-refused (begins g eight stand) refl c.args.unit c.args.name.now _ _ (info-not-found w c.args.unit c.args.name.now) _ c.in_err-soup.ensures _ (err_from_is_err_and c.from_residual.result c.from_residual.ensures.1)

pub returns-in_ok-copy-in-Some-clause-answered : goal.returns-in_ok-copy-in-Some-clause-answered
returns-in_ok-copy-in-Some-clause-answered g c outside eight stand =
    let at = begins g eight stand in
    let w = world_of g.C.Card.reads c.args.units.now outside in
    let h = has-soup at refl c.args.unit c.args.name.now c.in_ok-soup.soup c.in_ok-soup.ensures in
    info-done w c.args.unit h.blocks h.store c.args.name.now h.soup h.on h.named refl
    ∙ ap {A = Option RawGraph} {B = World × Reply} (λ x. (w, or_nil Reply.literal_of x))
    (sym (info-known at refl c.args.unit h.blocks h.store h.on c.in_ok-soup.soup h.soup h.by_sig _ (ap {A = RawGraph} Some c.in_ok-copy-in-Some.ensures ∙ c.in-Some.ensures)))

pub returns-in-None-clause-answered : goal.returns-in-None-clause-answered
returns-in-None-clause-answered g c outside eight stand =
    let at = begins g eight stand in
    let w = world_of g.C.Card.reads c.args.units.now outside in
    let h = has-soup at refl c.args.unit c.args.name.now c.in_ok-soup.soup c.in_ok-soup.ensures in
    info-done w c.args.unit h.blocks h.store c.args.name.now h.soup h.on h.named refl
    ∙ ap {A = Option RawGraph} {B = World × Reply} (λ x. (w, or_nil Reply.literal_of x)) (sym (info-known at refl c.args.unit h.blocks h.store h.on c.in_ok-soup.soup h.soup h.by_sig _ c.in-None.ensures))
