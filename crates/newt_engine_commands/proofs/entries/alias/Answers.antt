-- The entry is looked up, and the signatures are those of its store and soup.
use Rattle.std.proofs.Common.{refl, true}
use Rattle.std.proofs.lemmas.Result.{err_from_is_err_and}
use Rattle.newt_laws_answers.proofs.Entries.{alias-refused}
use Rattle.newt_host.specs.Outside.{Outside}
use Rattle.newt_engine_units.specs.Stands.{Eight, Stands, world_of}
use Rattle.newt_engine_commands.proofs.Commands.{alias-answers}
use Rattle.newt_engine_units.proofs.Settings.{Setting, card-none, card-sig, entry-refused}
use Rattle.newt_engine_commands.proofs.entries.alias.Given.{Over}
use Rattle.newt_engine_commands.proofs.entries.alias.Goals as goal

-- where it begins
begins : (g : Over) {units : _} {outside : Outside} → Eight outside → Stands g.C.Card.place g.C.Card.stands true units outside
    → Setting g.C.Card.reads g.C.Card.place g.C.Card.soups g.C.Card.stands true units outside
begins g eight stand = record {
  laws = record { formed = g.met.C.Card.formed; plain = g.met.C.Card.plain; durable = g.met.C.Card.durable; banks = g.met.C.Card.banks; kept = g.met.C.Card.kept };
  eight = eight;
  stand = stand;
}

pub returns-in_err-soup-clause-answered : goal.returns-in_err-soup-clause-answered
returns-in_err-soup-clause-answered g c outside eight stand =
    entry-refused (begins g eight stand) refl c.args.unit c.args.name.now c.args.uid _ _ (alias-refused (world_of g.C.Card.reads c.args.units.now outside) c.args.unit c.args.name.now c.args.uid) _ (c.in_err-soup.ensures.found outside eight stand) _
    (err_from_is_err_and c.from_residual.result c.from_residual.ensures.1)

pub returns-in-Some-clause-answered : goal.returns-in-Some-clause-answered
returns-in-Some-clause-answered g c outside eight stand =
    let k = c.in_ok-soup.ensures.found outside eight stand in
    let h = k.of in
    alias-answers (world_of g.C.Card.reads c.args.units.now outside) c.args.unit h.blocks h.store c.args.name.now h.soup c.args.uid h.on h.named refl k.entry k.found _ _
    (card-sig (begins g eight stand) refl c.args.unit h.blocks h.store h.on c.in-Some.card.now c.in-Some.ensures _ c.sig.ensures) h.sig_is

pub returns-in-None-clause-answered : goal.returns-in-None-clause-answered
returns-in-None-clause-answered g c outside eight stand =
    let k = c.in_ok-soup.ensures.found outside eight stand in
    absurd (card-none (begins g eight stand) refl c.args.unit k.of.blocks k.of.store k.of.on c.in-None.ensures)
