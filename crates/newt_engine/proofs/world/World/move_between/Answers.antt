-- Both soups are looked up.
use Rattle.std.proofs.Common.{refl, ℕ}
use Rattle.std.proofs.lemmas.Result.{err_from_is_err_and}
use Rattle.newt_spec_world.specs.Reply.{Reply}
use Rattle.newt_spec_world.specs.declared.command.Command.TheVariants as command
use Rattle.newt_laws_answers.proofs.Copies.{move-not-found}
use Rattle.newt_engine_units.specs.Looks.{known_both}
use Rattle.newt_engine_units.specs.Stands.{Stands, world_of}
use Rattle.newt_engine_units.proofs.Obeying.{none-refused, refused-obeys}
use Rattle.newt_engine_units.proofs.Settings.{Setting, both-refused, has-soup}
use Rattle.newt_engine.specs.Laws.{laws_of}
use Rattle.newt_engine.proofs.Moving.{move_no_cursor}
use Rattle.newt_engine.proofs.Serving.{served_handed}
use Rattle.newt_engine.proofs.world.World.move_between.Given.{Over}
use Rattle.newt_engine.proofs.world.World.move_between.Goals as goal

-- where it begins
begins : (g : Over) {units : _} {host : _} → Stands g.C.Card.place g.C.Card.stands g.H.Host.told units (g.H.Host.outside host)
    → Setting g.C.Card.reads g.C.Card.place g.C.Card.soups g.C.Card.stands g.H.Host.told units (g.H.Host.outside host)
begins g {units} {host} stand = record {
  laws = laws_of g.met.C.Card.formed g.met.C.Card.plain g.met.C.Card.durable g.met.C.Card.banks g.met.C.Card.kept;
  eight = record { eight = g.met.H.Host.eight host; none = g.met.H.Host.none host };
  stand = stand;
}

pub returns-in_err-soup : goal.returns-in_err-soup
returns-in_err-soup g c =
    let at = begins g c.requires.stands.stand in
    let units = c.args.self.now.units in
    let o = g.H.Host.outside c.args.host.now in
    let w = world_of g.C.Card.reads units o in
    let cmd = command.Move c.args.unit c.args.name.now c.args.uid c.args.to c.args.target.now in
    served_handed at.laws g.H.Host.told c.args.self.now c.args.self.now o o c.requires.stands at.eight cmd
    (move_no_cursor c.args.unit c.args.name.now c.args.uid c.args.to c.args.target.now) refl refl refl refl _ _ (err_from_is_err_and c.from_residual.result c.from_residual.ensures.1)
    (refused-obeys at cmd (λ n. Reply.number n) _ (none-refused (known_both g.C.Card.soups units.slots.items c.args.unit c.args.name.now c.args.to c.args.target.now) _ c.in_err-soup.ensures) _ (_, refl, refl)
    (λ t. both-refused at t {T = ℕ} c.args.unit c.args.name.now c.args.to c.args.target.now cmd (λ n. Reply.number n)
    (move-not-found w c.args.unit c.args.name.now c.args.uid c.args.to c.args.target.now) _ c.in_err-soup.ensures _ (_, refl, refl)))

pub returns : goal.returns
returns g c =
    let at = begins g c.requires.stands.stand in
    c.move_found.ensures c.args.name.now c.args.target.now
    (λ t. (has-soup at t c.args.unit c.args.name.now c.in_ok-soup.soup c.in_ok-soup.ensures.0, has-soup at t c.args.to c.args.target.now c.in_ok-soup.into c.in_ok-soup.ensures.1))
