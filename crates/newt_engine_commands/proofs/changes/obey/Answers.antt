-- The one change is made that the command resolves to.
use Rattle.std.proofs.Common.{refl}
use Rattle.std.proofs.lemmas.Result.{err_from_is_err_and}
use Rattle.newt_engine_units.specs.Stands.{Stands, world_of}
use Rattle.newt_engine_units.proofs.Settings.{Setting}
use Rattle.newt_engine_units.specs.Effects.{answer_in}
use Rattle.newt_engine_commands.proofs.Effects.{effect-carries, known-formed, unresolved-carries}
use Rattle.newt_engine_commands.proofs.Rows.{row-of}
use Rattle.newt_engine_commands.proofs.changes.obey.Given.{Over}
use Rattle.newt_engine_commands.proofs.changes.obey.Goals as goal

-- where it begins
begins : (g : Over) {units : _} {host : _} → Stands g.C.Card.place g.C.Card.stands g.H.Host.told units (g.H.Host.outside host)
    → Setting g.C.Card.reads g.C.Card.place g.C.Card.soups g.C.Card.stands g.H.Host.told units (g.H.Host.outside host)
begins g {units} {host} stand = record {
  laws = record { formed = g.met.C.Card.formed; plain = g.met.C.Card.plain; durable = g.met.C.Card.durable; banks = g.met.C.Card.banks; kept = g.met.C.Card.kept };
  eight = record { eight = g.met.H.Host.eight host; none = g.met.H.Host.none host };
  stand = stand;
}

pub returns-in_err-unit : goal.returns-in_err-unit
returns-in_err-unit g c =
    unresolved-carries (begins g c.requires.stands) c.args.command c.requires.of_stores c.in_err-unit.field-0.0 c.in_err-unit.ensures _ (err_from_is_err_and c.from_residual.result c.from_residual.ensures.1)

pub returns : goal.returns
returns g c =
    let at = begins g c.requires.stands in
    let w = world_of g.C.Card.reads c.args.units.now (g.H.Host.outside c.args.host.now) in
    let r = c.in_ok-unit.ensures in
    effect-carries r.looks (r.ends.no_fault tt) c.args.command c.requires.of_stores r.fetches (λ t. record {
      formed = known-formed at t;
      is = r.found t;
      of_stores = c.requires.of_stores;
      row = row-of w c.args.command _ (known-formed at t) c.requires.of_stores (r.found t);
    }) (answer_in c.alter.result) c.alter.ensures.changes c.alter.result refl c.alter.ensures.effect
