-- The card of the unit knows the indexes of the soup.
use Rattle.std.proofs.Common.{refl, ap, ◌∙◌, true}
use Rattle.newt_spec_graph.proofs.Lists.{some-same, none-some}
use Rattle.newt_spec_store.specs.Keys.{has_paths}
use Rattle.newt_engine_commands.proofs.Declaring.{specs-known}
use Rattle.newt_host.specs.Outside.{Outside}
use Rattle.newt_engine_units.specs.Stands.{Eight, Stands}
use Rattle.newt_engine_units.proofs.Settings.{Setting}
use Rattle.newt_engine_commands.proofs.indexing.has_index.Given.{Over}
use Rattle.newt_engine_commands.proofs.indexing.has_index.Goals as goal

-- where it begins
begins : (g : Over) {units : _} {outside : Outside} → Eight outside → Stands g.C.Card.place g.C.Card.stands true units outside
    → Setting g.C.Card.reads g.C.Card.place g.C.Card.soups g.C.Card.stands true units outside
begins g eight stand = record {
  laws = record { formed = g.met.C.Card.formed; plain = g.met.C.Card.plain; durable = g.met.C.Card.durable; banks = g.met.C.Card.banks; kept = g.met.C.Card.kept };
  eight = eight;
  stand = stand;
}

pub returns-in-Some : goal.returns-in-Some
returns-in-Some g c outside eight stand blocks s p on by =
    let same = some-same _ _ (specs-known (begins g eight stand) refl c.args.unit blocks s on c.args.soup p by _ c.in-Some.ensures) in
    c.has_paths.ensures ∙ ap (has_paths c.args.paths.now) same

pub returns-in-None : goal.returns-in-None
returns-in-None g c outside eight stand blocks s p on by =
    absurd (none-some p.specs (specs-known (begins g eight stand) refl c.args.unit blocks s on c.args.soup p by _ c.in-None.ensures))
