-- The literal is read as an alias, and its entry is looked for.
use Rattle.std.proofs.Common.{refl, ap, sym, ◌∙◌}
use Rattle.newt_entries_alias.specs.Alias.{alias_said}
use Rattle.newt_spec_world.specs.Reply.{Reply}
use Rattle.newt_spec_world.specs.World.{World}
use Rattle.newt_laws_answers.proofs.Resolves.{resolve-bad, resolve-done}
use Rattle.newt_engine_units.specs.Stands.{world_of}
use Rattle.newt_engine_units.proofs.units.Units.resolve.Goals as goal

pub returns-in_ok-find_alias-in-Some-clause-answered : goal.returns-in_ok-find_alias-in-Some-clause-answered
returns-in_ok-find_alias-in-Some-clause-answered g c outside eight stand =
    let w = world_of g.C.Card.reads c.args.self.now outside in
    resolve-done w c.args.graph.now (alias_said c.in-Some.alias) (sym c.in-Some.ensures) refl ∙ ap {B = World × Reply} (λ r. (w, r)) (sym (c.in_ok-find_alias-in-Some.ensures outside eight stand))

pub returns-in-None-clause-answered : goal.returns-in-None-clause-answered
returns-in-None-clause-answered g c outside eight stand =
    resolve-bad (world_of g.C.Card.reads c.args.self.now outside) c.args.graph.now (sym c.in-None.ensures)
