-- The alias of a copy that is there is looked up.
use Rattle.std.proofs.Common.{◌≡◌, ap, subst, sym, ◌∙◌, ℕ, true, Ok}
use Rattle.newt_host.specs.Outside.{Outside}
use Rattle.newt_work.specs.Work.{Copy}
use Rattle.newt_spec_world.specs.Alias.{resolved}
use Rattle.newt_spec_world.specs.Answer.{or_nil}
use Rattle.newt_spec_world.specs.Reply as replies
use Rattle.newt_spec_whole.specs.Whole.{alias_of_copy}
use Rattle.newt_engine_units.specs.Spots.{spot_reply}
use Rattle.newt_engine_units.specs.Stands.{Stands, world_of}
use Rattle.newt_engine_units.specs.declared.units.Units.{Units}
use Rattle.newt_engine.specs.Laws.{laws_of}
use Rattle.newt_engine_whole.proofs.Living.{living-at, living-gone, living-none}
use Rattle.newt_engine_whole.specs.Copies.{FindsLiving}
use Rattle.newt_engine_whole.proofs.whole.Whole.living.Given.{Over}
use Rattle.newt_engine_whole.proofs.whole.Whole.living.Goals as goal

pub returns-in_default-clause-found : goal.returns-in_default-clause-found
returns-in_default-clause-found g c o h stands means =
    living-none (laws_of g.met.C.Card.formed g.met.C.Card.plain g.met.C.Card.durable g.met.C.Card.banks g.met.C.Card.kept) c.args.self.now o stands h means c.args.number (sym c.in_default.ensures)

-- the alias that was looked up is that of the copy
found-as : (g : Over) (o : Outside) (k : Copy) (units asked : Units g.row.C.Denot) (alias : ℕ × ℕ × ℕ) → asked ≡ units → alias ≡ (k.store, k.soup, k.uid)
    → spot_reply (resolved (world_of g.C.Card.reads asked o) (record { store = alias.0; soup = alias.1; uid = alias.2 })) ≡ spot_reply (resolved (world_of g.C.Card.reads units o) (alias_of_copy k))
found-as g o k units asked alias same is =
    ap (λ (u : Units g.row.C.Denot). spot_reply (resolved (world_of g.C.Card.reads u o) (record { store = alias.0; soup = alias.1; uid = alias.2 }))) same
    ∙ ap (λ (a : ℕ × ℕ × ℕ). spot_reply (resolved (world_of g.C.Card.reads units o) (record { store = a.0; soup = a.1; uid = a.2 }))) is

pub returns-in-Some-2-clause-found : goal.returns-in-Some-2-clause-found
returns-in-Some-2-clause-found g c o h stands means =
    let x = c.in-Some-2 in
    let found = x.found in
    let k = c.in-Some.work.now in
    let units = c.args.self.now.world.units in
    let here : Stands g.C.Card.place g.C.Card.stands true c.units.result.now o = subst (λ (u : Units g.row.C.Denot). Stands g.C.Card.place g.C.Card.stands true u o) (sym c.units.ensures) stands.world.stand in
    subst (λ (a : ℕ × ℕ × ℕ). FindsLiving h c.args.number (Ok (record { unit = found.0; name = found.1; soup = a.1; uid = found.2 }))) (sym c.alias-store.ensures)
    (living-at (laws_of g.met.C.Card.formed g.met.C.Card.plain g.met.C.Card.durable g.met.C.Card.banks g.met.C.Card.kept) c.args.self.now o stands h means c.args.number k c.in-Some.ensures
    found.0 found.2 found.1 (ap (λ found. or_nil (λ y. replies.Reply.where_is y.0 y.1 y.2) found) (sym x.is) ∙ c.in_ok-found.ensures o stands.world.eight here
    ∙ found-as g o k units c.units.result.now c.alias-store.result c.units.ensures c.alias-store.ensures))

pub returns-in-None-clause-found : goal.returns-in-None-clause-found
returns-in-None-clause-found g c o h stands means =
    let k = c.in-Some.work.now in
    let units = c.args.self.now.world.units in
    let here : Stands g.C.Card.place g.C.Card.stands true c.units.result.now o = subst (λ (u : Units g.row.C.Denot). Stands g.C.Card.place g.C.Card.stands true u o) (sym c.units.ensures) stands.world.stand in
    living-gone (laws_of g.met.C.Card.formed g.met.C.Card.plain g.met.C.Card.durable g.met.C.Card.banks g.met.C.Card.kept) c.args.self.now o stands h means c.args.number k c.in-Some.ensures
    (ap (λ found. or_nil (λ y. replies.Reply.where_is y.0 y.1 y.2) found) (sym c.in-None.is) ∙ c.in_ok-found.ensures o stands.world.eight here
    ∙ found-as g o k units c.units.result.now c.alias-store.result c.units.ensures c.alias-store.ensures)
