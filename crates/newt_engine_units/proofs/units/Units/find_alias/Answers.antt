-- The unit that shows the store's signature has its card.
use Rattle.std.proofs.Common.{◌≡◌, ap, sym, ◌∙◌, subst, true}
use Rattle.std.specs.Prelude.{IfOk}
use Rattle.newt_entries_alias.specs.Alias.{alias_said}
use Rattle.newt_laws_answers.specs.Faces.{first_showing}
use Rattle.newt_laws_answers.proofs.Units.{is-mounted}
use Rattle.newt_spec_world.specs.Answer.{or_nil}
use Rattle.newt_spec_world.specs.Reply.{Reply}
use Rattle.newt_engine_units.specs.Spots.{spot_reply}
use Rattle.newt_engine_units.specs.Stands.{world_of}
use Rattle.newt_engine_units.proofs.Known.{card-known}
use Rattle.newt_engine_units.proofs.Resolving.{showing-card, resolved-none, resolved-there}
use Rattle.newt_engine_units.proofs.Settings.{Setting}
use Rattle.newt_engine_units.proofs.Shown.{faces-known}
use Rattle.newt_engine_units.proofs.units.Units.find_alias.Goals as goal

pub returns-in-Some : goal.returns-in-Some
returns-in-Some g c outside eight stand =
    let at : Setting g.C.Card.reads g.C.Card.place g.C.Card.soups g.C.Card.stands true c.args.self.now outside = record {
      laws = record { formed = g.met.C.Card.formed; plain = g.met.C.Card.plain; durable = g.met.C.Card.durable; banks = g.met.C.Card.banks; kept = g.met.C.Card.kept };
      eight = eight;
      stand = stand;
    } in
    let w = world_of g.C.Card.reads c.args.self.now outside in
    let shown = ap (first_showing c.args.alias.store) (faces-known at.laws c.args.self.now outside eight stand) ∙ sym c.in-Some.ensures in
    let k = showing-card g.C.Card.soups c.args.self.now.slots.items c.args.alias.store c.in-Some.unit (sym c.in-Some.ensures) in
    let p = card-known at.laws c.args.self.now outside eight stand c.in-Some.unit k.0 k.1 in
    let is = resolved-there w (alias_said c.args.alias) c.in-Some.unit p.store shown (is-mounted w c.in-Some.unit _ p.store p.on) in
    subst (λ r. IfOk c.find_there.result (λ found. or_nil (λ x. Reply.where_is x.0 x.1 x.2) found ≡ spot_reply r)) (sym is) (c.find_there.ensures outside eight stand _ p.store p.on)

pub returns-in-None : goal.returns-in-None
returns-in-None g c outside eight stand =
    let at : Setting g.C.Card.reads g.C.Card.place g.C.Card.soups g.C.Card.stands true c.args.self.now outside = record {
      laws = record { formed = g.met.C.Card.formed; plain = g.met.C.Card.plain; durable = g.met.C.Card.durable; banks = g.met.C.Card.banks; kept = g.met.C.Card.kept };
      eight = eight;
      stand = stand;
    } in
    let w = world_of g.C.Card.reads c.args.self.now outside in
    let shown = ap (first_showing c.args.alias.store) (faces-known at.laws c.args.self.now outside eight stand) ∙ sym c.in-None.ensures in
    ap spot_reply (sym (resolved-none w (alias_said c.args.alias) shown))
