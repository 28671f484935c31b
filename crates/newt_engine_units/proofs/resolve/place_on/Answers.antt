-- The soup and the entry are there, or one is not.
use Rattle.std.proofs.Common.{ap, sym, ◌∙◌}
use Rattle.newt_spec_graph.proofs.Lists.{some-same}
use Rattle.newt_spec_store.specs.Laid.{bare}
use Rattle.newt_spec_world.specs.Reply.{Reply}
use Rattle.newt_engine_units.proofs.Resolving.{name-known, no-soup-entry, spot-gone, spot-there}
use Rattle.newt_engine_units.proofs.resolve.place_on.Goals as goal

pub returns-then-not-has : goal.returns-then-not-has
returns-then-not-has g c outside s stands reads =
    sym (spot-gone c.args.unit c.args.soup c.args.uid s (sym (c.has.ensures outside s stands reads) ∙ c.if-not-has.true))

pub returns-in_ok-copy-in-Some : goal.returns-in_ok-copy-in-Some
returns-in_ok-copy-in-Some g c outside s stands reads =
    let p = g.met.C.Card.plain c.args.card.now outside stands in
    let known = ap bare (sym (some-same p.0 s (sym p.1 ∙ reads))) ∙ p.2 in
    let named = sym (name-known c.args.soup s (g.C.Card.soups c.args.card.now) known) ∙ sym c.in-Some.ensures in
    ap {B = Reply} (λ n. Reply.where_is c.args.unit n c.args.uid) c.in_ok-copy-in-Some.ensures ∙ sym (spot-there c.args.unit c.args.soup c.args.uid s _ named (sym (c.has.ensures outside s stands reads) ∙ c.if-not-has.false))

pub returns-in-None : goal.returns-in-None
returns-in-None g c outside s stands reads =
    let p = g.met.C.Card.plain c.args.card.now outside stands in
    let known = ap bare (sym (some-same p.0 s (sym p.1 ∙ reads))) ∙ p.2 in
    sym (spot-gone c.args.unit c.args.soup c.args.uid s (no-soup-entry c.args.soup c.args.uid s (sym (name-known c.args.soup s (g.C.Card.soups c.args.card.now) known) ∙ sym c.in-None.ensures)))
