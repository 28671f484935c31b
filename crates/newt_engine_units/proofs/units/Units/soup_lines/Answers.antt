-- One place more.
use Rattle.std.proofs.Common.{ap, sym, ◌∙◌, ℕ, List, map, Option, Some}
use Rattle.newt_reply.specs.Said.{soup_row}
use Rattle.newt_spec_graph.proofs.Lists.{some-same}
use Rattle.newt_spec_store.specs.Laid.{bare}
use Rattle.newt_spec_store.specs.Store.{count_in, soup_of}
use Rattle.newt_engine_units.proofs.Rows.{row-next, row-past, rows-whole}
use Rattle.newt_engine_units.proofs.units.Units.soup_lines.Goals as goal

pub loop-at-preserved-in_default : goal.loop-at-preserved-in_default
loop-at-preserved-in_default g c outside s stands reads =
    let p = g.met.C.Card.plain c.args.card.now outside stands in
    let known = ap bare (sym (some-same p.0 s (sym p.1 ∙ reads))) ∙ p.2 in
    row-past s (g.met.C.Card.formed _ s reads) (g.C.Card.soups c.args.card.now) known c.loop-at.at c.loop-at.lines.items (c.loop-at.invariant outside s stands reads) c.in_default.ensures

pub loop-at-preserved : goal.loop-at-preserved
loop-at-preserved g c outside s stands reads =
    let p = g.met.C.Card.plain c.args.card.now outside stands in
    let known = ap bare (sym (some-same p.0 s (sym p.1 ∙ reads))) ∙ p.2 in
    row-next s (g.met.C.Card.formed _ s reads) (g.C.Card.soups c.args.card.now) known c.loop-at.at c.loop-at.lines.items _ _ c.in_ok-push.ensures.items (c.loop-at.invariant outside s stands reads)
    (ap {B = Option (List ℕ × ℕ)} (λ x. Some (c.in_ok-soup_line.field-0.name, x)) c.in_ok-soup_line.ensures.sig ∙ ap {B = Option (List ℕ × ℕ)} (λ n. Some (n, c.in-Some.soup.1)) c.in_ok-soup_line.ensures.name ∙ c.in-Some.ensures)
    (c.in_ok-soup_line.ensures.count outside s stands reads ∙ ap (λ n. count_in (soup_of n s)) (sym c.in_ok-soup_line.ensures.sig))

pub returns : goal.returns
returns g c outside s stands reads =
    ap (map soup_row) c.of.ensures ∙ c.loop-at.invariant outside s stands reads ∙ rows-whole s (g.met.C.Card.formed _ s reads) c.loop-at.at c.loop-at-test.false
