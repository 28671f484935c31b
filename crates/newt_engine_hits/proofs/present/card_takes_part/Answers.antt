-- The three tests are those of the definition.
use Rattle.std.proofs.Common.{◌∙◌, ap, sym, ◌&&◌}
use Rattle.std.specs.Prelude.{is_some}
use Rattle.newt_base.specs.Names.{equal_text}
use Rattle.newt_spec_store.specs.Store.{Store}
use Rattle.newt_index_ranges.specs.Range.{range_in}
use Rattle.newt_engine_units.proofs.Known.{Laws}
use Rattle.newt_engine_hits.proofs.Cards.{card-bare, carried, name-known, no-name, some-map}
use Rattle.newt_engine_hits.proofs.present.card_takes_part.Goals as goal

pub returns-in_default : goal.returns-in_default
returns-in_default g c outside s p stands is at =
    let laws : Laws g.C.Card.reads g.C.Card.place g.C.Card.soups g.C.Card.stands = record { formed = g.met.C.Card.formed; plain = g.met.C.Card.plain; durable = g.met.C.Card.durable; banks = g.met.C.Card.banks; kept = g.met.C.Card.kept } in
    absurd (no-name c.args.soup s _ p (card-bare laws c.args.card.now outside s stands is) at c.in_default.ensures)

pub returns : goal.returns
returns g c outside s p stands is at =
    let laws : Laws g.C.Card.reads g.C.Card.place g.C.Card.soups g.C.Card.stands = record { formed = g.met.C.Card.formed; plain = g.met.C.Card.plain; durable = g.met.C.Card.durable; banks = g.met.C.Card.banks; kept = g.met.C.Card.kept } in
    let known = card-bare laws c.args.card.now outside s stands is in
    let scoped = c.in_scope-scoped.ensures s (ap (λ (t : Store). t.sig) known ∙ sym c.sig.ensures) in
    let named = c.is_text-named.ensures ∙ (λ i. equal_text ((c.list.ensures.bytes ∙ name-known c.args.soup s _ p c.in-Some.name.now known at c.in-Some.ensures) i) (c.list-2.ensures.bytes i)) in
    let has = c.is_some-carried.ensures ∙ some-map _ c.range.result ∙ ap is_some (c.range.ensures.stands outside s stands is ∙ ap (λ i. range_in c.args.soup i s) c.index_of.ensures)
    ∙ carried c.args.soup c.args.query.now.spec.index s p at in
    c.all_three.ensures ∙ (λ i. scoped i && (named i && has i))
