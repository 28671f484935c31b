-- The key of the range and the mask decide.
use Rattle.std.proofs.Common.{◌≡◌, ◌∙◌, ap, sym, refl, true, false, Option, Some, None, cond, Bool}
use Rattle.newt_spec_store.specs.Keys.{Key}
use Rattle.newt_engine_units.proofs.Known.{Laws}
use Rattle.newt_engine_hits.proofs.Cards.{card-bare, bare-has}
use Rattle.newt_engine_hits.proofs.Ranged.{unread-key, no-key-unread, no-mask-unread}
use Rattle.newt_engine_hits.proofs.present.key_on_card.Goals as goal

pub returns-in_default-clause-found : goal.returns-in_default-clause-found
returns-in_default-clause-found g c outside s stands is carried = no-mask-unread c.args.query.now.spec c.args.soup c.args.uid s (c.in_default.ensures outside s stands is)

pub returns-in_default-key_in_range-clause-found : goal.returns-in_default-key_in_range-clause-found
returns-in_default-key_in_range-clause-found g c outside s stands is carried =
    no-key-unread c.args.query.now.spec c.args.soup c.args.uid s (c.in_default-key_in_range.ensures.found outside s stands is carried)

pub returns-in_ok-copy-clause-found : goal.returns-in_ok-copy-clause-found
returns-in_ok-copy-clause-found g c outside s stands is carried =
    let laws : Laws g.C.Card.reads g.C.Card.place g.C.Card.soups g.C.Card.stands = record { formed = g.met.C.Card.formed; plain = g.met.C.Card.plain; durable = g.met.C.Card.durable; banks = g.met.C.Card.banks; kept = g.met.C.Card.kept } in
    ap Some c.in_ok-copy.ensures
    ∙ unread-key c.args.query.now.spec c.args.soup c.args.uid s c.in-Some-key_in_range.key.now c.in-Some.mask _ _
    (c.tags.ensures ∙ bare-has (λ p. p.tags) (λ p. refl) c.args.soup s _ (card-bare laws c.args.card.now outside s stands is))
    (c.in-Some.ensures outside s stands is) (c.in-Some-key_in_range.ensures.found outside s stands is carried) c.if-is_kept_unread.ensures

pub returns-else-is_kept_unread-clause-found : goal.returns-else-is_kept_unread-clause-found
returns-else-is_kept_unread-clause-found g c outside s stands is carried =
    let laws : Laws g.C.Card.reads g.C.Card.place g.C.Card.soups g.C.Card.stands = record { formed = g.met.C.Card.formed; plain = g.met.C.Card.plain; durable = g.met.C.Card.durable; banks = g.met.C.Card.banks; kept = g.met.C.Card.kept } in
    unread-key c.args.query.now.spec c.args.soup c.args.uid s c.in-Some-key_in_range.key.now c.in-Some.mask _ _
    (c.tags.ensures ∙ bare-has (λ p. p.tags) (λ p. refl) c.args.soup s _ (card-bare laws c.args.card.now outside s stands is))
    (c.in-Some.ensures outside s stands is) (c.in-Some-key_in_range.ensures.found outside s stands is carried) c.if-is_kept_unread.ensures
