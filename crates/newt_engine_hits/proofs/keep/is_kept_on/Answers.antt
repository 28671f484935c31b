-- Without tags the range decides; else the mask of the entry, and that it is there.
use Rattle.std.proofs.Common.{◌∙◌, refl}
use Rattle.newt_cursor.specs.Seen.{query_of}
use Rattle.newt_engine_units.proofs.Known.{Laws}
use Rattle.newt_index.specs.Spots.{spot_hit}
use Rattle.newt_engine_hits.proofs.Cards.{card-bare, bare-has}
use Rattle.newt_engine_hits.proofs.Keeping.{masked-kept, no-mask, untagged-kept}
use Rattle.newt_engine_hits.proofs.keep.is_kept_on.Goals as goal

pub returns-in_default : goal.returns-in_default
returns-in_default g c outside s stands is there =
    let laws : Laws g.C.Card.reads g.C.Card.place g.C.Card.soups g.C.Card.stands = record { formed = g.met.C.Card.formed; plain = g.met.C.Card.plain; durable = g.met.C.Card.durable; banks = g.met.C.Card.banks; kept = g.met.C.Card.kept } in
    untagged-kept (query_of c.args.query.now) s (spot_hit c.args.spot.now) c.is_kept_unread.result
    (c.in_default.ensures ∙ bare-has (λ p. p.tags) (λ p. refl) c.args.spot.now.soup s _ (card-bare laws c.args.card.now outside s stands is)) there
    (λ g. c.is_kept_unread.ensures g refl)

pub returns-in-Some-mask : goal.returns-in-Some-mask
returns-in-Some-mask g c outside s stands is there =
    let laws : Laws g.C.Card.reads g.C.Card.place g.C.Card.soups g.C.Card.stands = record { formed = g.met.C.Card.formed; plain = g.met.C.Card.plain; durable = g.met.C.Card.durable; banks = g.met.C.Card.banks; kept = g.met.C.Card.kept } in
    masked-kept (query_of c.args.query.now) s (spot_hit c.args.spot.now) c.in-Some-mask.mask _ _
    (c.in-Some.ensures ∙ bare-has (λ p. p.tags) (λ p. refl) c.args.spot.now.soup s _ (card-bare laws c.args.card.now outside s stands is))
    (c.in-Some-mask.ensures outside s stands is) c.is_kept_unread-in-Some-mask.ensures

pub returns-in-None : goal.returns-in-None
returns-in-None g c outside s stands is there = no-mask (query_of c.args.query.now) s (spot_hit c.args.spot.now) (c.in-None.ensures outside s stands is)
