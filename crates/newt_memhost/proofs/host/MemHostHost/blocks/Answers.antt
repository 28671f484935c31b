use Rattle.std.proofs.Common.{◌≡◌, ℕ, ◌/◌, ◌<◌, ◌≤◌, Some, length, slice_get, sym, ◌∙◌, ap, arith}
use Rattle.std.proofs.lemmas.Option.{slice_get-get_or, slice_get_past}
use borrow.Author.Tests.{ltb-true, ltb-false}
use Rattle.newt_memhost.specs.Cards.{blocks_of}
use Rattle.newt_memhost.proofs.host.MemHostHost.blocks.Goals as goal

pub overflow_cast-result : goal.overflow_cast-result
overflow_cast-result c = omega (arith, c.in-Some.card.now.few, c.len.ensures, c.in-Some.card.now.first.ok.0)

pub returns-in-Some : goal.returns-in-Some
returns-in-Some c =
    let cards = c.args.self.now.cards in
    let card = c.in-Some.card.now in
    let lookup = c.in-Some.ensures.lookup in
    let low : c.unit.inside.0 < length cards = ltb-true _ _ (sym lookup.0) in
    let size : c.len.result ≡ length card.first.items = omega (arith, c.len.ensures, card.first.ok.0) in
    ap (λ (n : ℕ). n / 4096) size ∙ ap blocks_of (ap Some lookup.1 ∙ sym (slice_get-get_or cards c.unit.inside.0 card low) ∙ ap (λ (k : ℕ). slice_get cards k) c.unit.view_is)

pub returns-in-None : goal.returns-in-None
returns-in-None c =
    let cards = c.args.self.now.cards in
    let past : length cards ≤ c.unit.inside.0 = ltb-false _ _ (sym c.in-None.ensures.lookup.0) in
    sym (ap blocks_of (ap (λ (k : ℕ). slice_get cards k) (sym c.unit.view_is) ∙ slice_get_past cards c.unit.inside.0 past))
