-- One unit more, or the first with a card.
use Rattle.std.proofs.Common.{sym, ◌∙◌}
use Rattle.std.specs.Prelude.{is_some}
use Rattle.newt_engine_units.specs.Faces.{card_face}
use Rattle.newt_engine_units.specs.Stands.{card_at}
use Rattle.newt_engine_units.proofs.Shown.{face-some, position-here, position-past}
use Rattle.newt_engine_units.proofs.units.Units.first_mounted.Goals as goal

pub returns-then-is_mounted : goal.returns-then-is_mounted
returns-then-is_mounted g c = sym (c.loop-number.invariant
    ∙ position-here is_some (λ u. card_face g.C.Card.soups (card_at c.args.self.now.slots.items u)) c.loop-number.number c.loop-number-test.true
    (face-some g.C.Card.soups (card_at c.args.self.now.slots.items c.loop-number.number) ∙ sym c.is_mounted.ensures ∙ c.if-is_mounted.true))

pub loop-number-preserved : goal.loop-number-preserved
loop-number-preserved g c = c.loop-number.invariant
    ∙ position-past is_some (λ u. card_face g.C.Card.soups (card_at c.args.self.now.slots.items u)) c.loop-number.number c.loop-number-test.true
    (face-some g.C.Card.soups (card_at c.args.self.now.slots.items c.loop-number.number) ∙ sym c.is_mounted.ensures ∙ c.if-is_mounted.false)
