-- One unit more, or the first that shows the signature.
use Rattle.std.proofs.Common.{sym, ◌∙◌}
use Rattle.newt_laws_answers.specs.Faces.{shows}
use Rattle.newt_engine_units.specs.Faces.{card_face}
use Rattle.newt_engine_units.specs.Stands.{card_at}
use Rattle.newt_engine_units.proofs.Shown.{position-here, position-past}
use Rattle.newt_engine_units.proofs.units.Units.unit_of.Goals as goal

pub returns-then-shows : goal.returns-then-shows
returns-then-shows g c = sym (c.loop-number.invariant
    ∙ position-here (shows c.args.store) (λ u. card_face g.C.Card.soups (card_at c.args.self.now.slots.items u)) c.loop-number.number c.loop-number-test.true (sym c.shows.ensures ∙ c.if-shows.true))

pub loop-number-preserved : goal.loop-number-preserved
loop-number-preserved g c = c.loop-number.invariant
    ∙ position-past (shows c.args.store) (λ u. card_face g.C.Card.soups (card_at c.args.self.now.slots.items u)) c.loop-number.number c.loop-number-test.true (sym c.shows.ensures ∙ c.if-shows.false)
