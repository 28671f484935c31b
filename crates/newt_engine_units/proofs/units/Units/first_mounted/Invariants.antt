-- None of the units so far has a card.
use Rattle.std.proofs.Common.{◌≡◌, drop}
use Rattle.std.specs.Prelude.{is_some}
use Rattle.std.specs.List.{position_from}
use Rattle.newt_laws_answers.specs.Faces.{first_shown}
use Rattle.newt_engine_units.specs.Faces.{card_faces}
use Rattle.newt_engine_units.proofs.units.Units.first_mounted.Given as goal

abbrev pub invariant-loop-number : goal.invariant-loop-number
invariant-loop-number g l = first_shown (card_faces g.C.Card.soups l.self.slots.items) ≡ position_from is_some l.number (drop l.number (card_faces g.C.Card.soups l.self.slots.items))
