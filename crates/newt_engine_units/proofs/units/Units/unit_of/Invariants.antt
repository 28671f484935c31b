-- None of the units so far shows the signature.
use Rattle.std.proofs.Common.{◌≡◌, drop}
use Rattle.std.specs.List.{position_from}
use Rattle.newt_laws_answers.specs.Faces.{first_showing, shows}
use Rattle.newt_engine_units.specs.Faces.{card_faces}
use Rattle.newt_engine_units.proofs.units.Units.unit_of.Given as goal

abbrev pub invariant-loop-number : goal.invariant-loop-number
invariant-loop-number g l = first_showing l.store (card_faces g.C.Card.soups l.self.slots.items) ≡ position_from (shows l.store) l.number (drop l.number (card_faces g.C.Card.soups l.self.slots.items))
