-- The lines are those of the units so far.
use Rattle.std.proofs.Common.{◌≡◌, ◌++◌, drop, map}
use Rattle.newt_laws_answers.specs.Faces.{face_rows}
use Rattle.newt_reply.specs.Said.{store_row}
use Rattle.newt_engine_units.specs.Faces.{card_faces}
use Rattle.newt_engine_units.proofs.units.Units.store_lines.Given as goal

abbrev pub invariant-loop-number : goal.invariant-loop-number
invariant-loop-number g l = map store_row l.lines.items ++ face_rows l.number (drop l.number (card_faces g.C.Card.soups l.self.slots.items)) ≡ face_rows 0 (card_faces g.C.Card.soups l.self.slots.items)
