-- The stores of the units so far are counted.
use Rattle.std.proofs.Common.{◌≡◌, ◌+◌, ◌≤◌, drop}
use Rattle.newt_laws_answers.specs.Faces.{shown_count}
use Rattle.newt_engine_units.specs.Faces.{card_faces}
use Rattle.newt_engine_units.proofs.units.Units.count.Given as goal

abbrev pub invariant-loop-number : goal.invariant-loop-number
invariant-loop-number g l = record {
  so_far : l.count + shown_count (drop l.number (card_faces g.C.Card.soups l.self.slots.items)) ≡ shown_count (card_faces g.C.Card.soups l.self.slots.items);
  few : l.count ≤ l.number;
}
