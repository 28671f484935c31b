-- The lines are those of the first soups.
use Rattle.std.proofs.Common.{◌≡◌, true, take, map, Some}
use Rattle.newt_host.specs.Moments.{image}
use Rattle.newt_host.specs.Outside.{Outside}
use Rattle.newt_reply.specs.Said.{soup_row}
use Rattle.newt_spec_store.specs.Store.{Store}
use Rattle.newt_engine_card.specs.Cards.{soup_rows}
use Rattle.newt_engine_units.proofs.units.Units.soup_lines.Given as goal

abbrev pub invariant-loop-at : goal.invariant-loop-at
invariant-loop-at g l = (outside : Outside) (s : Store) → g.C.Card.stands true l.card outside → g.C.Card.reads (image (g.C.Card.place l.card) outside.now) ≡ Some s
    → map soup_row l.lines.items ≡ take l.at (soup_rows s)
