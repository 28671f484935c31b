-- One unit more.
use Rattle.std.proofs.Common.{sym}
use Rattle.newt_engine_units.proofs.Shown.{line-next, line-past}
use Rattle.newt_engine_units.proofs.units.Units.store_lines.Goals as goal

pub loop-number-preserved-in_default : goal.loop-number-preserved-in_default
loop-number-preserved-in_default g c =
    line-past g.C.Card.soups c.args.self.now.slots.items c.loop-number.number c.loop-number-test.true c.loop-number.lines.items _ c.loop-number.invariant (sym c.in_default.ensures)

pub loop-number-preserved : goal.loop-number-preserved
loop-number-preserved g c =
    line-next g.C.Card.soups c.args.self.now.slots.items c.loop-number.number c.loop-number-test.true c.loop-number.lines.items _ c.in_ok-store_line.field-0 _ c.in-Some.card.now c.in_ok-push.ensures.items c.loop-number.invariant
    (sym c.in-Some.ensures) c.in_ok-store_line.ensures
