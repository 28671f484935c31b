-- One unit more.
use Rattle.std.proofs.Common.{arith, sym, ◌∙◌, true, false}
use Rattle.newt_engine_units.proofs.Shown.{count-step}
use Rattle.newt_engine_units.proofs.units.Units.count.Goals.{then-is_mounted, else-is_mounted}
use Rattle.newt_engine_units.proofs.units.Units.count.Goals as goal

pub loop-number-preserved : goal.loop-number-preserved
loop-number-preserved g c = elim c.if-is_mounted.branch [
  | then-is_mounted w ↦ record {
    so_far = omega (arith, w.count-is, c.loop-number.invariant.so_far, count-step g.C.Card.soups c.args.self.now.slots.items c.loop-number.number c.loop-number-test.true true (sym c.is_mounted.ensures ∙ w.if-is_mounted.true));
    few = omega (arith, w.count-is, c.loop-number.invariant.few);
  }
  | else-is_mounted w ↦ record {
    so_far = omega (arith, w.count-is, c.loop-number.invariant.so_far, count-step g.C.Card.soups c.args.self.now.slots.items c.loop-number.number c.loop-number-test.true false (sym c.is_mounted.ensures ∙ w.if-is_mounted.false));
    few = omega (arith, w.count-is, c.loop-number.invariant.few);
  }
]
