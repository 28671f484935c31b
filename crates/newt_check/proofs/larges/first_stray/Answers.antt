use Rattle.std.proofs.Common.{arith, sym, ◌∙◌, refl}
use Rattle.newt_check.specs.Seen.{is_stray_id}
use Rattle.newt_check.proofs.Loops.{find-here, find-past, find-end}
use Rattle.newt_check.proofs.larges.first_stray.Goals as goal

pub loop-id-init : goal.loop-id-init
loop-id-init c names are = refl

pub loop-id-preserved : goal.loop-id-preserved
loop-id-preserved c names are = c.loop-id.invariant names are
    ∙ find-past (is_stray_id names) c.args.ids.now c.loop-id.id-index (omega arith) (sym (c.is_stray.ensures names are) ∙ c.if-is_stray.false)

pub returns-then-is_stray : goal.returns-then-is_stray
returns-then-is_stray c names are =
    sym (c.loop-id.invariant names are ∙ find-here (is_stray_id names) c.args.ids.now c.loop-id.id-index (omega arith) (sym (c.is_stray.ensures names are) ∙ c.if-is_stray.true))

pub returns : goal.returns
returns c names are = sym (c.loop-id.invariant names are ∙ find-end (is_stray_id names) c.args.ids.now c.loop-id.id-index (omega arith))
