use Rattle.std.proofs.Common.{sym, ◌∙◌}
use Rattle.newt_base.proofs.Digits.{read_more}
use Rattle.newt_base.proofs.decimals.digits.Goals as goal

pub loop-digit-preserved : goal.loop-digit-preserved
loop-digit-preserved c =
    rw c.from.ensures (read_more c.loop-digit.value c.args.text.now c.loop-digit.digit-index c.loop-digit-test.true c.loop-digit.invariant (sym c.is_ascii_digit.ensures.value ∙ c.if-not-is_ascii_digit.false))
