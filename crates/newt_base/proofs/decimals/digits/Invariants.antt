use Rattle.newt_base.proofs.Digits.{IsRead}
use Rattle.newt_base.proofs.decimals.digits.Given as goal

abbrev pub invariant-loop-digit : goal.invariant-loop-digit
invariant-loop-digit l = IsRead l.value l.text l.digit-index
