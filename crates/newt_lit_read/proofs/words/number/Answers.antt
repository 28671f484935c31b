use Rattle.newt_lit_read.proofs.Numbers.{digit_more, one_more}
use Rattle.newt_lit_read.proofs.words.number.Goals as goal

pub loop-c-preserved : goal.loop-c-preserved
loop-c-preserved c = record {
  so_far = digit_more 10 c.args.digits.now c.loop-c.c-index c.loop-c.number c.digit.result c.c-item.result c.loop-c-test.true c.loop-c.invariant.so_far c.c-item.is c.digit.ensures.value;
  below = one_more c.loop-c.number c.loop-c.c-index c.digit.result c.loop-c.invariant.below c.digit.ensures.below;
}
