use Rattle.std.proofs.Common.{arith}
use Rattle.newt_lit_read.proofs.Numbers.{digit_more, one_more_hex, few_hex_digits}
use Rattle.newt_lit_read.proofs.words.hex_number.Goals as goal

pub overflow_mul-number : goal.overflow_mul-number
overflow_mul-number c = let h = few_hex_digits c.loop-c.number c.loop-c.c-index c.loop-c.invariant.below (omega arith) in omega (arith, h)

pub overflow_add-number : goal.overflow_add-number
overflow_add-number c = let h = few_hex_digits c.loop-c.number c.loop-c.c-index c.loop-c.invariant.below (omega arith) in omega (arith, h, c.hex_digit.ensures.below)

pub loop-c-preserved : goal.loop-c-preserved
loop-c-preserved c = record {
  so_far = digit_more 16 c.args.digits.now c.loop-c.c-index c.loop-c.number c.hex_digit.result c.c-item.result c.loop-c-test.true c.loop-c.invariant.so_far c.c-item.is c.hex_digit.ensures.value;
  below = one_more_hex c.loop-c.number c.loop-c.c-index c.hex_digit.result c.loop-c.invariant.below c.hex_digit.ensures.below;
}
