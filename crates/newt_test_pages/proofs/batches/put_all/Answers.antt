use Rattle.std.proofs.Common.{arith}
use Rattle.newt_test_pages.proofs.Named.{none-above, one-more}
use Rattle.newt_test_pages.proofs.batches.put_all.Goals as goal

pub put-requires-clause-new : goal.put-requires-clause-new
put-requires-clause-new c = c.loop-number.invariant.new c.loop-number.number (omega arith)

pub loop-number-preserved : goal.loop-number-preserved
loop-number-preserved c =
    let i = c.loop-number.invariant in
    let is = c.in_ok-put.ensures.ok in
    record {
      new = λ n above. none-above _ _ _ _ is n above (i.new n (omega (arith, above)));
      size = omega (arith, i.size, one-more _ _ _ _ is);
    }
