use Rattle.std.proofs.Common.{arith, rules}
use Rattle.newt_entries.proofs.Steps.{rows-more, rest-is, rest-size}
use Rattle.newt_entries.proofs.read.rows_of.Goals as goal

pub loop-more-preserved : goal.loop-more-preserved
loop-more-preserved c = record {
  size = let size = rest-size 12 c.loop-more.left.now in grind (arith, size, c.loop-more.invariant.size, c.loop-more-test.true);
  rows =
      rows-more c.loop-more.rows.items c.push.new.self.items c.loop-more.more c.loop-more.left.now _ c.large_at.result _ c.loop-more-test.true c.large_at.ensures (search rules) (rest-is 12 c.loop-more.left.now)
      c.loop-more.invariant.rows;
}
