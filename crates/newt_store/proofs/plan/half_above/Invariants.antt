use Rattle.std.proofs.Common.{◌≤◌, ◌-◌}
use Rattle.newt_store.proofs.plan.half_above.Given as goal

abbrev pub invariant-loop-low : goal.invariant-loop-low
invariant-loop-low l = record {
  ordered : l.low ≤ l.high;
  few : l.high ≤ 2147483648;
}

abbrev pub decreases-loop-low : goal.decreases-loop-low
decreases-loop-low l = l.high - l.low
