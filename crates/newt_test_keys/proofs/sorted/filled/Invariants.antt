-- the declaration stays
use Rattle.std.proofs.Common.{◌≡◌, Some}
use Rattle.newt_test_keys.specs.Trials.{integers}
use Rattle.newt_test_keys.proofs.sorted.filled.Given as goal

abbrev pub invariant-loop-uid : goal.invariant-loop-uid
invariant-loop-uid l = l.index.spec ≡ Some (integers l.fn.order)
