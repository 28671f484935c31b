-- the declaration stays
use Rattle.std.proofs.Common.{◌≡◌, Some}
use Rattle.newt_spec_store.specs.declared.Order.TheVariants as order
use Rattle.newt_test_keys.specs.Trials.{integers}
use Rattle.newt_test_keys.proofs.sorted.takes_actions.Given as goal

abbrev pub invariant-loop-step : goal.invariant-loop-step
invariant-loop-step l = l.index.spec ≡ Some (integers order.Ascend)
