use Rattle.newt_memhost.specs.Outside.{outside_of}
use Rattle.newt_test_scripts.specs.Free.{IsFree}
use Rattle.newt_test_scripts.proofs.thrown.failing_host.Given as goal

abbrev pub invariant-loop-call : goal.invariant-loop-call
invariant-loop-call l = IsFree (outside_of l.host)
