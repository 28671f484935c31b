use Rattle.newt_laws_whole.proofs.RunCopies.{run-copies, thrown-copies}
use Rattle.newt_laws_whole.proofs.failures.copies_outlive_failures.Goals as goal

pub returns-clause-run : goal.returns-clause-run
returns-clause-run c = run-copies

pub returns-clause-thrown : goal.returns-clause-thrown
returns-clause-thrown c = thrown-copies
