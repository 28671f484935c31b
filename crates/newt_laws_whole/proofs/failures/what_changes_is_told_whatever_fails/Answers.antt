use Rattle.newt_laws_whole.proofs.Unchanged.{failed-may, run-keeps, step-keeps}
use Rattle.newt_laws_whole.proofs.failures.what_changes_is_told_whatever_fails.Goals as goal

pub returns-clause-step : goal.returns-clause-step
returns-clause-step c = step-keeps

pub returns-clause-failed : goal.returns-clause-failed
returns-clause-failed c = failed-may

pub returns-clause-run : goal.returns-clause-run
returns-clause-run c = run-keeps
