use Rattle.newt_laws_steps.proofs.Runs.{run-later, entries-later, soups-later}
use Rattle.newt_laws_steps.proofs.Stepping.{step-later}
use Rattle.newt_laws_steps.proofs.steps.ids_stay_given.Goals as goal

pub returns-clause-step : goal.returns-clause-step
returns-clause-step c = step-later

pub returns-clause-run : goal.returns-clause-run
returns-clause-run c = run-later

pub returns-clause-entries : goal.returns-clause-entries
returns-clause-entries c = entries-later

pub returns-clause-soups : goal.returns-clause-soups
returns-clause-soups c = soups-later
