use Rattle.newt_laws_whole.proofs.RunWatched.{run-watch, step-taken}
use Rattle.newt_laws_whole.proofs.failures.watches_get_the_notes_of_steps.Goals as goal

pub returns-clause-run : goal.returns-clause-run
returns-clause-run c = run-watch

pub returns-clause-taken : goal.returns-clause-taken
returns-clause-taken c = step-taken
