use Rattle.newt_laws_scripts.proofs.Outliving.{next-counted, next-later, next-left}
use Rattle.newt_laws_scripts.proofs.crashes.later_runs_go_on.Goals as goal

pub returns-clause-worlds : goal.returns-clause-worlds
returns-clause-worlds c = next-later

pub returns-clause-again : goal.returns-clause-again
returns-clause-again c = next-left

pub returns-clause-counted : goal.returns-clause-counted
returns-clause-counted c = next-counted
