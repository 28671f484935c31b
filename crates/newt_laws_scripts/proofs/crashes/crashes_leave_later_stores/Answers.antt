use Rattle.newt_laws_scripts.proofs.Outliving.{counted-left, left-later, made-later, run-left, summed-left}
use Rattle.newt_laws_scripts.proofs.crashes.crashes_leave_later_stores.Goals as goal

pub returns-clause-run : goal.returns-clause-run
returns-clause-run c = run-left

pub returns-clause-counted : goal.returns-clause-counted
returns-clause-counted c = counted-left

pub returns-clause-rows : goal.returns-clause-rows
returns-clause-rows c = left-later

pub returns-clause-summed : goal.returns-clause-summed
returns-clause-summed c = summed-left

pub returns-clause-made : goal.returns-clause-made
returns-clause-made c = made-later
