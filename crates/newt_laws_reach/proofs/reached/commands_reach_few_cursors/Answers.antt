use Rattle.newt_laws_world.proofs.Fewer.{wf-from}
use Rattle.newt_laws_reach.proofs.Reaching.{row-reached, still-nowhere}
use Rattle.newt_laws_reach.proofs.reached.commands_reach_few_cursors.Goals as goal

pub returns-clause-reached : goal.returns-clause-reached
returns-clause-reached c = λ w k all. row-reached w k (wf-from w all)

pub returns-clause-none : goal.returns-clause-none
returns-clause-none c = still-nowhere
