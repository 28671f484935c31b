use Rattle.newt_laws_steps.proofs.Runs.{step-there}
use Rattle.newt_laws_steps.proofs.steps.steps_are_there.Goals as goal

pub returns : goal.returns
returns c = step-there
