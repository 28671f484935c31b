use Rattle.newt_laws_steps.proofs.Fitting.{step-valid}
use Rattle.newt_laws_steps.proofs.Standing.{step-sure, step-settled, step-apart}
use Rattle.newt_laws_steps.proofs.steps.worlds_stand_after_steps.Goals as goal

pub returns-clause-sure : goal.returns-clause-sure
returns-clause-sure c = step-sure

pub returns-clause-settled : goal.returns-clause-settled
returns-clause-settled c = step-settled

pub returns-clause-apart : goal.returns-clause-apart
returns-clause-apart c = step-apart

pub returns-clause-valid : goal.returns-clause-valid
returns-clause-valid c = step-valid
