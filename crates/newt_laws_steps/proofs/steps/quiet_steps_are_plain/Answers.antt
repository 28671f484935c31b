use Rattle.newt_laws_steps.proofs.Runs.{first-sure, quiet-run}
use Rattle.newt_laws_steps.proofs.Stepping.{answer-sure, quiet-plain}
use Rattle.newt_laws_steps.proofs.steps.quiet_steps_are_plain.Goals as goal

pub returns-clause-first : goal.returns-clause-first
returns-clause-first c = first-sure

pub returns-clause-step : goal.returns-clause-step
returns-clause-step c = quiet-plain

pub returns-clause-sure : goal.returns-clause-sure
returns-clause-sure c = answer-sure

pub returns-clause-replies : goal.returns-clause-replies
returns-clause-replies c = λ w items rows sure run quiet. (quiet-run w items rows sure run quiet).0

pub returns-clause-world : goal.returns-clause-world
returns-clause-world c = λ w items rows sure run quiet. (quiet-run w items rows sure run quiet).1
