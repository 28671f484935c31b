use Rattle.newt_laws_steps.proofs.Runs.{first-sure}
use Rattle.newt_laws_whole.proofs.Stepping.{quiet-whole, whole-sure, quiet-whole-run}
use Rattle.newt_laws_whole.proofs.steps.quiet_whole_steps_are_plain.Goals as goal

pub returns-clause-first : goal.returns-clause-first
returns-clause-first c = first-sure

pub returns-clause-step : goal.returns-clause-step
returns-clause-step c = quiet-whole

pub returns-clause-sure : goal.returns-clause-sure
returns-clause-sure c = whole-sure

pub returns-clause-replies : goal.returns-clause-replies
returns-clause-replies c h items rows sure run quiet = (quiet-whole-run h items rows sure run quiet).0

pub returns-clause-world : goal.returns-clause-world
returns-clause-world c h items rows sure run quiet = (quiet-whole-run h items rows sure run quiet).1
