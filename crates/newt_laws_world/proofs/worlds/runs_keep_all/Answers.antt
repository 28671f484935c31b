use Rattle.newt_laws_world.proofs.Runs.{run-valid, run-settled, run-apart}
use Rattle.newt_laws_world.proofs.worlds.runs_keep_all.Goals as goal

pub returns-clause-valid : goal.returns-clause-valid
returns-clause-valid c = run-valid

pub returns-clause-settled : goal.returns-clause-settled
returns-clause-settled c = run-settled

pub returns-clause-apart : goal.returns-clause-apart
returns-clause-apart c = run-apart
