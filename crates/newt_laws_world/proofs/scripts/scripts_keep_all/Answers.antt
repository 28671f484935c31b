use Rattle.newt_laws_world.proofs.ScriptRuns.{script-valid, script-settled, script-apart}
use Rattle.newt_laws_world.proofs.scripts.scripts_keep_all.Goals as goal

pub returns-clause-valid : goal.returns-clause-valid
returns-clause-valid c = script-valid

pub returns-clause-settled : goal.returns-clause-settled
returns-clause-settled c = script-settled

pub returns-clause-apart : goal.returns-clause-apart
returns-clause-apart c = script-apart
