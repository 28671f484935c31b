use Rattle.newt_laws_whole.proofs.Sound.{between-later, whole-later, whole-run-later}
use Rattle.newt_laws_whole.proofs.worlds.whole_runs_keep_ids.Goals as goal

pub returns-clause-step : goal.returns-clause-step
returns-clause-step c = whole-later

pub returns-clause-run : goal.returns-clause-run
returns-clause-run c = whole-run-later

pub returns-clause-between : goal.returns-clause-between
returns-clause-between c = between-later
