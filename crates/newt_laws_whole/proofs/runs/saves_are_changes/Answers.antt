use Rattle.newt_laws_whole.proofs.Saving.{save-changes}
use Rattle.newt_laws_whole.proofs.runs.saves_are_changes.Goals as goal

pub returns : goal.returns
returns c = save-changes
