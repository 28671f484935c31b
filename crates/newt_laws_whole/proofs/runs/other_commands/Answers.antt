use Rattle.newt_laws_whole.proofs.Saving.{still-world}
use Rattle.newt_laws_whole.proofs.runs.other_commands.Goals as goal

pub returns : goal.returns
returns c = still-world
