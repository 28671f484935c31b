use Rattle.newt_laws_whole.proofs.Untold.{untold-kept}
use Rattle.newt_laws_whole.proofs.watches.what_changes_is_told.Goals as goal

pub returns : goal.returns
returns c = untold-kept
