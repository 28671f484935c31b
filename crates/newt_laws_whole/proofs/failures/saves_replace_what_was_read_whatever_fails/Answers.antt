use Rattle.newt_laws_whole.proofs.RunCopies.{run-saves}
use Rattle.newt_laws_whole.proofs.failures.saves_replace_what_was_read_whatever_fails.Goals as goal

pub returns : goal.returns
returns c = run-saves
