use Rattle.newt_store_backup.proofs.Again.{is-again, one-again}
use Rattle.newt_store_backup.proofs.laws.backups_are_restored.Goals as goal

pub returns-clause-made : goal.returns-clause-made
returns-clause-made c = is-again

pub returns-clause-no_other : goal.returns-clause-no_other
returns-clause-no_other c = one-again
