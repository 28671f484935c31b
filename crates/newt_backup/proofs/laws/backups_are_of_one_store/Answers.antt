use Rattle.newt_backup.proofs.One.{one-store}
use Rattle.newt_backup.proofs.laws.backups_are_of_one_store.Goals as goal

pub returns : goal.returns
returns c = one-store
