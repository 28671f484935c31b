use Rattle.newt_backup.proofs.Kept.{backup-graph}
use Rattle.newt_backup.proofs.Short.{backup-short}
use Rattle.newt_backup.proofs.laws.backups_are_graphs.Goals as goal

pub returns-clause-graph : goal.returns-clause-graph
returns-clause-graph c = backup-graph

pub returns-clause-short : goal.returns-clause-short
returns-clause-short c = backup-short
