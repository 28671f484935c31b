use Rattle.newt_laws_images.proofs.Again.{read-lies}
use Rattle.newt_laws_images.proofs.Totals.{lies-total}
use Rattle.newt_laws_images.proofs.Whole.{lies-read}
use Rattle.newt_laws_images.proofs.lying.lying_stores_are_read.Goals as goal

pub returns-clause-back : goal.returns-clause-back
returns-clause-back c = lies-read

pub returns-clause-lies : goal.returns-clause-lies
returns-clause-lies c = λ graph_of version objects blocks s reads are_bytes h. read-lies graph_of version objects blocks s reads are_bytes h

pub returns-clause-total : goal.returns-clause-total
returns-clause-total c = lies-total
