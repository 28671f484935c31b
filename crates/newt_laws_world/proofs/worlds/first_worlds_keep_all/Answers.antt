use Rattle.newt_laws_world.proofs.Runs.{first-settled, first-valid, first-unmounted}
use Rattle.newt_laws_world.proofs.worlds.first_worlds_keep_all.Goals as goal

pub returns-clause-valid : goal.returns-clause-valid
returns-clause-valid c = first-valid

pub returns-clause-settled : goal.returns-clause-settled
returns-clause-settled c = λ store_of_image held names. first-settled _

pub returns-clause-apart : goal.returns-clause-apart
returns-clause-apart c = first-unmounted
