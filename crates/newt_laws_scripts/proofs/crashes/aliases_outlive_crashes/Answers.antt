use Rattle.newt_laws_scripts.proofs.Outliving.{resolves-later, resolves-nowhere}
use Rattle.newt_laws_scripts.proofs.crashes.aliases_outlive_crashes.Goals as goal

pub returns-clause-gone : goal.returns-clause-gone
returns-clause-gone c = resolves-nowhere

pub returns-clause-there : goal.returns-clause-there
returns-clause-there c = resolves-later
