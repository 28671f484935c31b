use Rattle.newt_laws_scripts.proofs.Outliving.{entries-later, given-there, ids-later, soups-later}
use Rattle.newt_laws_scripts.proofs.crashes.ids_outlive_crashes.Goals as goal

pub returns-clause-given : goal.returns-clause-given
returns-clause-given c = given-there

pub returns-clause-ids : goal.returns-clause-ids
returns-clause-ids c = ids-later

pub returns-clause-entries : goal.returns-clause-entries
returns-clause-entries c = entries-later

pub returns-clause-soups : goal.returns-clause-soups
returns-clause-soups c = soups-later
