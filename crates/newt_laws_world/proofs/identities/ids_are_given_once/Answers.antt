use Rattle.newt_laws_world.proofs.Later.{run-later, entry-gone, soup-gone}
use Rattle.newt_laws_world.proofs.identities.ids_are_given_once.Goals as goal

pub returns-clause-later : goal.returns-clause-later
returns-clause-later c = run-later

pub returns-clause-entries : goal.returns-clause-entries
returns-clause-entries c = λ s t sig uid. entry-gone sig uid s t

pub returns-clause-soups : goal.returns-clause-soups
returns-clause-soups c = λ s t sig. soup-gone sig s t
