use Rattle.newt_laws_world.proofs.Gone.{removed-gone, dropped-gone}
use Rattle.newt_laws_world.proofs.identities.removed_is_gone.Goals as goal

pub returns-clause-entry : goal.returns-clause-entry
returns-clause-entry c = removed-gone

pub returns-clause-soup : goal.returns-clause-soup
returns-clause-soup c = dropped-gone
