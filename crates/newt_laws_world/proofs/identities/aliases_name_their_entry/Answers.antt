use Rattle.newt_laws_world.proofs.Aliases.{named-by, gone-for-good}
use Rattle.newt_laws_world.proofs.identities.aliases_name_their_entry.Goals as goal

pub returns-clause-sound : goal.returns-clause-sound
returns-clause-sound c = named-by

pub returns-clause-gone : goal.returns-clause-gone
returns-clause-gone c = gone-for-good
