use Rattle.newt_laws_world.proofs.Found.{hit-found, found-hit}
use Rattle.newt_laws_world.proofs.queries.hits_are_found.Goals as goal

pub returns-clause-sound : goal.returns-clause-sound
returns-clause-sound c = hit-found

pub returns-clause-complete : goal.returns-clause-complete
returns-clause-complete c = found-hit
