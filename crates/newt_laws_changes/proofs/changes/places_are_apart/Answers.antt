use Rattle.newt_laws_changes.proofs.Places.{places_apart}
use Rattle.newt_laws_changes.proofs.changes.places_are_apart.Goals as goal

pub returns : goal.returns
returns c = places_apart
