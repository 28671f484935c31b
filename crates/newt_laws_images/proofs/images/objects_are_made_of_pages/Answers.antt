use Rattle.newt_laws_images.proofs.Gathering.{objects-sound, objects-complete}
use Rattle.newt_laws_images.proofs.images.objects_are_made_of_pages.Goals as goal

pub returns-clause-sound : goal.returns-clause-sound
returns-clause-sound c = objects-sound

pub returns-clause-complete : goal.returns-clause-complete
returns-clause-complete c = objects-complete
