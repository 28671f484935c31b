use Rattle.newt_laws_images.proofs.Assembled.{read-valid}
use Rattle.newt_laws_images.proofs.Gathering.{image-sound, image-complete}
use Rattle.newt_laws_images.proofs.images.stores_are_made_of_images.Goals as goal
use Rattle.std.specs.FinMap as map
use Rattle.newt_spec_image.specs.Records.{version}
use Rattle.newt_spec_store.specs.OfImage.{blocks_of}

pub returns-clause-sound : goal.returns-clause-sound
returns-clause-sound c = image-sound

pub returns-clause-complete : goal.returns-clause-complete
returns-clause-complete c = image-complete

pub returns-clause-valid : goal.returns-clause-valid
returns-clause-valid c = λ graph_of image s h. let is = image-sound graph_of image s h in read-valid graph_of (version image) (map.entries is.objects) (blocks_of image) s is.reads
