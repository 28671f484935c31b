use Rattle.newt_laws_images.proofs.OneStore.{store-same}
use Rattle.newt_laws_images.proofs.readings.images_hold_one_store.Goals as goal

pub returns : goal.returns
returns c = store-same
