use Rattle.newt_objects_commit.specs.Names.{names_of}
use Rattle.newt_objects_commit.specs.Places.{place_of}
use Rattle.newt_store.proofs.Counting.{uids-listed}
use Rattle.newt_store.proofs.store.Store.uids.Goals as goal

pub returns : goal.returns
returns g c = λ now s stands.
    let cat = c.args.self.now.catalog in
    uids-listed cat.directory (place_of cat.places) (names_of cat.names) stands.texts s stands.describes c.args.soup _ c.in_ok-uids.ensures.rising c.in_ok-uids.ensures.there
