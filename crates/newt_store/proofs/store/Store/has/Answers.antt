use Rattle.std.proofs.Common.{◌∙◌, ap}
use Rattle.std.specs.Option.{is_some}
use Rattle.newt_objects_commit.specs.Names.{names_of}
use Rattle.newt_objects_commit.specs.Places.{place_of}
use Rattle.newt_store.proofs.Entries.{has-entry}
use Rattle.newt_store.proofs.store.Store.has.Goals as goal

pub returns : goal.returns
returns g c = λ now s stands. c.is_some.ensures ∙ ap is_some c.get.ensures
    ∙ has-entry c.args.self.now.catalog.directory (place_of c.args.self.now.catalog.places) (names_of c.args.self.now.catalog.names) stands.texts s stands.describes c.args.soup c.args.uid
