use Rattle.newt_store_catalog.proofs.Exits.{on-done}
use Rattle.newt_store_indexed.proofs.Listed.{listed-more}
use Rattle.newt_store_indexed.proofs.listing.ListingGatherer.gather.Goals as goal

pub returns : goal.returns
returns c = λ d told more has one.
    on-done c.add.result _ _ c.add.ensures (λ is. listed-more d told more c.args.self.now.ranges c.add.new.self c.args.soup c.args.uid c.args.skeleton.now is has one)
