use Rattle.newt_host.specs.Moments.{image}
use Rattle.std.proofs.Common.{ℕ, List, refl}
use Rattle.newt_store_indexed.proofs.Turns.{ranges-for}
use Rattle.newt_store_indexed.proofs.store.IndexedStoreCard.mask.Goals as goal

pub returns : goal.returns
returns g c = λ outside s on reads.
    let now : List ℕ = image (g.P.PageBook.place c.args.self.now.store.book) outside.now in
    c.mask.ensures.stands s (ranges-for c.args.self.now.store.catalog c.args.self.now.ranges s now (on.plain refl) reads)
