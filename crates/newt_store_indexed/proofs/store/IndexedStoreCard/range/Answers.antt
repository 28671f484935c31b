use Rattle.newt_host.specs.Moments.{image}
use Rattle.std.proofs.Common.{ℕ, List, refl}
use Rattle.newt_store_indexed.proofs.Turns.{stands-for, ranges-for}
use Rattle.newt_store_indexed.proofs.store.IndexedStoreCard.range.Goals as goal

pub returns-clause-stands : goal.returns-clause-stands
returns-clause-stands g c = λ outside s on reads.
    let now : List ℕ = image (g.P.PageBook.place c.args.self.now.store.book) outside.now in
    let one = on.plain refl in
    let catalog = c.args.self.now.store.catalog in
    c.range_of.ensures.stands s (stands-for catalog c.args.self.now.ranges s now one reads).describes.formed (ranges-for catalog c.args.self.now.ranges s now one reads)
