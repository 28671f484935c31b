-- The store reads the entry, and stays what it was.
use Rattle.std.proofs.Common.{ℕ, List, ap}
use Rattle.newt_host.specs.Moments.{image}
use Rattle.newt_soupdir.specs.Bare.{bare_store}
use Rattle.newt_store_catalog.specs.declared.catalog.Catalog.{Catalog}
use Rattle.newt_store_indexed.proofs.Carded.{one-after}
use Rattle.newt_store_indexed.proofs.Turns.{stands-for}
use Rattle.newt_store_indexed.proofs.store.IndexedStoreCard.entry.Goals as goal

pub returns : goal.returns
returns g c =
    let o = g.H.Host.outside in
    let place = g.P.PageBook.place in
    let a = c.args.self.now in
    let e = c.entry.ensures in
    let img : List ℕ = image (place a.store.book) (o c.args.host.now).now in
    record {
      stands = record {
        is_open = e.reads.is_open;
        plain = λ tells. one-after place g.P.PageBook.numbers g.P.PageBook.stands g.H.Host.told a.store c.entry.new.self a.ranges (o c.args.host.now).now (o c.entry.new.host).now e.reads.catalog e.reads.same_place e.reads.looks.moment
            (c.requires.plain tells);
      };
      same_place = e.reads.same_place;
      same_soups = ap (λ (catalog : Catalog). bare_store catalog.directory) e.reads.catalog;
      found = λ tells s reads. e.entry tells s (stands-for a.store.catalog a.ranges s img (c.requires.plain tells) reads);
      costs = λ tells s reads. e.costs tells s (stands-for a.store.catalog a.ranges s img (c.requires.plain tells) reads);
      pages = e.pages;
      looks = e.reads.looks;
      cause = e.ends.cause;
      no_fault = e.ends.no_fault;
    }
