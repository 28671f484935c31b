use Rattle.std.proofs.Common.{◌+◌, drop}
use Rattle.newt_host.specs.Moments.{image}
use Rattle.newt_host.specs.Outside.{NoFault}
use Rattle.newt_objects.specs.Held.{held}
use Rattle.newt_objects.specs.Listed.{AreNexts}
use Rattle.newt_soupdir.specs.Bare.{bare_store}
use Rattle.newt_objects_commit.specs.Names.{names_of}
use Rattle.newt_objects_commit.specs.Places.{place_of}
use Rattle.newt_store_catalog.specs.Gathering.{HasGathered}
use Rattle.newt_store_catalog.specs.Opening.{OfObjects, owner_of}
use Rattle.newt_store_catalog.specs.Calls.{IsFoundTo}
use Rattle.newt_store_catalog.specs.Reading.{ReadsOf}
use Rattle.newt_store_catalog.proofs.open.find_records.Given as goal

abbrev pub invariant-loop-id : goal.invariant-loop-id
invariant-loop-id g l =
    let outside = g.H.Host.outside in let place = g.P.PageBook.place in
    record {
      reads : ReadsOf place g.P.PageBook.numbers g.P.PageBook.stands g.H.Host.told l.objects l.fn.book l.book (outside l.fn.host) (outside l.host);
      no_fault : NoFault (outside l.fn.host) (outside l.host);
      found : IsFoundTo g.H.Host.told (image (place l.fn.book) (outside l.fn.host).now) (held l.objects) l.directory l.last (place_of l.finding.places) (names_of l.finding.names) (owner_of l.finding.owners);
      ahead : AreNexts (held l.objects) (l.last + 1) (drop l.id-index l.id-items);
      gathered : OfObjects g.H.Host.told (image (place l.fn.book) (outside l.fn.host).now) (HasGathered g.G.Gatherer.gathers (bare_store l.directory) (place_of l.finding.places) l.gatherer);
    }
