use Rattle.std.proofs.Common.{◌+◌, drop}
use Rattle.newt_host.specs.Moments.{image}
use Rattle.newt_host.specs.Outside.{NoFault}
use Rattle.newt_objects.specs.Held.{held}
use Rattle.newt_objects.specs.Listed.{AreNexts}
use Rattle.newt_objects_commit.specs.Places.{place_of}
use Rattle.newt_soupdir.specs.Bare.{bare_store}
use Rattle.newt_store_catalog.specs.Reading.{ReadsOf}
use Rattle.newt_check.specs.Seen.{HasSeen}
use Rattle.newt_check.proofs.entries.bad_record.Given as goal

abbrev pub invariant-loop-id : goal.invariant-loop-id
invariant-loop-id g l =
    let outside = g.H.Host.outside in let place = g.P.PageBook.place in
    record {
      reads : ReadsOf place g.P.PageBook.numbers g.P.PageBook.stands g.H.Host.told l.objects l.fn.book l.book (outside l.fn.host) (outside l.host);
      no_fault : NoFault (outside l.fn.host) (outside l.host);
      seen : HasSeen g.H.Host.told (image (place l.fn.book) (outside l.fn.host).now) l.last (bare_store l.directory) (place_of l.seen.places) l.seen.counts;
      ahead : AreNexts (held l.objects) (l.last + 1) (drop l.id-index l.ids);
    }
