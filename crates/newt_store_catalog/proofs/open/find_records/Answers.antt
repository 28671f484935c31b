use Rattle.std.proofs.Common.{◌+◌, ℕ, List, Result, get_or, sym, subst, arith}
use Rattle.newt_spec_image.specs.Records.{version}
use Rattle.newt_host.specs.Moments.{image}
use Rattle.newt_host.proofs.Outside.{NoFault-refl, NoFault-append}
use Rattle.newt_objects.specs.Held.{held}
use Rattle.newt_objects.specs.Listed.{AreNexts}
use Rattle.newt_pagebook.specs.declared.book.BookFault.{BookFault}
use Rattle.newt_pagebook.specs.declared.book.BookFault.TheVariants.{Memory}
use Rattle.newt_spec_graph.specs.Lists.{Among}
use Rattle.newt_soupdir.specs.Bare.{bare_store}
use Rattle.newt_objects_commit.specs.Names.{names_of}
use Rattle.newt_objects_commit.specs.Places.{place_of}
use Rattle.newt_store_catalog.specs.declared.open.Finding.{Finding}
use Rattle.newt_store_catalog.specs.Gathering.{HasGathered}
use Rattle.newt_store_catalog.specs.Opening.{OfObjects, owner_of}
use Rattle.newt_store_catalog.specs.Calls.{IsDirectory, IsFoundTo}
use Rattle.newt_store_catalog.proofs.Gathering.{gathered-none}
use Rattle.newt_store_catalog.proofs.Opening.{kept-none, kept-there, large-not-named, same-image}
use Rattle.newt_store_catalog.proofs.Exits.{Fails, no-value, reads-none, reads-on, search-value, search-none, search-memory, search-fails, search-after}
use Rattle.newt_store_catalog.proofs.Listed.{listed-there, there-listed, listed-next, listed-end}
use Rattle.newt_store_catalog.proofs.OpeningPlaces.{sound-none, found-none, found-all}
use Rattle.newt_store_catalog.proofs.open.find_records.Goals as goal

pub loop-id-init : goal.loop-id-init
loop-id-init g c = record {
  reads = reads-none g.P.PageBook.place g.P.PageBook.numbers g.P.PageBook.stands g.H.Host.told c.args.objects.now c.args.book.now (g.H.Host.outside c.args.host.now) c.requires.can;
  no_fault = NoFault-refl (g.H.Host.outside c.args.host.now);
  found = record {
    sound = sound-none (held c.args.objects.now) (place_of c.new-places.result) (names_of c.new-names.result) (owner_of c.no_owners-owners.result) c.new-places.ensures c.new-names.ensures c.no_owners-owners.ensures;
    found = λ tells texts h. found-none texts (bare_store c.args.directory.now) (place_of c.new-places.result) (names_of c.new-names.result) c.new-places.ensures;
  };
  ahead = subst (λ (ids : List ℕ). AreNexts (held c.args.objects.now) 1 ids) (sym c.deref-id-items.ensures.value) c.in_ok-ids.ensures;
  gathered = λ tells texts h. gathered-none g.G.Gatherer.gathers (bare_store c.args.directory.now) texts (place_of c.new-places.result) c.args.gatherer.now c.new-places.ensures c.requires.begun;
}

pub find_object-requires-clause-root : goal.find_object-requires-clause-root
find_object-requires-clause-root g c =
    let i = c.loop-id.invariant in
    subst (λ (b : List ℕ). IsDirectory g.H.Host.told b c.args.directory.now) (sym (same-image _ _ _ _ i.reads.same_place i.reads.looks.moment)) c.requires.root

pub find_object-requires-clause-next : goal.find_object-requires-clause-next
find_object-requires-clause-next g c = (listed-next (held c.args.objects.now) (c.loop-id.last + 1) c.deref-id-items.result.now c.loop-id.id-index (omega arith) c.loop-id.invariant.ahead).0

pub find_object-requires-clause-found : goal.find_object-requires-clause-found
find_object-requires-clause-found g c =
    let i = c.loop-id.invariant in
    subst (λ (b : List ℕ). IsFoundTo g.H.Host.told b (held c.args.objects.now) c.args.directory.now c.loop-id.last (place_of c.loop-id.finding.places) (names_of c.loop-id.finding.names) (owner_of c.loop-id.finding.owners)) (sym (same-image _ _ _ _ i.reads.same_place i.reads.looks.moment)) i.found

pub find_object-requires-clause-gathered : goal.find_object-requires-clause-gathered
find_object-requires-clause-gathered g c =
    let i = c.loop-id.invariant in
    subst (λ (b : List ℕ). OfObjects g.H.Host.told b (HasGathered g.G.Gatherer.gathers (bare_store c.args.directory.now) (place_of c.loop-id.finding.places) c.loop-id.gatherer))
    (sym (same-image _ _ _ _ i.reads.same_place i.reads.looks.moment)) i.gathered

pub loop-id-preserved : goal.loop-id-preserved
loop-id-preserved g c =
    let i = c.loop-id.invariant in
    let e = c.in_ok-find_object.ensures in
    record {
      reads = reads-on i.reads e.searches.book;
      no_fault = NoFault-append i.no_fault (e.searches.ends.no_fault tt);
      found = subst (λ (b : List ℕ). IsFoundTo g.H.Host.told b (held c.args.objects.now) c.args.directory.now (get_or c.deref-id-items.result.now c.loop-id.id-index 0) (place_of c.find_object.new.finding.places) (names_of c.find_object.new.finding.names) (owner_of c.find_object.new.finding.owners))
          (same-image _ _ _ _ i.reads.same_place i.reads.looks.moment) e.found;
      ahead = (listed-next (held c.args.objects.now) (c.loop-id.last + 1) c.deref-id-items.result.now c.loop-id.id-index (omega arith) i.ahead).1;
      gathered = subst (λ (b : List ℕ). OfObjects g.H.Host.told b (HasGathered g.G.Gatherer.gathers (bare_store c.args.directory.now) (place_of c.find_object.new.finding.places) c.find_object.new.gatherer))
          (same-image _ _ _ _ i.reads.same_place i.reads.looks.moment) e.gathered;
    }

pub returns-then-not-are_owned : goal.returns-then-not-are_owned
returns-then-not-are_owned g c =
    let i = c.loop-id.invariant in
    record {
      found = tt;
      gathered = tt;
      searches = record {
        book = i.reads;
        ends = search-none
            (λ tells.
            let o = c.are_owned.ensures.not_owned c.if-not-are_owned.true in
            let there = listed-there (held c.args.objects.now) 1 c.in_ok-ids.ids.items c.in_ok-ids.ensures o.0 (subst (λ (ids : List ℕ). Among ids o.0) c.deref.ensures.value o.1) in
            large-not-named g.H.Host.told c.args.objects.now (g.P.PageBook.numbers c.args.book.now) (g.P.PageBook.place c.args.book.now) (g.H.Host.outside c.args.host.now) c.requires.can.kept tells
            c.loop-id.last (place_of c.loop-id.finding.places) (names_of c.loop-id.finding.names) (owner_of c.loop-id.finding.owners) (bare_store c.args.directory.now) i.found.sound i.found.found
            (listed-end (held c.args.objects.now) (c.loop-id.last + 1) c.deref-id-items.result.now c.loop-id.id-index (omega arith) i.ahead) o.0 there.0 (λ zero. omega (arith, zero, there.1)) o.2 o.3)
            i.no_fault;
      };
    }

pub returns : goal.returns
returns g c =
    let i = c.loop-id.invariant in
    record {
      found = record {
        places = i.found.sound.places;
        names_are = i.found.sound.named;
        found = λ tells texts h.
            found-all (version (image (g.P.PageBook.place c.args.book.now) (g.H.Host.outside c.args.host.now).now)) texts c.args.directory.now c.loop-id.last (held c.args.objects.now) (place_of c.loop-id.finding.places) (names_of c.loop-id.finding.names) (owner_of c.loop-id.finding.owners) (c.requires.root.root tells texts h)
            i.found.sound (i.found.found tells texts h)
            (λ q from. kept-none g.H.Host.told c.args.objects.now (g.P.PageBook.numbers c.args.book.now) (g.P.PageBook.place c.args.book.now) (g.H.Host.outside c.args.host.now) c.requires.can.kept tells texts h q
            (listed-end (held c.args.objects.now) (c.loop-id.last + 1) c.deref-id-items.result.now c.loop-id.id-index (omega arith) i.ahead q from))
            (λ id bytes at n even. c.are_owned.ensures.owned c.if-not-are_owned.false id (subst (λ (ids : List ℕ). Among ids id) (sym c.deref.ensures.value)
            (there-listed (held c.args.objects.now) 1 c.in_ok-ids.ids.items c.in_ok-ids.ensures id (omega (arith, n))
            (kept-there g.H.Host.told c.args.objects.now (g.P.PageBook.numbers c.args.book.now) (g.P.PageBook.place c.args.book.now) (g.H.Host.outside c.args.host.now) c.requires.can.kept tells texts h id bytes at))) even);
      };
      gathered = i.gathered;
      searches = record { book = i.reads; ends = search-value i.no_fault };
    }

pub returns-in_err-find_object : goal.returns-in_err-find_object
returns-in_err-find_object g c =
    let i = c.loop-id.invariant in
    let e = c.find_object.ensures in
    let fault : BookFault = c.in_err-find_object.field-0.0 in
    let r : Result Finding BookFault = c.from_residual-in_err-find_object.result in
    let fails : Fails r fault = c.from_residual-in_err-find_object.ensures.1 in
    record {
      found = no-value r fault _ fails;
      gathered = no-value r fault _ fails;
      searches = record {
        book = reads-on i.reads e.searches.book;
        ends = search-after i.reads.same_place i.reads.looks i.no_fault (search-fails r fault fails c.in_err-find_object.ensures.searches.ends);
      };
    }

pub returns-in_err-ids : goal.returns-in_err-ids
returns-in_err-ids g c =
    let r : Result Finding BookFault = c.from_residual.result in
    let fails : Fails r Memory = c.from_residual.ensures.1 in
    record {
      found = no-value r Memory _ fails;
      gathered = no-value r Memory _ fails;
      searches = record {
        book = reads-none g.P.PageBook.place g.P.PageBook.numbers g.P.PageBook.stands g.H.Host.told c.args.objects.now c.args.book.now (g.H.Host.outside c.args.host.now) c.requires.can;
        ends = search-fails {T = Unit {0}} r Memory fails (search-memory (NoFault-refl (g.H.Host.outside c.args.host.now)));
      };
    }
