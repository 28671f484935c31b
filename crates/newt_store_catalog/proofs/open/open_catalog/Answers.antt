use Rattle.std.proofs.Common.{◌≡◌, ℕ, List, Some, Result, ◌∙◌, subst}
use Rattle.newt_host.specs.Moments.{image}
use Rattle.newt_host.proofs.Outside.{NoFault-append}
use Rattle.newt_pagebook.specs.declared.book.BookFault.{BookFault}
use Rattle.newt_spec_store.specs.Store.{Store}
use Rattle.newt_soupdir.specs.Bare.{bare_store}
use Rattle.newt_objects_commit.specs.Places.{place_of}
use Rattle.newt_store_catalog.specs.Gathering.{HasGathered}
use Rattle.newt_store_catalog.specs.Opening.{OfObjects}
use Rattle.newt_store_catalog.specs.declared.catalog.Catalog.{Catalog}
use Rattle.newt_store_catalog.specs.Readable.{readable}
use Rattle.newt_store_catalog.specs.Stands.{StandsFor, IsSound}
use Rattle.newt_store_catalog.proofs.Exits.{Fails, no-value, looks-on, search-value, search-fails, search-after}
use Rattle.newt_store_catalog.proofs.Opening.{no-pages, same-image}
use Rattle.newt_store_catalog.proofs.open.open_catalog.Goals as goal

pub returns-in_err-book : goal.returns-in_err-book
returns-in_err-book g c =
    let e = c.open.ensures in
    let first = g.H.Host.outside c.args.host.now in
    let last = g.H.Host.outside c.open.new.host in
    let now : List ℕ = image c.args.unit first.now in
    let fault : BookFault = c.in_err-book.field-0.0 in
    let r : Result (g.row.P.Denot × Catalog × g.row.G.Denot) BookFault = c.from_residual.result in
    let fails : Fails r fault = c.from_residual.ensures.1 in
    record {
      stands = no-value r fault _ fails;
      place_is = no-value r fault _ fails;
      sound = no-value r fault _ fails;
      found = λ tells. no-value r fault _ fails;
      gathered = no-value r fault _ fails;
      looks = e.reads;
      ends = search-fails r fault fails (record {
        not_store = λ is tells. no-pages now (c.in_err-book.ensures.not_store is tells);
        cause = c.in_err-book.ensures.cause;
        no_fault = c.in_err-book.ensures.no_fault;
      });
    }

pub returns-in_err-catalog : goal.returns-in_err-catalog
returns-in_err-catalog g c =
    let e = c.find_catalog.ensures in
    let unit : ℕ = c.args.unit in
    let v : ℕ = g.P.PageBook.place c.in_ok-book.book in
    let first = g.H.Host.outside c.args.host.now in
    let mid = g.H.Host.outside c.open.new.host in
    let last = g.H.Host.outside c.find_catalog.new.host in
    let now : List ℕ = image unit first.now in
    let b = c.in_ok-book.ensures in
    let fault : BookFault = c.in_err-catalog.field-0.0 in
    let r : Result (g.row.P.Denot × Catalog × g.row.G.Denot) BookFault = c.from_residual-in_err-catalog.result in
    let fails : Fails r fault = c.from_residual-in_err-catalog.ensures.1 in
    record {
      stands = no-value r fault _ fails;
      place_is = no-value r fault _ fails;
      sound = no-value r fault _ fails;
      found = λ tells. no-value r fault _ fails;
      gathered = no-value r fault _ fails;
      looks = looks-on b.place_is b.reads e.reads.looks;
      ends = search-after b.place_is b.reads (b.no_fault tt) (search-fails r fault fails c.in_err-catalog.ensures.ends);
    }

pub returns : goal.returns
returns g c =
    let e = c.find_catalog.ensures in
    let unit : ℕ = c.args.unit in
    let v : ℕ = g.P.PageBook.place c.in_ok-book.book in
    let first = g.H.Host.outside c.args.host.now in
    let mid = g.H.Host.outside c.open.new.host in
    let last = g.H.Host.outside c.find_catalog.new.host in
    let b = c.in_ok-book.ensures in
    let place = e.reads.same_place ∙ b.place_is in
    let catalog : Catalog = c.in_ok-catalog.catalog in
    record {
      stands = e.reads.stood;
      place_is = place;
      sound = subst (λ (u : ℕ). IsSound g.H.Host.told catalog (g.P.PageBook.numbers c.find_catalog.new.book) u last) place c.in_ok-catalog.ensures.sound;
      found = λ tells. subst (λ (now : List ℕ). (s : Store) × (readable now ≡ Some s) × StandsFor catalog s now) (same-image unit v first.now mid.now b.place_is b.reads.moment) (c.in_ok-catalog.ensures.found tells);
      gathered = subst (λ (now : List ℕ). OfObjects g.H.Host.told now (HasGathered g.G.Gatherer.gathers (bare_store catalog.directory) (place_of catalog.places) c.in_ok-catalog.gatherer))
          (same-image unit v first.now mid.now b.place_is b.reads.moment) c.in_ok-catalog.ensures.gathered;
      looks = looks-on b.place_is b.reads e.reads.looks;
      ends = search-value (NoFault-append (b.no_fault tt) (c.in_ok-catalog.ensures.ends.no_fault tt));
    }
