use Rattle.std.proofs.Common.{◌≡◌, ℕ, ◌<◌, ◌≤◌, List, Some, Result, refl, sym, ◌∙◌, ap, subst, arith}
use Rattle.newt_spec_image.specs.Records.{version}
use Rattle.newt_host.specs.Moments.{image}
use Rattle.newt_host.proofs.Outside.{NoFault-append}
use Rattle.newt_spec_image.specs.Pages.{cap}
use Rattle.newt_laws_images.specs.Found.{IsFound}
use Rattle.newt_pagebook.specs.declared.book.BookFault.{BookFault}
use Rattle.newt_pagebook.specs.declared.book.BookFault.TheVariants.{Memory}
use Rattle.newt_spec_store.specs.Store.{Store}
use Rattle.newt_soupdir.specs.Bare.{bare_store}
use Rattle.newt_nsof_flat.specs.Stream.{stream_graph}
use Rattle.newt_objects_commit.specs.Names.{names_of}
use Rattle.newt_objects_commit.specs.Places.{place_of}
use Rattle.newt_store_catalog.specs.declared.catalog.Catalog.{Catalog}
use Rattle.newt_store_catalog.specs.Readable.{readable}
use Rattle.newt_store_catalog.specs.Stands.{StandsFor, IsSound}
use Rattle.newt_store_catalog.specs.Gathering.{HasGathered}
use Rattle.newt_store_catalog.specs.Opening.{OfObjects}
use Rattle.newt_store_catalog.specs.Calls.{IsDirectory}
use Rattle.newt_store_catalog.proofs.Exits.{Fails, no-value, book-on, can-on, of-book, search-value, search-none, search-fails, search-memory, search-after}
use Rattle.newt_store_catalog.proofs.Opening.{same-image}
use Rattle.newt_store_catalog.proofs.OpeningPlaces.{live-large, live-opened}
use Rattle.newt_store_catalog.proofs.open.find_catalog.Goals as goal

pub find_records-requires-clause-can : goal.find_records-requires-clause-can
find_records-requires-clause-can g c = can-on c.read_root.ensures.searches.book

pub find_records-requires-clause-root : goal.find_records-requires-clause-root
find_records-requires-clause-root g c =
    let o = g.H.Host.outside in
    let place = g.P.PageBook.place in
    let two = c.read_root.ensures.searches.book in
    let first : List ℕ = image (place c.scan_objects.new.book) (o c.scan_objects.new.host).now in
    let second : List ℕ = image (place c.read_root.new.book) (o c.read_root.new.host).now in
    let same : second ≡ first = same-image (place c.scan_objects.new.book) (place c.read_root.new.book) (o c.scan_objects.new.host).now (o c.read_root.new.host).now two.same_place two.looks.moment in
    subst (λ (b : List ℕ). IsDirectory g.H.Host.told b c.in_ok-directory.directory) (sym same) c.in_ok-directory.ensures.root

-- the count and the room are those of the book that was read
is-more : (a b x y : ℕ) → a ≡ x → b ≡ y → a < b → x < y
is-more a b x y e f more = omega (arith, e, f, more)

is-few : (a b x y : ℕ) → a ≡ x → b ≡ y → b ≤ a → y ≤ x
is-few a b x y e f few = omega (arith, e, f, few)

pub returns-then-cap-live : goal.returns-then-cap-live
returns-then-cap-live g c =
    let o = g.H.Host.outside in
    let place = g.P.PageBook.place in
    let one = c.in_ok-objects.ensures in
    let two = c.in_ok-directory.ensures in
    let three = c.in_ok-finding.ensures in
    let u : ℕ = place c.find_records.new.book in
    let blocks : ℕ = (o c.find_records.new.host).blocks u in
    let now : List ℕ = image (place c.args.book.now) (o c.args.host.now).now in
    let second : image (place c.read_root.new.book) (o c.read_root.new.host).now ≡ now = same-image _ _ _ _ (two.searches.book.same_place ∙ one.reads.same_place) (two.searches.book.looks.moment ∙ one.reads.looks.moment) in
    let third : image u (o c.find_records.new.host).now ≡ now = same-image _ _ _ _ (three.searches.book.same_place ∙ two.searches.book.same_place ∙ one.reads.same_place) (three.searches.book.looks.moment ∙ two.searches.book.looks.moment ∙ one.reads.looks.moment) in
    let room : c.cap.result ≡ cap blocks = c.cap.ensures ∙ ap cap (c.blocks-2.ensures ∙ ap (λ (v : ℕ). (o c.find_records.new.host).blocks v) c.unit.ensures) in
    let before = book-on one.reads (of-book two.searches.book) in
    let none = NoFault-append (one.ends.no_fault tt) (NoFault-append (two.searches.ends.no_fault tt) (three.searches.ends.no_fault tt)) in
    record {
      sound = tt;
      found = λ tells. tt;
      gathered = tt;
      reads = book-on before (of-book three.searches.book);
      ends = search-none
          (λ tells.
          live-large g.H.Host.told c.in_ok-objects.objects (g.P.PageBook.numbers c.find_records.new.book) u (o c.find_records.new.host) three.searches.book.kept tells blocks (g.met.H.Host.sized c.find_records.new.host u tells) now third
          (place_of c.in_ok-finding.finding.places) (names_of c.in_ok-finding.finding.names) c.in_ok-directory.directory
          (subst (λ (b : List ℕ). OfObjects g.H.Host.told b (λ texts. IsFound stream_graph (version b) texts (place_of c.in_ok-finding.finding.places) (names_of c.in_ok-finding.finding.names) (bare_store c.in_ok-directory.directory))) second three.found.found)
          (is-more _ _ _ _ room c.live.ensures c.if-cap-live.true))
          none;
    }

pub returns : goal.returns
returns g c =
    let o = g.H.Host.outside in
    let place = g.P.PageBook.place in
    let one = c.in_ok-objects.ensures in
    let two = c.in_ok-directory.ensures in
    let three = c.in_ok-finding.ensures in
    let u : ℕ = place c.find_records.new.book in
    let blocks : ℕ = (o c.find_records.new.host).blocks u in
    let now : List ℕ = image (place c.args.book.now) (o c.args.host.now).now in
    let second : image (place c.read_root.new.book) (o c.read_root.new.host).now ≡ now = same-image _ _ _ _ (two.searches.book.same_place ∙ one.reads.same_place) (two.searches.book.looks.moment ∙ one.reads.looks.moment) in
    let third : image u (o c.find_records.new.host).now ≡ now = same-image _ _ _ _ (three.searches.book.same_place ∙ two.searches.book.same_place ∙ one.reads.same_place) (three.searches.book.looks.moment ∙ two.searches.book.looks.moment ∙ one.reads.looks.moment) in
    let room : c.cap.result ≡ cap blocks = c.cap.ensures ∙ ap cap (c.blocks-2.ensures ∙ ap (λ (v : ℕ). (o c.find_records.new.host).blocks v) c.unit.ensures) in
    let before = book-on one.reads (of-book two.searches.book) in
    let none = NoFault-append (one.ends.no_fault tt) (NoFault-append (two.searches.ends.no_fault tt) (three.searches.ends.no_fault tt)) in
    record {
      sound = record { kept = three.searches.book.kept; places = three.found.places; names = three.found.names_are; formed = two.root.formed };
      found = λ tells.
          live-opened g.H.Host.told c.in_ok-objects.objects (g.P.PageBook.numbers c.find_records.new.book) u (o c.find_records.new.host) three.searches.book.kept tells blocks (g.met.H.Host.sized c.find_records.new.host u tells) now third
          (place_of c.in_ok-finding.finding.places) (names_of c.in_ok-finding.finding.names) c.in_ok-directory.directory
          (subst (λ (b : List ℕ). OfObjects g.H.Host.told b (λ texts. IsFound stream_graph (version b) texts (place_of c.in_ok-finding.finding.places) (names_of c.in_ok-finding.finding.names) (bare_store c.in_ok-directory.directory))) second three.found.found)
          (is-few _ _ _ _ room c.live.ensures c.if-cap-live.false)
          (record { objects = c.in_ok-objects.objects; directory = c.in_ok-directory.directory; places = c.in_ok-finding.finding.places; names = c.in_ok-finding.finding.names; hint = 0 }) refl refl refl;
      gathered = subst (λ (b : List ℕ). OfObjects g.H.Host.told b (HasGathered g.G.Gatherer.gathers (bare_store c.in_ok-directory.directory) (place_of c.in_ok-finding.finding.places) c.find_records.new.gatherer)) second three.gathered;
      reads = book-on before (of-book three.searches.book);
      ends = search-value none;
    }

pub returns-in_err-objects : goal.returns-in_err-objects
returns-in_err-objects g c =
    let o = g.H.Host.outside in
    let place = g.P.PageBook.place in
    let u : ℕ = place c.args.book.now in
    let first = o c.args.host.now in
    let fault : BookFault = c.in_err-objects.field-0.0 in
    let r : Result (Catalog × g.row.G.Denot) BookFault = c.from_residual.result in
    let fails : Fails r fault = c.from_residual.ensures.1 in
    let e = c.scan_objects.ensures in
    record {
      sound = no-value r fault (λ found. IsSound g.H.Host.told found.0 (g.P.PageBook.numbers c.scan_objects.new.book) (place c.scan_objects.new.book) (o c.scan_objects.new.host)) fails;
      found = λ tells. no-value r fault (λ found. (s : Store) × (readable (image u first.now) ≡ Some s) × StandsFor found.0 s (image u first.now)) fails;
      gathered = no-value r fault _ fails;
      reads = e.reads;
      ends = search-fails r fault fails c.in_err-objects.ensures.ends;
    }

pub returns-in_err-directory : goal.returns-in_err-directory
returns-in_err-directory g c =
    let o = g.H.Host.outside in
    let place = g.P.PageBook.place in
    let u : ℕ = place c.args.book.now in
    let first = o c.args.host.now in
    let fault : BookFault = c.in_err-directory.field-0.0 in
    let r : Result (Catalog × g.row.G.Denot) BookFault = c.from_residual-in_err-directory.result in
    let fails : Fails r fault = c.from_residual-in_err-directory.ensures.1 in
    let one = c.in_ok-objects.ensures in
    record {
      sound = no-value r fault (λ found. IsSound g.H.Host.told found.0 (g.P.PageBook.numbers c.read_root.new.book) (place c.read_root.new.book) (o c.read_root.new.host)) fails;
      found = λ tells. no-value r fault (λ found. (s : Store) × (readable (image u first.now) ≡ Some s) × StandsFor found.0 s (image u first.now)) fails;
      gathered = no-value r fault _ fails;
      reads = book-on one.reads (of-book c.read_root.ensures.searches.book);
      ends = search-after one.reads.same_place one.reads.looks (one.ends.no_fault tt) (search-fails r fault fails c.in_err-directory.ensures.searches.ends);
    }

pub returns-in_err-finding : goal.returns-in_err-finding
returns-in_err-finding g c =
    let o = g.H.Host.outside in
    let place = g.P.PageBook.place in
    let u : ℕ = place c.args.book.now in
    let first = o c.args.host.now in
    let fault : BookFault = c.in_err-finding.field-0.0 in
    let r : Result (Catalog × g.row.G.Denot) BookFault = c.from_residual-in_err-finding.result in
    let fails : Fails r fault = c.from_residual-in_err-finding.ensures.1 in
    let one = c.in_ok-objects.ensures in
    let two = c.in_ok-directory.ensures in
    let before = book-on one.reads (of-book two.searches.book) in
    record {
      sound = no-value r fault (λ found. IsSound g.H.Host.told found.0 (g.P.PageBook.numbers c.find_records.new.book) (place c.find_records.new.book) (o c.find_records.new.host)) fails;
      found = λ tells. no-value r fault (λ found. (s : Store) × (readable (image u first.now) ≡ Some s) × StandsFor found.0 s (image u first.now)) fails;
      gathered = no-value r fault _ fails;
      reads = book-on before (of-book c.find_records.ensures.searches.book);
      ends = search-after before.same_place before.looks (NoFault-append (one.ends.no_fault tt) (two.searches.ends.no_fault tt)) (search-fails r fault fails c.in_err-finding.ensures.searches.ends);
    }

pub returns-in_err-gatherer : goal.returns-in_err-gatherer
returns-in_err-gatherer g c =
    let o = g.H.Host.outside in
    let place = g.P.PageBook.place in
    let u : ℕ = place c.args.book.now in
    let first = o c.args.host.now in
    let r : Result (Catalog × g.row.G.Denot) BookFault = c.from_residual-in_err-gatherer.result in
    let fails : Fails r Memory = c.from_residual-in_err-gatherer.ensures.1 in
    record {
      sound = no-value r Memory (λ found. IsSound g.H.Host.told found.0 (g.P.PageBook.numbers c.read_root.new.book) (place c.read_root.new.book) (o c.read_root.new.host)) fails;
      found = λ tells. no-value r Memory (λ found. (s : Store) × (readable (image u first.now) ≡ Some s) × StandsFor found.0 s (image u first.now)) fails;
      gathered = no-value r Memory _ fails;
      reads = book-on c.in_ok-objects.ensures.reads (of-book c.read_root.ensures.searches.book);
      ends = search-fails {T = Unit {0}} r Memory fails
          (search-memory (NoFault-append (c.in_ok-objects.ensures.ends.no_fault tt) (c.in_ok-directory.ensures.searches.ends.no_fault tt)));
    }
