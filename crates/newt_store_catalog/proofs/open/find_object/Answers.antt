use Rattle.std.proofs.Common.{ℕ, Result, inl, inr, refl}
use Rattle.newt_host.proofs.Outside.{NoFault-refl}
use Rattle.newt_host.specs.Moments.{image}
use Rattle.newt_objects.specs.Held.{held}
use Rattle.newt_pagebook.specs.declared.book.BookFault.{BookFault}
use Rattle.newt_pagebook.specs.declared.book.BookFault.TheVariants.{Memory}
use Rattle.newt_entries.specs.declared.row.EntryRow.{EntryRow}
use Rattle.newt_soupdir.specs.Bare.{bare_store}
use Rattle.newt_spec_store.specs.Store.{Store}
use Rattle.newt_spec_store.specs.Lies.{Places}
use Rattle.newt_laws_changes.specs.Written.{Names}
use Rattle.newt_objects_commit.specs.Names.{names_of}
use Rattle.newt_objects_commit.specs.Places.{place_of}
use Rattle.newt_store_catalog.specs.Opening.{OfObjects, IsRow, Owners, objects_named, owner_of, FindsRow}
use Rattle.newt_store_catalog.proofs.Exits.{Fails, no-value, reads-none, search-value, search-fails, search-memory}
use Rattle.newt_store_catalog.proofs.Gathering.{gathered-next}
use Rattle.newt_store_catalog.proofs.Opening.{record-not-given, record-twice, record-missing, record-owned}
use Rattle.newt_store_catalog.proofs.Owning.{all-there, not-there, named-there}
use Rattle.newt_store_catalog.proofs.Unnamed.{none-named}
use Rattle.newt_store_catalog.proofs.OpeningPlaces.{odd-is, sound-next, sound-even, row-next, even-next}
use Rattle.newt_store_catalog.proofs.open.find_object.Goals as goal

pub returns-then-id-eq0 : goal.returns-then-id-eq0
returns-then-id-eq0 g c =
    let o = g.H.Host.outside c.args.host.now in
    let u : ℕ = g.P.PageBook.place c.args.book.now in
    let place : Places = place_of c.args.finding.now.places in
    let names : Names = names_of c.args.finding.now.names in
    record {
      found = record {
        sound = sound-even c.args.last c.args.id (c.requires.next.found c.args.id refl).1 (held c.args.objects.now) place names (owner_of c.args.finding.now.owners) c.requires.found.sound;
        found = λ tells texts h.
            even-next g.H.Host.told c.args.objects.now (g.P.PageBook.numbers c.args.book.now) u o c.requires.can.kept tells texts h
            (bare_store c.args.directory.now) c.args.last c.args.id c.requires.next place names c.if-id-eq0.true (c.requires.found.found tells texts h);
      };
      gathered = c.requires.gathered;
      searches = record {
        book = reads-none g.P.PageBook.place g.P.PageBook.numbers g.P.PageBook.stands g.H.Host.told c.args.objects.now c.args.book.now o c.requires.can;
        ends = search-value (NoFault-refl o);
      };
    }

pub returns-in_err-row : goal.returns-in_err-row
returns-in_err-row g c =
    let e = c.read_record.ensures in
    let fault : BookFault = c.in_err-row.field-0.0 in
    let r : Result (Unit {0}) BookFault = c.from_residual.result in
    let fails : Fails r fault = c.from_residual.ensures.1 in
    record {
      found = no-value r fault _ fails;
      gathered = no-value r fault _ fails;
      searches = record { book = e.searches.book; ends = search-fails r fault fails c.in_err-row.ensures.searches.ends };
    }

pub find_row-requires-clause-unnamed : goal.find_row-requires-clause-unnamed
find_row-requires-clause-unnamed g c = none-named c.args.last c.args.id (c.requires.next.found c.args.id refl).1 (held c.args.objects.now) (place_of c.args.finding.now.places) (names_of c.args.finding.now.names) (owner_of c.args.finding.now.owners) c.requires.found.sound

pub returns-in_err-find_row : goal.returns-in_err-find_row
returns-in_err-find_row g c =
    let e = c.read_record.ensures in
    let o = g.H.Host.outside c.args.host.now in
    let u : ℕ = g.P.PageBook.place c.args.book.now in
    let numbers = g.P.PageBook.numbers c.args.book.now in
    let objects = c.args.objects.now in
    let table = held objects in
    let id : ℕ = c.args.id in
    let last : ℕ = c.args.last in
    let place : Places = place_of c.args.finding.now.places in
    let names : Names = names_of c.args.finding.now.names in
    let owner : Owners = owner_of c.args.finding.now.owners in
    let row : EntryRow = c.in_ok-row.row in
    let is_row : OfObjects g.H.Host.told (image u o.now) (IsRow id row) = c.in_ok-row.ensures.row in
    let odd = odd-is id c.if-id-eq0.false in
    let there = c.requires.next.found id refl in
    let fault : BookFault = c.in_err-find_row.field-0.0 in
    let r : Result (Unit {0}) BookFault = c.from_residual-in_err-find_row.result in
    let fails : Fails r fault = c.from_residual-in_err-find_row.ensures.1 in
    record {
      found = no-value r fault _ fails;
      gathered = no-value r fault _ fails;
      searches = record {
        book = e.searches.book;
        ends = search-fails {T = Unit {0}} r fault fails (record {
          not_store = λ is tells. elim (c.in_err-find_row.ensures.bad is) [
            | inl none ↦ record-not-given g.H.Host.told objects numbers u o c.requires.can.kept tells c.args.directory.now c.requires.root.root id odd row is_row none
            | inr (inl other) ↦ record-twice g.H.Host.told objects numbers u o c.requires.can.kept tells c.args.directory.now c.requires.root.root id odd row is_row last place names owner c.requires.found.sound c.requires.found.found there.1 other.0 other.1
            | inr (inr (inl not)) ↦ (let l = not-there table row.larges not in record-missing g.H.Host.told objects numbers u o c.requires.can.kept tells c.args.directory.now c.requires.root.root id odd row is_row l.0 l.1 l.2)
            | inr (inr (inr owned)) ↦ record-owned g.H.Host.told objects numbers u o c.requires.can.kept tells c.args.directory.now c.requires.root.root id odd row is_row last place names owner c.requires.found.sound c.requires.found.found there.1 owned
          ];
          cause = λ is. absurd (c.in_err-find_row.ensures.no_device is);
          no_fault = λ opening. c.in_ok-row.ensures.searches.ends.no_fault tt;
        });
      };
    }

pub returns-in_err-gather : goal.returns-in_err-gather
returns-in_err-gather g c =
    let r : Result (Unit {0}) BookFault = c.from_residual-in_err-gather.result in
    let fails : Fails r Memory = c.from_residual-in_err-gather.ensures.1 in
    record {
      found = no-value r Memory _ fails;
      gathered = no-value r Memory _ fails;
      searches = record { book = c.read_record.ensures.searches.book; ends = search-fails {T = Unit {0}} r Memory fails (search-memory (c.in_ok-row.ensures.searches.ends.no_fault tt)) };
    }

pub returns : goal.returns
returns g c =
    let e = c.read_record.ensures in
    let o = g.H.Host.outside c.args.host.now in
    let u : ℕ = g.P.PageBook.place c.args.book.now in
    let numbers = g.P.PageBook.numbers c.args.book.now in
    let objects = c.args.objects.now in
    let table = held objects in
    let id : ℕ = c.args.id in
    let last : ℕ = c.args.last in
    let d : Store = bare_store c.args.directory.now in
    let place : Places = place_of c.args.finding.now.places in
    let names : Names = names_of c.args.finding.now.names in
    let owner : Owners = owner_of c.args.finding.now.owners in
    let place' : Places = place_of c.find_row.new.finding.places in
    let names' : Names = names_of c.find_row.new.finding.names in
    let owner' : Owners = owner_of c.find_row.new.finding.owners in
    let row : EntryRow = c.in_ok-row.row in
    let is_row : OfObjects g.H.Host.told (image u o.now) (IsRow id row) = c.in_ok-row.ensures.row in
    let even = c.in_ok-row.ensures.even in
    let odd = odd-is id c.if-id-eq0.false in
    let there = c.requires.next.found id refl in
    let f : FindsRow table d id row place names owner place' names' owner' = c.in_ok-find_row.ensures.found in
    record {
      found = record {
        sound = sound-next place place' row.soup row.uid id f.placed f.other_places last there.1 names names' (objects_named row.larges) f.named f.other_names table owner owner' c.requires.found.sound there.0 odd f.free f.owns
            (named-there table row.larges (all-there table row.larges f.there)) even;
        found = λ tells texts h. row-next g.H.Host.told objects numbers u o c.requires.can.kept tells texts h d last id c.requires.next place names row (is_row tells texts h) odd f.given even (all-there table row.larges f.there)
            place' names' f.free f.placed f.other_places f.named f.other_names (c.requires.found.found tells texts h);
      };
      gathered = λ tells texts h.
          gathered-next g.G.Gatherer.gathers d texts place place' id row c.args.gatherer.now c.gather.new.self (is_row tells texts h) f.free f.placed f.other_places
          c.in_ok-gather.ensures (c.requires.gathered tells texts h);
      searches = record { book = e.searches.book; ends = search-value (c.in_ok-row.ensures.searches.ends.no_fault tt) };
    }
