use Rattle.std.proofs.Common.{◌≡◌, ℕ, Bool, List, Result, sym, ◌∙◌, ap, subst, true, false}
use Rattle.newt_host.specs.Moments.{image}
use Rattle.newt_host.proofs.Outside.{NoFault-refl}
use Rattle.newt_nsof_flat.specs.Stream.{stream_graph}
use Rattle.newt_objects_commit.specs.Places.{place_of}
use Rattle.newt_pagebook.specs.declared.book.Stop.{Stop}
use Rattle.newt_pagebook.specs.declared.book.Stop.TheVariants.{Memory}
use Rattle.newt_pagelog.proofs.Replaying.{at_none, at_some}
use Rattle.newt_spec_nsof.specs.Text.{AreBytes}
use Rattle.newt_spec_store.specs.Lies.{record_read}
use Rattle.newt_store_catalog.specs.Opening.{HasObject, OfObjects}
use Rattle.newt_store_catalog.proofs.Exits.{no-value, read-fails, read-memory, reads-none, with-kept}
use Rattle.newt_store_catalog.proofs.Opening.{kept-read}
use Rattle.newt_store_catalog.proofs.OpeningPlaces.{odd-is}
use Rattle.newt_check.proofs.Records.{seen-bad, seen-even, seen-not, seen-row}
use Rattle.newt_check.proofs.entries.see_object.Goals as goal

pub returns-then-id-eq0 : goal.returns-then-id-eq0
returns-then-id-eq0 g c =
    let o = g.H.Host.outside c.args.host.now in
    let u : ℕ = g.P.PageBook.place c.args.book.now in
    record {
      seen = λ _. seen-even g.H.Host.told c.args.objects.now (g.P.PageBook.numbers c.args.book.now) u o c.requires.can.kept c.args.directory.now c.args.last c.args.id c.requires.next
          (place_of c.args.seen.now.places) c.args.seen.now.counts c.requires.seen c.if-id-eq0.true;
      bad = λ is. absurd (let e : true ≡ false = is in cc);
      reads = record {
        book = reads-none g.P.PageBook.place g.P.PageBook.numbers g.P.PageBook.stands g.H.Host.told c.args.objects.now c.args.book.now o c.requires.can;
        ends = record { cause = tt; no_fault = NoFault-refl o };
      };
    }

pub returns-in_err-bytes : goal.returns-in_err-bytes
returns-in_err-bytes g c =
    let r : Result Bool Stop = c.from_residual.result in
    let stop : Stop = c.in_err-bytes.field-0.0 in
    record {
      seen = no-value r stop _ c.from_residual.ensures.1;
      bad = no-value r stop _ c.from_residual.ensures.1;
      reads = record {
        book = with-kept c.requires.can.kept c.read.ensures.reads.book;
        ends = read-fails {T = Unit {0}} r stop c.from_residual.ensures.1 (record { cause = c.in_err-bytes.ensures.reads.cause; no_fault = tt });
      };
    }

pub returns-in_err-row : goal.returns-in_err-row
returns-in_err-row g c =
    let r : Result Bool Stop = c.from_residual-in_err-row.result in
    record {
      seen = no-value r Memory _ c.from_residual-in_err-row.ensures.1;
      bad = no-value r Memory _ c.from_residual-in_err-row.ensures.1;
      reads = record { book = with-kept c.requires.can.kept c.read.ensures.reads.book; ends = read-memory r c.in_ok-bytes.ensures.reads.no_fault c.from_residual-in_err-row.ensures.1 };
    }

pub returns-in_err-keep_row-in-Some : goal.returns-in_err-keep_row-in-Some
returns-in_err-keep_row-in-Some g c =
    let r : Result Bool Stop = c.from_residual-in_err-keep_row-in-Some.result in
    record {
      seen = no-value r Memory _ c.from_residual-in_err-keep_row-in-Some.ensures.1;
      bad = no-value r Memory _ c.from_residual-in_err-keep_row-in-Some.ensures.1;
      reads = record { book = with-kept c.requires.can.kept c.read.ensures.reads.book; ends = read-memory r c.in_ok-bytes.ensures.reads.no_fault c.from_residual-in_err-keep_row-in-Some.ensures.1 };
    }

pub returns-in-Some : goal.returns-in-Some
returns-in-Some g c =
    let o = g.H.Host.outside c.args.host.now in
    let u : ℕ = g.P.PageBook.place c.args.book.now in
    let numbers = g.P.PageBook.numbers c.args.book.now in
    let objects = c.args.objects.now in
    let kept = c.requires.can.kept in
    let bytes : List ℕ = c.in_ok-bytes.bytes.items in
    let has : OfObjects g.H.Host.told (image u o.now) (HasObject c.args.id bytes) = λ tells. kept-read g.H.Host.told objects numbers u o kept tells c.args.id bytes (c.in_ok-bytes.ensures.bytes tells) in
    let odd = odd-is c.args.id c.if-id-eq0.false in
    let same : c.deref.result.now ≡ bytes = c.deref.ensures.value in
    let read = ap (record_read stream_graph) (sym same) ∙ at_some _ _ c.in_ok-row.field-0 c.in-Some.row c.in-Some.is c.in_ok-row.ensures.read in
    let are : AreBytes bytes = subst AreBytes same c.record_of.ensures.are_bytes in
    record {
      seen = λ good. seen-row g.H.Host.told objects numbers u o kept c.args.directory.now c.args.last c.args.id c.requires.next (place_of c.args.seen.now.places) c.args.seen.now.counts c.requires.seen
          odd c.requires.root.root bytes has c.in-Some.row read are (place_of c.keep_row.new.seen.places) c.keep_row.new.seen.counts (c.in_ok-keep_row-in-Some.ensures.kept good);
      bad = λ is. seen-not g.H.Host.told objects numbers u o kept c.args.directory.now c.args.last c.args.id c.requires.next (place_of c.args.seen.now.places) c.args.seen.now.counts c.requires.seen
          odd c.requires.root.root bytes has c.in-Some.row read are (c.in_ok-keep_row-in-Some.ensures.bad is);
      reads = record { book = with-kept kept c.read.ensures.reads.book; ends = record { cause = tt; no_fault = c.in_ok-bytes.ensures.reads.no_fault } };
    }

pub returns : goal.returns
returns g c =
    let o = g.H.Host.outside c.args.host.now in
    let u : ℕ = g.P.PageBook.place c.args.book.now in
    let numbers = g.P.PageBook.numbers c.args.book.now in
    let objects = c.args.objects.now in
    let kept = c.requires.can.kept in
    let bytes : List ℕ = c.in_ok-bytes.bytes.items in
    let has : OfObjects g.H.Host.told (image u o.now) (HasObject c.args.id bytes) = λ tells. kept-read g.H.Host.told objects numbers u o kept tells c.args.id bytes (c.in_ok-bytes.ensures.bytes tells) in
    record {
      seen = λ is. absurd (let e : false ≡ true = is in cc);
      bad = λ _. seen-bad g.H.Host.told objects numbers u o kept c.args.directory.now c.args.last c.args.id c.requires.next (place_of c.args.seen.now.places) c.args.seen.now.counts c.requires.seen
          (odd-is c.args.id c.if-id-eq0.false) c.requires.root.root bytes has (ap (record_read stream_graph) (sym c.deref.ensures.value) ∙ at_none _ _ c.in_ok-row.field-0 c.in-None.is c.in_ok-row.ensures.read);
      reads = record { book = with-kept kept c.read.ensures.reads.book; ends = record { cause = tt; no_fault = c.in_ok-bytes.ensures.reads.no_fault } };
    }
