use Rattle.std.proofs.Common.{◌≡◌, ◌%◌, ◌<◌, ℕ, List, Result, sym, ◌∙◌, ap}
use Rattle.newt_host.specs.Moments.{image}
use Rattle.newt_pagebook.specs.declared.book.BookFault.{BookFault}
use Rattle.newt_spec_graph.specs.Lists.{Among}
use Rattle.newt_spec_store.specs.Lies.{record_read}
use Rattle.newt_nsof_flat.specs.Stream.{stream_graph}
use Rattle.newt_entries.specs.declared.row.EntryRow.{EntryRow}
use Rattle.newt_store_catalog.specs.Opening.{OfObjects, IsRow, objects_named}
use Rattle.newt_store_catalog.proofs.Exits.{Fails, no-value, search-fails}
use Rattle.newt_store_catalog.proofs.Opening.{record-bad, row-by, even-by}
use Rattle.newt_store_catalog.proofs.open.read_record.Goals as goal

pub returns-in_err-bytes : goal.returns-in_err-bytes
returns-in_err-bytes g c =
    let e = c.read_object.ensures in
    let now : List ℕ = image (g.P.PageBook.place c.args.book.now) (g.H.Host.outside c.args.host.now).now in
    let fault : BookFault = c.in_err-bytes.field-0.0 in
    let r : Result EntryRow BookFault = c.from_residual.result in
    let fails : Fails r fault = c.from_residual.ensures.1 in
    record {
      row = no-value r fault (λ row. OfObjects g.H.Host.told now (IsRow c.args.id row)) fails;
      even = no-value r fault (λ row. (o : ℕ) → Among (objects_named row.larges) o → (o % 2 ≡ 0) × (0 < o)) fails;
      searches = record { book = e.searches.book; ends = search-fails r fault fails c.in_err-bytes.ensures.searches.ends };
    }

pub returns : goal.returns
returns g c =
    let e = c.read_object.ensures in
    let o = g.H.Host.outside c.args.host.now in
    let u : ℕ = g.P.PageBook.place c.args.book.now in
    let bytes : List ℕ = c.in_ok-bytes.bytes.items in
    let text : List ℕ = c.deref.result.now in
    let same : text ≡ bytes = c.deref.ensures.value in
    let r : Result EntryRow BookFault = c.record_of.result in
    record {
      row = row-by g.H.Host.told (image u o.now) bytes text c.args.id r c.in_ok-bytes.ensures.bytes same c.record_of.ensures.read c.record_of.ensures.are_bytes;
      even = even-by text r c.record_of.ensures.read;
      searches = record {
        book = e.searches.book;
        ends = record {
          not_store = λ is tells.
              record-bad g.H.Host.told c.args.objects.now (g.P.PageBook.numbers c.args.book.now) u o c.requires.can.kept tells c.args.id bytes c.in_ok-bytes.ensures.bytes c.requires.odd
              (ap (record_read stream_graph) (sym same) ∙ c.record_of.ensures.bad is);
          cause = λ is. absurd (c.record_of.ensures.no_device is);
          no_fault = λ opening. c.in_ok-bytes.ensures.searches.ends.no_fault tt;
        };
      };
    }
