use Rattle.std.proofs.Common.{◌≡◌, ◌*◌, ℕ, List, length, sym, ◌∙◌, ap, subst}
use Rattle.std.specs.List.{list_all}
use Rattle.newt_host.specs.Outside.{Spends}
use Rattle.newt_objects.specs.Held.{held}
use Rattle.newt_pagebook.specs.Stops.{StopsAt}
use Rattle.newt_spec_store.specs.Lies.{record_read}
use Rattle.newt_nsof_flat.specs.Stream.{stream_graph}
use Rattle.newt_store_catalog.specs.Calls.{AreThere}
use Rattle.newt_store_catalog.specs.Opening.{has_length}
use Rattle.newt_store_catalog.proofs.Exits.{with-kept, read-fails, no-value}
use Rattle.newt_store_catalog.proofs.Lying.{is-record, are-there}
use Rattle.newt_store_catalog.proofs.Opening.{not_true, the-fault}
use Rattle.newt_store_catalog.proofs.Rows.{read-is, read-costs}
use Rattle.newt_store_catalog.proofs.Sizes.{record-pages, size-costs}
use Rattle.newt_store_catalog.proofs.read.read_row.Goals as goal

pub lies-requires : goal.lies-requires
lies-requires g c = λ tells.
    let objects = c.args.objects.now in
    let there : AreThere objects c.in-Ok.row.larges = are-there g.H.Host.told objects (g.P.PageBook.numbers c.args.book.now) (g.P.PageBook.place c.args.book.now) (g.H.Host.outside c.args.host.now) c.requires.can.kept tells c.args.id (c.requires.entry.lies tells)
    c.in_ok-bytes.bytes.items (c.in_ok-bytes.ensures.bytes tells) c.in-Ok.row (ap (record_read stream_graph) (sym c.deref.ensures.value) ∙ c.in-Ok.ensures.found) in
    not_true _ (ap (list_all (λ l. has_length (held objects) l)) c.list.ensures ∙ there) (sym c.are_there.ensures ∙ c.if-not-are_there.true)

pub lies-requires-in-Err-Bad : goal.lies-requires-in-Err-Bad
lies-requires-in-Err-Bad g c = λ tells.
    is-record g.H.Host.told c.args.objects.now (g.P.PageBook.numbers c.args.book.now) (g.P.PageBook.place c.args.book.now) (g.H.Host.outside c.args.host.now) c.requires.can.kept tells c.args.id (c.requires.entry.lies tells) c.in_ok-bytes.bytes.items
    (c.in_ok-bytes.ensures.bytes tells) (ap (record_read stream_graph) (sym c.deref.ensures.value) ∙ c.read_entry.ensures.bad (the-fault c.in-Err-Bad.is c.in-Err-Bad.field-0-is))

pub returns-in_err-bytes : goal.returns-in_err-bytes
returns-in_err-bytes g c =
    let o = g.H.Host.outside in
    let r = c.from_residual.result in
    let kept = c.requires.can.kept in
    record {
      row = λ tells texts bytes holds at. record {
        row = no-value r c.in_err-bytes.field-0.0 _ c.from_residual.ensures.1;
        costs = read-costs g.H.Host.told c.args.objects.now (g.P.PageBook.numbers c.args.book.now) (g.P.PageBook.place c.args.book.now) (o c.args.host.now) kept tells texts holds c.args.id bytes at (o c.args.host.now) (o c.read.new.host) c.read.ensures.costs;
      };
      any = no-value r c.in_err-bytes.field-0.0 _ c.from_residual.ensures.1;
      pages = no-value r c.in_err-bytes.field-0.0 _ c.from_residual.ensures.1;
      reads = record {
        book = with-kept kept c.read.ensures.reads.book;
        ends = read-fails {T = Unit {0}} r c.in_err-bytes.field-0.0 c.from_residual.ensures.1 (record { cause = c.in_err-bytes.ensures.reads.cause; no_fault = tt });
      };
    }

pub returns-then-not-are_there : goal.returns-then-not-are_there
returns-then-not-are_there g c =
    let o = g.H.Host.outside in
    let u : ℕ = g.P.PageBook.place c.args.book.now in
    let kept = c.requires.can.kept in
    record {
      row = λ tells texts bytes holds at. record {
        row = tt;
        costs = read-costs g.H.Host.told c.args.objects.now (g.P.PageBook.numbers c.args.book.now) u (o c.args.host.now) kept tells texts holds c.args.id bytes at (o c.args.host.now) (o c.read.new.host) c.read.ensures.costs;
      };
      any = tt;
      pages = tt;
      reads = record { book = with-kept kept c.read.ensures.reads.book; ends = record { cause = subst (StopsAt u (o c.args.host.now) (o c.read.new.host)) (sym c.lies.ensures) c.in_ok-bytes.ensures.reads.no_fault; no_fault = tt } };
    }

pub returns-in-Ok : goal.returns-in-Ok
returns-in-Ok g c =
    let o = g.H.Host.outside in
    let objects = c.args.objects.now in
    let u : ℕ = g.P.PageBook.place c.args.book.now in
    let numbers = g.P.PageBook.numbers c.args.book.now in
    let kept = c.requires.can.kept in
    record {
      row = λ tells texts bytes holds at.
          let same : bytes ≡ c.in_ok-bytes.bytes.items = read-is g.H.Host.told objects numbers u (o c.args.host.now) kept tells texts holds c.args.id bytes at c.in_ok-bytes.bytes.items (c.in_ok-bytes.ensures.bytes tells) in
          record {
            row = ap (record_read stream_graph) (same ∙ sym c.deref.ensures.value) ∙ c.in-Ok.ensures.found;
            costs = read-costs g.H.Host.told objects numbers u (o c.args.host.now) kept tells texts holds c.args.id bytes at (o c.args.host.now) (o c.read.new.host) c.read.ensures.costs;
          };
      any = record {
        bytes = c.deref.result.now;
        read = c.in-Ok.ensures.found;
        fits = c.in-Ok.ensures.fit;
        there = ap (list_all (λ l. has_length (held objects) l)) (sym c.list.ensures) ∙ sym c.are_there.ensures ∙ c.if-not-are_there.false;
      };
      pages =
          let got : List ℕ = c.in_ok-bytes.bytes.items in
          subst (λ (n : ℕ). Spends u 0 (512 * n) (o c.args.host.now) (o c.read.new.host))
          (record-pages got c.in-Ok.row
          (ap (record_read stream_graph) (sym c.deref.ensures.value) ∙ c.in-Ok.ensures.found))
          (size-costs kept c.args.id c.requires.entry.there c.read.ensures.costs (length got)
          c.in_ok-bytes.ensures.size);
      reads = record { book = with-kept kept c.read.ensures.reads.book; ends = record { cause = tt; no_fault = c.in_ok-bytes.ensures.reads.no_fault } };
    }

pub returns-in-Err-Bad : goal.returns-in-Err-Bad
returns-in-Err-Bad g c =
    let o = g.H.Host.outside in
    let u : ℕ = g.P.PageBook.place c.args.book.now in
    let kept = c.requires.can.kept in
    record {
      row = λ tells texts bytes holds at. record {
        row = tt;
        costs = read-costs g.H.Host.told c.args.objects.now (g.P.PageBook.numbers c.args.book.now) u (o c.args.host.now) kept tells texts holds c.args.id bytes at (o c.args.host.now) (o c.read.new.host) c.read.ensures.costs;
      };
      any = tt;
      pages = tt;
      reads = record { book = with-kept kept c.read.ensures.reads.book; ends = record { cause = subst (StopsAt u (o c.args.host.now) (o c.read.new.host)) (sym c.lies-in-Err-Bad.ensures) c.in_ok-bytes.ensures.reads.no_fault; no_fault = tt } };
    }

pub returns : goal.returns
returns g c =
    let o = g.H.Host.outside in
    let kept = c.requires.can.kept in
    record {
      row = λ tells texts bytes holds at. record {
        row = tt;
        costs = read-costs g.H.Host.told c.args.objects.now (g.P.PageBook.numbers c.args.book.now) (g.P.PageBook.place c.args.book.now) (o c.args.host.now) kept tells texts holds c.args.id bytes at (o c.args.host.now) (o c.read.new.host) c.read.ensures.costs;
      };
      any = tt;
      pages = tt;
      reads = record { book = with-kept kept c.read.ensures.reads.book; ends = record { cause = c.in_ok-bytes.ensures.reads.no_fault; no_fault = tt } };
    }
