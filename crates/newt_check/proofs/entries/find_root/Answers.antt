use Rattle.std.proofs.Common.{◌≡◌, ℕ, List, IsTrue, Option, Result, sym, ◌∙◌, ap}
use Rattle.newt_host.specs.Moments.{image}
use Rattle.newt_host.specs.Outside.{Outside}
use Rattle.newt_host.proofs.Outside.{NoFault-refl}
use Rattle.newt_objects.specs.Held.{held}
use Rattle.newt_pagebook.specs.declared.book.Stop.{Stop}
use Rattle.newt_pagebook.specs.declared.book.Stop.TheVariants.{Memory}
use Rattle.newt_soupdir.specs.declared.rows.Directory.{Directory}
use Rattle.newt_spec_image.specs.Records.{version}
use Rattle.newt_store_catalog.proofs.Exits.{no-value, read-fails, read-memory, reads-none, with-kept}
use Rattle.newt_store_catalog.proofs.Opening.{is-none, kept-none, kept-read, mapped-none, same-image}
use Rattle.newt_check.proofs.Records.{root-by, root-none}
use Rattle.newt_check.proofs.entries.find_root.Goals as goal

pub returns-then-is_none : goal.returns-then-is_none
returns-then-is_none g c =
    let o = g.H.Host.outside c.args.host.now in
    let u : ℕ = g.P.PageBook.place c.args.book.now in
    record {
      root = λ tells texts h. root-none (image u o.now) texts
          (kept-none g.H.Host.told c.args.objects.now (g.P.PageBook.numbers c.args.book.now) u o c.requires.can.kept tells texts h 0
          (mapped-none (λ x. x.length) (held c.args.objects.now 0) (sym c.length.ensures ∙ is-none c.length.result c.if-is_none.ensures)));
      reads = record {
        book = reads-none g.P.PageBook.place g.P.PageBook.numbers g.P.PageBook.stands g.H.Host.told c.args.objects.now c.args.book.now o c.requires.can;
        ends = record { cause = tt; no_fault = NoFault-refl o };
      };
    }

pub returns-in_err-bytes : goal.returns-in_err-bytes
returns-in_err-bytes g c =
    let r : Result (Option Directory) Stop = c.from_residual.result in
    let stop : Stop = c.in_err-bytes.field-0.0 in
    record {
      root = no-value r stop _ c.from_residual.ensures.1;
      reads = record {
        book = with-kept c.requires.can.kept c.read.ensures.reads.book;
        ends = read-fails {T = Unit {0}} r stop c.from_residual.ensures.1 (record { cause = c.in_err-bytes.ensures.reads.cause; no_fault = tt });
      };
    }

pub returns-in_err-directory_of : goal.returns-in_err-directory_of
returns-in_err-directory_of g c =
    let r : Result (Option Directory) Stop = c.from_residual-in_err-directory_of.result in
    record {
      root = no-value r Memory _ c.from_residual-in_err-directory_of.ensures.1;
      reads = record { book = with-kept c.requires.can.kept c.read.ensures.reads.book; ends = read-memory r c.in_ok-bytes.ensures.reads.no_fault c.from_residual-in_err-directory_of.ensures.1 };
    }

pub returns : goal.returns
returns g c =
    let o = g.H.Host.outside c.args.host.now in
    let u : ℕ = g.P.PageBook.place c.args.book.now in
    let kept = c.requires.can.kept in
    let book = with-kept kept c.read.ensures.reads.book in
    let after : Outside = g.H.Host.outside c.read.new.host in
    let bytes : List ℕ = c.in_ok-bytes.bytes.items in
    let is : IsTrue g.H.Host.told → c.version.result ≡ version (image u o.now) = λ tells.
    c.version.ensures.by_image g.H.Host.told after book.stood tells ∙ ap version (same-image _ _ _ _ book.same_place book.looks.moment) in
    record {
      root = root-by g.H.Host.told (image u o.now) bytes c.deref.result.now c.version.result c.in_ok-directory_of.field-0
          (λ tells. kept-read g.H.Host.told c.args.objects.now (g.P.PageBook.numbers c.args.book.now) u o kept tells 0 bytes (c.in_ok-bytes.ensures.bytes tells))
          c.deref.ensures.value is c.in_ok-directory_of.ensures.read c.directory_of.ensures.are_bytes;
      reads = record { book = book; ends = record { cause = tt; no_fault = c.in_ok-bytes.ensures.reads.no_fault } };
    }
