use Rattle.std.proofs.Common.{ℕ, List, Result, sym, ◌∙◌, ap, subst}
use Rattle.newt_host.specs.Moments.{image}
use Rattle.newt_pagebook.specs.declared.book.Stop.{Stop}
use Rattle.newt_pagebook.specs.declared.book.Stop.TheVariants.{Memory}
use Rattle.newt_pagebook.specs.Stops.{StopsAt}
use Rattle.newt_store_catalog.proofs.Exits.{no-value, read-fails, read-memory}
use Rattle.newt_check.specs.declared.report.Report.{Report}
use Rattle.newt_check.specs.Parts.{broken_in}
use Rattle.newt_check.proofs.Damages.{at-parts, some-parts}
use Rattle.newt_check.proofs.Whole.{broken-is, headers-both}
use Rattle.newt_check.proofs.rows.report_of_parts.Goals as goal

pub returns-in_err-headers : goal.returns-in_err-headers
returns-in_err-headers g c =
    let r : Result Report Stop = c.from_residual.result in
    let stop : Stop = c.in_err-headers.field-0.0 in
    record {
      report = λ tells. no-value r stop _ c.from_residual.ensures.1;
      looks = c.read_headers.ensures.reads.book.looks;
      ends = read-fails {T = Unit {0}} r stop c.from_residual.ensures.1 (record { cause = c.in_err-headers.ensures.reads.cause; no_fault = tt });
    }

pub returns-in_err-id : goal.returns-in_err-id
returns-in_err-id g c =
    let r : Result Report Stop = c.from_residual-in_err-id.result in
    record {
      report = λ tells. no-value r Memory _ c.from_residual-in_err-id.ensures.1;
      looks = c.read_headers.ensures.reads.book.looks;
      ends = read-memory r c.in_ok-headers.ensures.reads.no_fault c.from_residual-in_err-id.ensures.1;
    }

pub returns-in-Some : goal.returns-in-Some
returns-in-Some g c =
    let now : List ℕ = image (g.P.PageBook.place c.args.book.now) (g.H.Host.outside c.args.host.now).now in
    let h = c.in_ok-headers.ensures.headers in
    record {
      report = λ tells. at-parts now h.live (h.are.of_image tells) c.in-Some.id
          (sym (broken-is h.live c.in_ok-headers.headers.items (headers-both h.live c.in_ok-headers.headers.items h.headers_are h.rising))
          ∙ sym (c.in_ok-id.ensures ∙ ap broken_in c.deref.ensures.value) ∙ c.in-Some.is);
      looks = c.read_headers.ensures.reads.book.looks;
      ends = record { cause = tt; no_fault = c.in_ok-headers.ensures.reads.no_fault };
    }

pub lies-requires : goal.lies-requires
lies-requires g c = λ tells.
    let now : List ℕ = image (g.P.PageBook.place c.args.book.now) (g.H.Host.outside c.args.host.now).now in
    let h = c.in_ok-headers.ensures.headers in
    some-parts now h.live (h.are.of_image tells) (c.requires.no_objects tells)
    (sym (broken-is h.live c.in_ok-headers.headers.items (headers-both h.live c.in_ok-headers.headers.items h.headers_are h.rising))
    ∙ sym (c.in_ok-id.ensures ∙ ap broken_in c.deref.ensures.value) ∙ c.in-None.is)

pub returns : goal.returns
returns g c = record {
  report = λ tells. tt;
  looks = c.read_headers.ensures.reads.book.looks;
  ends = record { cause = subst (StopsAt (g.P.PageBook.place c.args.book.now) (g.H.Host.outside c.args.host.now) (g.H.Host.outside c.read_headers.new.host)) (sym c.lies.ensures) c.in_ok-headers.ensures.reads.no_fault; no_fault = tt };
}
