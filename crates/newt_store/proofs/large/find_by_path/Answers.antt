use Rattle.std.proofs.Common.{◌≡◌, ◌*◌, sym, ◌∙◌, ap}
use Rattle.std.specs.Option.{option_map}
use Rattle.newt_base.specs.Refusals.{first_of}
use Rattle.newt_host.proofs.Outside.{NoFault-refl}
use Rattle.newt_spec_store.specs.Store.{entry_at}
use Rattle.newt_store_change.specs.Entries.{large_checks}
use Rattle.newt_store_change.specs.Faults.{RefusesWith}
use Rattle.newt_store_change.specs.declared.fault.StoreFault.TheVariants.{Stop}
use Rattle.newt_store_catalog.proofs.Exits.{reads-none}
use Rattle.newt_store.specs.Patch.{record_pages}
use Rattle.newt_store.proofs.Ends.{ends-refused, ends-stop}
use Rattle.newt_store.proofs.Larges.{no-entry-due, is-reached, no-path-due, picked}
use Rattle.newt_store.proofs.Patching.{record-bytes, record-at, record-costs}
use Rattle.newt_store.proofs.Planned.{reads-nothing}
use Rattle.newt_store.proofs.Unanswered.{no-value, by-error}
use Rattle.std.proofs.Common.{subst}
use Rattle.newt_store_catalog.proofs.Lying.{there-found}
use Rattle.newt_store.proofs.Opened.{can-open, has-record}
use Rattle.newt_store.proofs.large.find_by_path.Goals as goal

pub read_row-requires-clause-can : goal.read_row-requires-clause-can
read_row-requires-clause-can g c = can-open c.requires

pub read_row-requires-clause-entry : goal.read_row-requires-clause-entry
read_row-requires-clause-entry g c = has-record c.requires c.args.sig c.args.uid c.in-Some.id (sym c.get.ensures ∙ c.in-Some.is)

pub returns-in_default : goal.returns-in_default
returns-in_default g c =
    let o = g.H.Host.outside c.args.host.now in
    record {
      there = tt;
      finds = λ tells s stands upto. record {
        found = tt;
        refused = no-entry-due c.args.catalog.now s _ stands c.args.sig c.args.uid c.args.path.now upto (sym c.get.ensures ∙ c.in_default.is);
        costs = reads-nothing (g.P.PageBook.place c.args.book.now) (512 * record_pages (entry_at c.args.sig c.args.uid s)) o;
      };
      reads = record {
        book = reads-none g.P.PageBook.place g.P.PageBook.numbers g.P.PageBook.stands g.H.Host.told c.args.catalog.now.objects c.args.book.now o (can-open c.requires);
        ends = ends-refused tt (NoFault-refl o);
      };
    }

pub returns-in_err-row : goal.returns-in_err-row
returns-in_err-row g c =
    let o = g.H.Host.outside in
    let placed = sym c.get.ensures ∙ c.in-Some.is in
    let r = c.from_residual.result in
    record {
      there = no-value r _ c.from_residual.ensures.0;
      finds = λ tells s stands upto.
          let read = c.read_row.ensures.row tells stands.texts (record-bytes c.args.catalog.now s _ stands c.args.sig c.args.uid c.in-Some.id placed) stands.holds (record-at c.args.catalog.now s _ stands c.args.sig c.args.uid c.in-Some.id placed) in
          let due = RefusesWith (first_of (large_checks c.args.path.now upto (entry_at c.args.sig c.args.uid s))) in
          record {
            found = no-value r _ c.from_residual.ensures.0;
            refused = by-error r (λ f. f ≡ Stop c.in_err-row.field-0.0) due c.from_residual.ensures.1 (λ f e. subst due (sym e) tt);
            costs = record-costs c.args.catalog.now s _ stands c.args.sig c.args.uid c.in-Some.id placed (g.P.PageBook.place c.args.book.now) (o c.args.host.now) (o c.read_row.new.host) read.costs;
          };
      reads = record { book = c.read_row.ensures.reads.book; ends = ends-stop r c.in_err-row.field-0.0 c.from_residual.ensures.1 c.in_err-row.ensures.reads.ends };
    }

pub returns-in_default-row_at_path : goal.returns-in_default-row_at_path
returns-in_default-row_at_path g c =
    let o = g.H.Host.outside in
    let placed = sym c.get.ensures ∙ c.in-Some.is in
    let one = c.in_ok-row.ensures in
    record {
      there = tt;
      finds = λ tells s stands upto.
          let read = one.row tells stands.texts (record-bytes c.args.catalog.now s _ stands c.args.sig c.args.uid c.in-Some.id placed) stands.holds (record-at c.args.catalog.now s _ stands c.args.sig c.args.uid c.in-Some.id placed) in
          record {
            found = tt;
            refused = no-path-due c.args.catalog.now s _ stands c.args.sig c.args.uid c.args.path.now c.in-Some.id placed c.in_ok-row.row read.row upto
                (sym c.row_at_path.ensures ∙ ap (option_map (λ row. row.now)) c.in_default-row_at_path.is);
            costs = record-costs c.args.catalog.now s _ stands c.args.sig c.args.uid c.in-Some.id placed (g.P.PageBook.place c.args.book.now) (o c.args.host.now) (o c.read_row.new.host) read.costs;
          };
      reads = record { book = one.reads.book; ends = ends-refused tt one.reads.ends.no_fault };
    }

pub returns : goal.returns
returns g c =
    let o = g.H.Host.outside in
    let placed = sym c.get.ensures ∙ c.in-Some.is in
    let one = c.in_ok-row.ensures in
    let row = c.in_ok-row.row in
    let large = c.in-Some-row_at_path.large.now in
    let at_path = sym c.row_at_path.ensures ∙ ap (option_map (λ row. row.now)) c.in-Some-row_at_path.is in
    record {
      there = there-found c.args.catalog.now.objects _ row.larges large one.any.there (picked _ row.larges large at_path).2;
      finds = λ tells s stands upto.
          let read = one.row tells stands.texts (record-bytes c.args.catalog.now s _ stands c.args.sig c.args.uid c.in-Some.id placed) stands.holds (record-at c.args.catalog.now s _ stands c.args.sig c.args.uid c.in-Some.id placed) in
          record {
            found = is-reached c.args.catalog.now s _ stands c.args.sig c.args.uid c.args.path.now c.in-Some.id placed row read.row large at_path;
            refused = tt;
            costs = record-costs c.args.catalog.now s _ stands c.args.sig c.args.uid c.in-Some.id placed (g.P.PageBook.place c.args.book.now) (o c.args.host.now) (o c.read_row.new.host) read.costs;
          };
      reads = record { book = one.reads.book; ends = ends-refused tt one.reads.ends.no_fault };
    }
