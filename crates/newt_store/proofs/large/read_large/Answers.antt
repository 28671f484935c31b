use Rattle.std.proofs.Common.{◌≡◌, ℕ, List, Result, Err, IsErrAnd, sym, subst}
use Rattle.newt_base.specs.Refusals.{first_of}
use Rattle.newt_host.specs.Moments.{Moment, image}
use Rattle.newt_objects.specs.Changing.{HoldsObjects}
use Rattle.newt_spec_store.specs.Store.{Entry, entry_at}
use Rattle.newt_spec_store.specs.Keys.{Path}
use Rattle.newt_store_change.specs.Entries.{ReadsLarge, large_checks}
use Rattle.newt_store_change.specs.Faults.{RefusesWith}
use Rattle.newt_store_change.specs.declared.fault.StoreFault.{StoreFault}
use Rattle.newt_store_change.specs.declared.fault.StoreFault.TheVariants.{Refused, Stop}
use Rattle.std.proofs.Common.{Option, Ok, ◌+◌}
use Rattle.newt_store_catalog.proofs.Exits.{can-on, reads-on}
use Rattle.newt_store_catalog.proofs.Opening.{same-image}
use Rattle.newt_store.proofs.Ends.{ends-fails, ends-after}
use Rattle.newt_store.proofs.Larges.{large-spent, reads-large, record-spent}
use Rattle.newt_store.proofs.Patching.{spends-record, text-there, whole-spent}
use Rattle.newt_store.proofs.large.read_large.Goals as goal

-- a refusal that was due is one of the whole
refused-as : (path : Path) (at many : ℕ) (e : Option Entry) (r : Result (List ℕ) StoreFault) (fault : StoreFault) → IsErrAnd r (λ f. f ≡ fault) → RefusesWith (first_of (large_checks path (at + many) e)) fault → ReadsLarge path at many e r
refused-as path at many e (Ok x) fault fails due = absurd fails
refused-as path at many e (Err f) fault fails due = go f (subst (RefusesWith (first_of (large_checks path (at + many) e))) (sym fails) due) where
  go : (f : StoreFault) → RefusesWith (first_of (large_checks path (at + many) e)) f → ReadsLarge path at many e (Err f)
  go (Refused refusal) due = due
  go (Stop stop) due = tt

pub read_part-requires-clause-can : goal.read_part-requires-clause-can
read_part-requires-clause-can g c = can-on c.find_by_path.ensures.reads.book

pub returns-in_err-object : goal.returns-in_err-object
returns-in_err-object g c =
    let o = g.H.Host.outside in
    record {
      read = λ tells s stands. refused-as c.args.path.now c.args.at c.args.len (entry_at c.args.sig c.args.uid s) c.from_residual.result c.in_err-object.field-0.0 c.from_residual.ensures.1
          (c.in_err-object.ensures.finds tells s stands (c.args.at + c.args.len)).refused;
      costs = λ tells s stands. record-spent c.args.len (g.P.PageBook.place c.args.book.now) (entry_at c.args.sig c.args.uid s) (o c.args.host.now) (o c.find_by_path.new.host) (c.find_by_path.ensures.finds tells s stands (c.args.at + c.args.len)).costs;
      whole = λ tells s stands. spends-record 0 (g.P.PageBook.place c.args.book.now) (entry_at c.args.sig c.args.uid s) (o c.args.host.now) (o c.find_by_path.new.host) (c.find_by_path.ensures.finds tells s stands (c.args.at + c.args.len)).costs;
      reads = record {
        book = c.find_by_path.ensures.reads.book;
        ends = ends-fails c.from_residual.result c.in_err-object.field-0.0 c.from_residual.ensures.1 c.in_err-object.ensures.reads.ends;
      };
    }

pub returns-in-Ok : goal.returns-in-Ok
returns-in-Ok g c =
    let o = g.H.Host.outside in
    let u : ℕ = g.P.PageBook.place c.args.book.now in
    let u' : ℕ = g.P.PageBook.place c.find_by_path.new.book in
    let m : Moment = (o c.args.host.now).now in
    let m' : Moment = (o c.find_by_path.new.host).now in
    let one = c.in_ok-object.ensures in
    let e : image u' m' ≡ image u m = same-image u u' m m' one.reads.book.same_place one.reads.book.looks.moment in
    let cat = c.args.catalog.now in
    let x : ℕ = c.in_ok-object.object in
    record {
      read = λ tells s stands.
          let finds = one.finds tells s stands (c.args.at + c.args.len) in
          let f = finds.found in
          reads-large cat s c.args.sig c.args.uid f.0 x c.args.path.now f.2 f.1 c.args.at c.args.len (Ok c.in-Ok.bytes)
          (c.in-Ok.ensures.part tells stands.texts f.2.bytes (subst (λ (b : List ℕ). HoldsObjects b stands.texts) (sym e) stands.holds) (text-there cat s (image u m) stands c.args.sig c.args.uid f.0 x f.2));
      costs = λ tells s stands.
          let finds = one.finds tells s stands (c.args.at + c.args.len) in
          let f = finds.found in
          large-spent cat s c.args.sig c.args.uid f.0 x c.args.path.now f.2 f.1 c.args.len u u' (o c.args.host.now) (o c.find_by_path.new.host) (o c.read_part.new.host) one.reads.book.same_place finds.costs c.read_part.ensures.costs;
      whole = λ tells s stands.
          let finds = one.finds tells s stands (c.args.at + c.args.len) in
          let f = finds.found in
          whole-spent cat s c.args.sig c.args.uid f.0 x f.2 u u' (o c.args.host.now) (o c.find_by_path.new.host) (o c.read_part.new.host) one.reads.book.same_place finds.costs
          (c.read_part.ensures.few tells stands.texts f.2.bytes (subst (λ (b : List ℕ). HoldsObjects b stands.texts) (sym e) stands.holds) (text-there cat s (image u m) stands c.args.sig c.args.uid f.0 x f.2));
      reads = record {
        book = reads-on one.reads.book c.read_part.ensures.reads.book;
        ends = ends-after _ one.reads.book.same_place one.reads.book.looks (one.reads.ends.no_fault tt) c.in-Ok.ensures.reads.ends;
      };
    }

pub returns-in-Err : goal.returns-in-Err
returns-in-Err g c =
    let o = g.H.Host.outside in
    let u : ℕ = g.P.PageBook.place c.args.book.now in
    let u' : ℕ = g.P.PageBook.place c.find_by_path.new.book in
    let m : Moment = (o c.args.host.now).now in
    let m' : Moment = (o c.find_by_path.new.host).now in
    let one = c.in_ok-object.ensures in
    let e : image u' m' ≡ image u m = same-image u u' m m' one.reads.book.same_place one.reads.book.looks.moment in
    let cat = c.args.catalog.now in
    let x : ℕ = c.in_ok-object.object in
    record {
      read = λ tells s stands.
          let finds = one.finds tells s stands (c.args.at + c.args.len) in
          let f = finds.found in
          reads-large cat s c.args.sig c.args.uid f.0 x c.args.path.now f.2 f.1 c.args.at c.args.len (Err c.in-Err.fault)
          (c.in-Err.ensures.part tells stands.texts f.2.bytes (subst (λ (b : List ℕ). HoldsObjects b stands.texts) (sym e) stands.holds) (text-there cat s (image u m) stands c.args.sig c.args.uid f.0 x f.2));
      costs = λ tells s stands.
          let finds = one.finds tells s stands (c.args.at + c.args.len) in
          let f = finds.found in
          large-spent cat s c.args.sig c.args.uid f.0 x c.args.path.now f.2 f.1 c.args.len u u' (o c.args.host.now) (o c.find_by_path.new.host) (o c.read_part.new.host) one.reads.book.same_place finds.costs c.read_part.ensures.costs;
      whole = λ tells s stands.
          let finds = one.finds tells s stands (c.args.at + c.args.len) in
          let f = finds.found in
          whole-spent cat s c.args.sig c.args.uid f.0 x f.2 u u' (o c.args.host.now) (o c.find_by_path.new.host) (o c.read_part.new.host) one.reads.book.same_place finds.costs
          (c.read_part.ensures.few tells stands.texts f.2.bytes (subst (λ (b : List ℕ). HoldsObjects b stands.texts) (sym e) stands.holds) (text-there cat s (image u m) stands c.args.sig c.args.uid f.0 x f.2));
      reads = record {
        book = reads-on one.reads.book c.read_part.ensures.reads.book;
        ends = ends-after _ one.reads.book.same_place one.reads.book.looks (one.reads.ends.no_fault tt) c.in-Err.ensures.reads.ends;
      };
    }
