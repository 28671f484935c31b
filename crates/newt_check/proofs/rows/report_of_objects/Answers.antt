use Rattle.std.proofs.Common.{◌≡◌, ◌≤◌, ℕ, List, length, Option, Some, None, MatchOption, Result, sym, ◌∙◌, ap, subst}
use Rattle.std.specs.FinMap as map
use Rattle.std.specs.FinSet as set
use Rattle.newt_host.specs.Moments.{image}
use Rattle.newt_host.proofs.Outside.{NoFault-append}
use Rattle.newt_nsof_flat.specs.Stream.{stream_graph}
use Rattle.newt_spec_image.specs.Records.{version}
use Rattle.newt_objects.specs.Changing.{HoldsObjects}
use Rattle.newt_objects.specs.Held.{held}
use Rattle.newt_pagebook.specs.declared.book.Stop.{Stop}
use Rattle.newt_pagebook.specs.declared.book.Stop.TheVariants.{Memory}
use Rattle.newt_soupdir.specs.Bare.{bare_store}
use Rattle.newt_spec_check.specs.Damage.{bad_entry}
use Rattle.newt_store_catalog.specs.Calls.{IsDirectory}
use Rattle.newt_store_catalog.specs.Opening.{OfObjects}
use Rattle.newt_store_catalog.proofs.Exits.{can-on, no-value, read-after, read-fails, read-memory, reads-on}
use Rattle.newt_store_catalog.proofs.Opening.{kept-holds, kept-some, kept-there, same-image}
use Rattle.newt_store_catalog.proofs.OpeningPlaces.{counted}
use Rattle.newt_check.specs.declared.report.Report.{Report}
use Rattle.newt_check.proofs.Damages.{at-directory, at-entry}
use Rattle.newt_check.proofs.Listed.{listed-are}
use Rattle.newt_check.proofs.Records.{root-is, seen-none}
use Rattle.newt_objects.specs.Listed.{AreNexts}
use Rattle.newt_check.proofs.Stores.{blocks-are}
use Rattle.newt_check.proofs.rows.report_of_objects.Goals as goal

-- the directory was found, or none was
some-found : {A : Type 0} (P : Type 0) (Q : A → Type 0) (o : Option A) (x : A) → o ≡ Some x → MatchOption o P Q → Q x
some-found P Q o x is m = subst (λ o. MatchOption o P Q) is m

none-found : {A : Type 0} (P : Type 0) (Q : A → Type 0) (o : Option A) → o ≡ None → MatchOption o P Q → P
none-found P Q o is m = subst (λ o. MatchOption o P Q) is m

pub returns-in_err-directory : goal.returns-in_err-directory
returns-in_err-directory g c =
    let r : Result Report Stop = c.from_residual.result in
    let stop : Stop = c.in_err-directory.field-0.0 in
    record {
      report = λ tells. no-value r stop _ c.from_residual.ensures.1;
      reads = record {
        book = c.find_root.ensures.reads.book;
        ends = read-fails {T = Unit {0}} r stop c.from_residual.ensures.1 (record { cause = c.in_err-directory.ensures.reads.ends.cause; no_fault = tt });
      };
    }

pub returns-in_default : goal.returns-in_default
returns-in_default g c =
    let o = g.H.Host.outside c.args.host.now in
    let u : ℕ = g.P.PageBook.place c.args.book.now in
    let now : List ℕ = image u o.now in
    record {
      report = λ tells.
          let k = kept-holds g.H.Host.told c.args.objects.now (g.P.PageBook.numbers c.args.book.now) u o c.requires.can.kept tells in
          at-directory now k.0 k.1 (none-found _ _ c.in_ok-directory.field-0 c.in_default.is c.in_ok-directory.ensures.root tells k.0 k.1);
      reads = record { book = c.find_root.ensures.reads.book; ends = record { cause = tt; no_fault = c.in_ok-directory.ensures.reads.ends.no_fault } };
    }

pub returns-in_err-ids : goal.returns-in_err-ids
returns-in_err-ids g c =
    let r : Result Report Stop = c.from_residual-in_err-ids.result in
    record {
      report = λ tells. no-value r Memory _ c.from_residual-in_err-ids.ensures.1;
      reads = record { book = c.find_root.ensures.reads.book; ends = read-memory r c.in_ok-directory.ensures.reads.ends.no_fault c.from_residual-in_err-ids.ensures.1 };
    }

pub bad_record-requires-clause-can : goal.bad_record-requires-clause-can
bad_record-requires-clause-can g c = can-on c.find_root.ensures.reads.book

pub bad_record-requires-clause-root : goal.bad_record-requires-clause-root
bad_record-requires-clause-root g c =
    let one = c.find_root.ensures.reads.book in
    subst (λ (b : List ℕ). IsDirectory g.H.Host.told b c.in-Some.directory) (sym (same-image _ _ _ _ one.same_place one.looks.moment))
    (some-found _ _ c.in_ok-directory.field-0 c.in-Some.directory c.in-Some.is c.in_ok-directory.ensures.root)

pub bad_record-requires-clause-ids : goal.bad_record-requires-clause-ids
bad_record-requires-clause-ids g c = subst (λ (ids : List ℕ). AreNexts (held c.args.objects.now) 1 ids) (sym c.deref.ensures.value) c.in_ok-ids.ensures

pub bad_record-requires-clause-none : goal.bad_record-requires-clause-none
bad_record-requires-clause-none g c = seen-none g.H.Host.told _ _ _ _ c.nothing_seen-seen.ensures.places c.nothing_seen-seen.ensures.counts

pub returns-in_err-id : goal.returns-in_err-id
returns-in_err-id g c =
    let r : Result Report Stop = c.from_residual-in_err-id.result in
    let stop : Stop = c.in_err-id.field-0.0 in
    let one = c.find_root.ensures.reads.book in
    record {
      report = λ tells. no-value r stop _ c.from_residual-in_err-id.ensures.1;
      reads = record {
        book = reads-on one c.bad_record.ensures.reads.book;
        ends = read-after r one.same_place one.looks c.in_ok-directory.ensures.reads.ends.no_fault
            (read-fails {T = Unit {0}} r stop c.from_residual-in_err-id.ensures.1 (record { cause = c.in_err-id.ensures.reads.ends.cause; no_fault = tt }));
      };
    }

pub returns-in-Some-2 : goal.returns-in-Some-2
returns-in-Some-2 g c =
    let o = g.H.Host.outside c.args.host.now in
    let u : ℕ = g.P.PageBook.place c.args.book.now in
    let now : List ℕ = image u o.now in
    let one = c.find_root.ensures.reads.book in
    record {
      report = λ tells.
          let k = kept-holds g.H.Host.told c.args.objects.now (g.P.PageBook.numbers c.args.book.now) u o c.requires.can.kept tells in
          let d = some-found _ _ c.in_ok-directory.field-0 c.in-Some.directory c.in-Some.is c.in_ok-directory.ensures.root in
          let row = subst (λ (b : List ℕ). OfObjects g.H.Host.told b (λ texts. c.in_ok-id.field-0 ≡ bad_entry stream_graph (version b) (map.entries texts)))
          (same-image _ _ _ _ one.same_place one.looks.moment) c.in_ok-id.ensures.row in
          at-entry now k.0 k.1 (bare_store c.in-Some.directory) (root-is now c.in-Some.directory k.0 (d.root tells k.0 k.1)) c.in-Some-2.id (sym (row tells k.0 k.1) ∙ c.in-Some-2.is);
      reads = record {
        book = reads-on one c.bad_record.ensures.reads.book;
        ends = record { cause = tt; no_fault = NoFault-append c.in_ok-directory.ensures.reads.ends.no_fault c.in_ok-id.ensures.reads.ends.no_fault };
      };
    }

pub report_of_store-requires-clause-formed : goal.report_of_store-requires-clause-formed
report_of_store-requires-clause-formed g c = (some-found _ _ c.in_ok-directory.field-0 c.in-Some.directory c.in-Some.is c.in_ok-directory.ensures.root).formed

pub report_of_store-requires-clause-enough : goal.report_of_store-requires-clause-enough
report_of_store-requires-clause-enough g c =
    let b = g.met.P.PageBook.has_banks g.H.Host.told c.bad_record.new.book (g.H.Host.outside c.bad_record.new.host) c.bad_record.ensures.reads.book.stood in
    subst (λ (n : ℕ). 13 ≤ n) (sym (c.blocks-blocks.ensures ∙ ap (λ (v : ℕ). (g.H.Host.outside c.bad_record.new.host).blocks v) c.unit.ensures)) b.0

pub report_of_store-requires-clause-few : goal.report_of_store-requires-clause-few
report_of_store-requires-clause-few g c =
    let b = g.met.P.PageBook.has_banks g.H.Host.told c.bad_record.new.book (g.H.Host.outside c.bad_record.new.host) c.bad_record.ensures.reads.book.stood in
    subst (λ (n : ℕ). n ≤ 4099) (sym (c.blocks-blocks.ensures ∙ ap (λ (v : ℕ). (g.H.Host.outside c.bad_record.new.host).blocks v) c.unit.ensures)) b.1

pub returns : goal.returns
returns g c =
    let o = g.H.Host.outside in
    let place = g.P.PageBook.place in
    let u : ℕ = place c.args.book.now in
    let now : List ℕ = image u (o c.args.host.now).now in
    let one = c.find_root.ensures.reads.book in
    let two = c.bad_record.ensures.reads.book in
    let kept = c.requires.can.kept in
    record {
      report = λ tells.
          let k = kept-holds g.H.Host.told c.args.objects.now (g.P.PageBook.numbers c.args.book.now) u (o c.args.host.now) kept tells in
          let d = some-found _ _ c.in_ok-directory.field-0 c.in-Some.directory c.in-Some.is c.in_ok-directory.ensures.root in
          let same = same-image _ _ _ _ one.same_place one.looks.moment in
          let then : HoldsObjects (image (place c.find_root.new.book) (o c.find_root.new.host).now) k.0 = subst (λ (b : List ℕ). HoldsObjects b k.0) (sym same) k.1 in
          let row = subst (λ (b : List ℕ). OfObjects g.H.Host.told b (λ texts. c.in_ok-id.field-0 ≡ bad_entry stream_graph (version b) (map.entries texts)))
          same c.in_ok-id.ensures.row in
          let seen = c.in_ok-id.ensures.counted c.in_default-2.is tells k.0 then in
          let v : ℕ = place c.bad_record.new.book in
          let last : image v (o c.bad_record.new.host).now ≡ now = same-image _ _ _ _ (two.same_place ∙ one.same_place) (two.looks.moment ∙ one.looks.moment) in
          c.report_of_store.ensures now k.0 (record {
            holds = k.1;
            root = d.root tells k.0 k.1;
            records = sym (row tells k.0 k.1) ∙ c.in_default-2.is;
            bytes = seen.1;
            ids_are = c.deref-2.ensures.value ∙ listed-are (held c.args.objects.now) c.in_ok-ids.ids.items k.0 c.in_ok-ids.ensures
                (kept-there g.H.Host.told c.args.objects.now (g.P.PageBook.numbers c.args.book.now) u (o c.args.host.now) kept tells k.0 k.1)
                (kept-some g.H.Host.told c.args.objects.now (g.P.PageBook.numbers c.args.book.now) u (o c.args.host.now) kept tells k.0 k.1);
            counted = seen.0;
            blocks_are = blocks-are now _ (ap length (sym last) ∙ g.met.H.Host.sized c.bad_record.new.host v tells) ∙ sym (c.blocks-blocks.ensures ∙ ap (λ (w : ℕ). (o c.bad_record.new.host).blocks w) c.unit.ensures);
            pages_are = c.live.ensures ∙ ap set.len (two.same_numbers ∙ one.same_numbers)
                ∙ counted g.H.Host.told c.args.objects.now (g.P.PageBook.numbers c.args.book.now) u (o c.args.host.now) kept tells k.0 k.1;
          });
      reads = record {
        book = reads-on one two;
        ends = record { cause = tt; no_fault = NoFault-append c.in_ok-directory.ensures.reads.ends.no_fault c.in_ok-id.ensures.reads.ends.no_fault };
      };
    }
