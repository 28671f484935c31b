use Rattle.std.proofs.Common.{◌≡◌, ◌+◌, ℕ, List, Option, Some, None, Result, get_or, sym, subst, arith}
use Rattle.newt_host.specs.Moments.{image}
use Rattle.newt_host.proofs.Outside.{NoFault-refl, NoFault-append}
use Rattle.newt_nsof_flat.specs.Stream.{stream_graph}
use Rattle.newt_objects.specs.Held.{held}
use Rattle.newt_objects_commit.specs.Places.{place_of}
use Rattle.newt_pagebook.specs.declared.book.Stop.{Stop}
use Rattle.newt_soupdir.specs.Bare.{bare_store}
use Rattle.newt_spec_check.specs.Damage.{bad_entry}
use Rattle.newt_spec_image.specs.Records.{version}
use Rattle.std.specs.FinMap as map
use Rattle.newt_store_catalog.specs.Calls.{IsDirectory}
use Rattle.newt_store_catalog.specs.Opening.{OfObjects}
use Rattle.newt_store_catalog.proofs.Exits.{no-value, read-after, read-fails, reads-none, reads-on}
use Rattle.newt_store_catalog.proofs.Listed.{listed-next, listed-end}
use Rattle.newt_store_catalog.proofs.Opening.{kept-none, same-image}
use Rattle.newt_check.specs.Seen.{HasSeen}
use Rattle.newt_check.proofs.Records.{none-found, seen-all}
use Rattle.newt_check.proofs.entries.bad_record.Goals as goal

pub loop-id-init : goal.loop-id-init
loop-id-init g c = record {
  reads = reads-none g.P.PageBook.place g.P.PageBook.numbers g.P.PageBook.stands g.H.Host.told c.args.objects.now c.args.book.now (g.H.Host.outside c.args.host.now) c.requires.can;
  no_fault = NoFault-refl (g.H.Host.outside c.args.host.now);
  seen = c.requires.none;
  ahead = c.requires.ids;
}

pub see_object-requires-clause-root : goal.see_object-requires-clause-root
see_object-requires-clause-root g c =
    let i = c.loop-id.invariant in
    subst (λ (b : List ℕ). IsDirectory g.H.Host.told b c.args.directory.now) (sym (same-image _ _ _ _ i.reads.same_place i.reads.looks.moment)) c.requires.root

pub see_object-requires-clause-next : goal.see_object-requires-clause-next
see_object-requires-clause-next g c = (listed-next (held c.args.objects.now) (c.loop-id.last + 1) c.args.ids.now c.loop-id.id-index (omega arith) c.loop-id.invariant.ahead).0

pub see_object-requires-clause-seen : goal.see_object-requires-clause-seen
see_object-requires-clause-seen g c =
    let i = c.loop-id.invariant in
    subst (λ (b : List ℕ). HasSeen g.H.Host.told b c.loop-id.last (bare_store c.args.directory.now) (place_of c.loop-id.seen.places) c.loop-id.seen.counts) (sym (same-image _ _ _ _ i.reads.same_place i.reads.looks.moment)) i.seen

pub loop-id-preserved : goal.loop-id-preserved
loop-id-preserved g c =
    let i = c.loop-id.invariant in
    let e = c.in_ok-see_object.ensures in
    record {
      reads = reads-on i.reads e.reads.book;
      no_fault = NoFault-append i.no_fault e.reads.ends.no_fault;
      seen = subst (λ (b : List ℕ). HasSeen g.H.Host.told b (get_or c.args.ids.now c.loop-id.id-index 0) (bare_store c.args.directory.now) (place_of c.see_object.new.seen.places) c.see_object.new.seen.counts)
          (same-image _ _ _ _ i.reads.same_place i.reads.looks.moment) (e.seen c.if-not-branch.false);
      ahead = (listed-next (held c.args.objects.now) (c.loop-id.last + 1) c.args.ids.now c.loop-id.id-index (omega arith) i.ahead).1;
    }

pub returns-then-not-branch : goal.returns-then-not-branch
returns-then-not-branch g c =
    let i = c.loop-id.invariant in
    let e = c.in_ok-see_object.ensures in
    let id : ℕ = get_or c.args.ids.now c.loop-id.id-index 0 in
    record {
      row = subst (λ (b : List ℕ). OfObjects g.H.Host.told b (λ texts. Some id ≡ bad_entry stream_graph (version b) (map.entries texts)))
          (same-image _ _ _ _ i.reads.same_place i.reads.looks.moment) (λ tells texts h. sym (e.bad c.if-not-branch.true tells texts h));
      counted = λ is. absurd (let e : Some id ≡ None = is in cc);
      reads = record { book = reads-on i.reads e.reads.book; ends = record { cause = tt; no_fault = NoFault-append i.no_fault e.reads.ends.no_fault } };
    }

pub returns-in_err-see_object : goal.returns-in_err-see_object
returns-in_err-see_object g c =
    let i = c.loop-id.invariant in
    let r : Result (Option ℕ) Stop = c.from_residual.result in
    let stop : Stop = c.in_err-see_object.field-0.0 in
    record {
      row = no-value r stop _ c.from_residual.ensures.1;
      counted = no-value r stop _ c.from_residual.ensures.1;
      reads = record {
        book = reads-on i.reads c.see_object.ensures.reads.book;
        ends = read-after r i.reads.same_place i.reads.looks i.no_fault (read-fails {T = Unit {0}} r stop c.from_residual.ensures.1 (record { cause = c.in_err-see_object.ensures.reads.ends.cause; no_fault = tt }));
      };
    }

pub returns : goal.returns
returns g c =
    let i = c.loop-id.invariant in
    let o = g.H.Host.outside c.args.host.now in
    let u : ℕ = g.P.PageBook.place c.args.book.now in
    let end = listed-end (held c.args.objects.now) (c.loop-id.last + 1) c.args.ids.now c.loop-id.id-index (omega arith) i.ahead in
    record {
      row = λ tells texts h. none-found g.H.Host.told c.args.objects.now (g.P.PageBook.numbers c.args.book.now) u o c.requires.can.kept c.args.directory.now c.loop-id.last (place_of c.loop-id.seen.places) c.loop-id.seen.counts
          i.seen c.requires.root.root end tells texts h;
      counted = λ _ tells texts h. seen-all g.H.Host.told (image u o.now) (bare_store c.args.directory.now) c.loop-id.last (place_of c.loop-id.seen.places) c.loop-id.seen.counts i.seen tells texts h
          (λ q from. kept-none g.H.Host.told c.args.objects.now (g.P.PageBook.numbers c.args.book.now) u o c.requires.can.kept tells texts h q (end q from));
      reads = record { book = i.reads; ends = record { cause = tt; no_fault = i.no_fault } };
    }
