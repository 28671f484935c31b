use Rattle.std.proofs.Common.{◌*◌, ◌+◌, ◌∙◌, ℕ, length, refl, sym, subst}
use Rattle.newt_host.specs.Outside.{Spends}
use Rattle.newt_spec_image.specs.Objects.{pages_for}
use Rattle.newt_objects.specs.Held.{held}
use Rattle.newt_vbo.specs.Calls.{BlamesNone}
use Rattle.newt_vbo.specs.declared.fault.RangeFault.TheVariants.{Range}
use Rattle.newt_store_catalog.proofs.Exits.{with-kept}
use Rattle.newt_store_catalog.proofs.Opening.{the-fault}
use Rattle.newt_store.proofs.Ends.{ends-refused}
use Rattle.newt_store.proofs.Patching.{range-few}
use Rattle.newt_store.proofs.Planned.{reads-nothing}
use Rattle.newt_store.proofs.Larges.{never, other, part-inside, part-is, part-past, range-spent}
use Rattle.newt_store.proofs.large.read_part.Goals as goal

pub returns-in-Ok : goal.returns-in-Ok
returns-in-Ok g c =
    let o = g.H.Host.outside in
    let u : ℕ = g.P.PageBook.place c.args.book.now in
    let e = c.in-Ok.ensures in
    record {
      part = λ tells texts text holds is. (
        part-inside g.H.Host.told c.args.objects.now (g.P.PageBook.numbers c.args.book.now) u (o c.args.host.now) c.requires.can.kept tells texts holds c.args.id text is (c.args.at + c.args.len)
            (never Range c.in-Ok.bytes (held c.args.objects.now c.args.id) (c.args.at + c.args.len) e.reads.past),
        c.of.ensures ∙ part-is g.H.Host.told c.args.objects.now (g.P.PageBook.numbers c.args.book.now) u (o c.args.host.now) c.requires.can.kept tells texts holds c.args.id text is c.args.at c.args.len c.in-Ok.bytes.items
            (e.bytes tells c.requires.can.kept.are.live (c.requires.can.kept.are.are.of_image tells)),
      );
      costs = range-spent c.args.at c.args.len u (o c.args.host.now) (o c.read_range.new.host) e.reads.costs;
      few = λ tells texts text holds is. range-few c.args.at c.args.len (length text) u (o c.args.host.now) (o c.read_range.new.host) e.reads.costs
          (part-inside g.H.Host.told c.args.objects.now (g.P.PageBook.numbers c.args.book.now) u (o c.args.host.now) c.requires.can.kept tells texts holds c.args.id text is (c.args.at + c.args.len)
          (never Range c.in-Ok.bytes (held c.args.objects.now c.args.id) (c.args.at + c.args.len) e.reads.past));
      reads = record { book = with-kept c.requires.can.kept c.read_range.ensures.reads.book; ends = ends-refused tt (e.reads.no_fault tt) };
    }

pub returns-in-Err-Range : goal.returns-in-Err-Range
returns-in-Err-Range g c =
    let o = g.H.Host.outside in
    let u : ℕ = g.P.PageBook.place c.args.book.now in
    let e = c.read_range.ensures in
    let is-range = the-fault c.in-Err-Range.is c.in-Err-Range.field-0-is in
    record {
      part = λ tells texts text holds is. (
        refl,
        part-past g.H.Host.told c.args.objects.now (g.P.PageBook.numbers c.args.book.now) u (o c.args.host.now) c.requires.can.kept tells texts holds c.args.id text is (c.args.at + c.args.len) (e.reads.range is-range),
      );
      costs = range-spent c.args.at c.args.len u (o c.args.host.now) (o c.read_range.new.host) e.reads.costs;
      few = λ tells texts text holds is. subst (λ h. Spends u 0 (512 * pages_for (length text)) (o c.args.host.now) (o h)) (sym (e.unchanged is-range).1)
          (reads-nothing u (512 * pages_for (length text)) (o c.args.host.now));
      reads = record { book = with-kept c.requires.can.kept e.reads.book; ends = ends-refused tt (e.reads.no_fault (subst (λ r. BlamesNone r) (sym is-range) tt)) };
    }

pub returns-in-Err-Memory : goal.returns-in-Err-Memory
returns-in-Err-Memory g c =
    let o = g.H.Host.outside in
    record {
      part = λ tells texts text holds is. tt;
      costs = range-spent c.args.at c.args.len (g.P.PageBook.place c.args.book.now) (o c.args.host.now) (o c.read_range.new.host) c.read_range.ensures.reads.costs;
      few = λ tells texts text holds is. range-few c.args.at c.args.len (length text) (g.P.PageBook.place c.args.book.now) (o c.args.host.now) (o c.read_range.new.host) c.read_range.ensures.reads.costs
          (part-inside g.H.Host.told c.args.objects.now (g.P.PageBook.numbers c.args.book.now) (g.P.PageBook.place c.args.book.now) (o c.args.host.now) c.requires.can.kept tells texts holds c.args.id text is (c.args.at + c.args.len)
          (other (the-fault c.in-Err-Memory.is c.in-Err-Memory.field-0-is) (λ k. cc) (held c.args.objects.now c.args.id) (c.args.at + c.args.len) c.read_range.ensures.reads.past));
      reads = record { book = with-kept c.requires.can.kept c.read_range.ensures.reads.book; ends = record { cause = c.read_range.ensures.reads.no_fault (subst (λ r. BlamesNone r) (sym (the-fault c.in-Err-Memory.is c.in-Err-Memory.field-0-is)) tt); no_fault = λ goes. absurd goes } };
    }

pub returns-in-Err-Device : goal.returns-in-Err-Device
returns-in-Err-Device g c =
    let o = g.H.Host.outside in
    record {
      part = λ tells texts text holds is. tt;
      costs = range-spent c.args.at c.args.len (g.P.PageBook.place c.args.book.now) (o c.args.host.now) (o c.read_range.new.host) c.read_range.ensures.reads.costs;
      few = λ tells texts text holds is. range-few c.args.at c.args.len (length text) (g.P.PageBook.place c.args.book.now) (o c.args.host.now) (o c.read_range.new.host) c.read_range.ensures.reads.costs
          (part-inside g.H.Host.told c.args.objects.now (g.P.PageBook.numbers c.args.book.now) (g.P.PageBook.place c.args.book.now) (o c.args.host.now) c.requires.can.kept tells texts holds c.args.id text is (c.args.at + c.args.len)
          (other (the-fault c.in-Err-Device.is c.in-Err-Device.field-0-is) (λ k. cc) (held c.args.objects.now c.args.id) (c.args.at + c.args.len) c.read_range.ensures.reads.past));
      reads = record { book = with-kept c.requires.can.kept c.read_range.ensures.reads.book; ends = record { cause = (c.unit-unit.ensures, c.read_range.ensures.reads.cause (the-fault c.in-Err-Device.is c.in-Err-Device.field-0-is)); no_fault = λ goes. absurd goes } };
    }
