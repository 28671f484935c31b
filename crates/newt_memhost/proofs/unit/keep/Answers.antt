use Rattle.std.proofs.Common.{inl, inr, [], Some, refl, sym, ◌∙◌, ap}
use Rattle.newt_host.specs.Moments.{Moment}
use Rattle.newt_memhost.specs.Happened.{after}
use Rattle.newt_memhost.specs.Past.{unit_at}
use Rattle.newt_memhost.proofs.Keeping.{keeps-added, keeps-none, same-le}
use Rattle.newt_memhost.proofs.unit.keep.Goals as goal

pub returns-then-not-reserve : goal.returns-then-not-reserve
returns-then-not-reserve c =
    let r = c.reserve.ensures in
    record { event = inl r.past.moment; kept = keeps-none c.args.waiting _ _ c.args.fails c.reserve.result c.args.log.now c.reserve.new.self r.past r.more c.requires.waits r.there c.if-not-reserve.true }

pub returns-then-fails : goal.returns-then-fails
returns-then-fails c =
    let r = c.reserve.ensures in
    record {
      event = inr (c.add.ensures.moment ∙ ap (λ (m : Moment). after c.args.entry [] m) r.past.moment);
      kept = keeps-added c.args.waiting 0 (unit_at (Some c.args.entry)) c.args.fails _ c.args.log.now c.reserve.new.self c.add.new.self
          r.past r.more (r.room c.if-not-reserve.false) c.add.ensures (same-le 0) refl (sym c.if-fails.true);
    }

pub returns : goal.returns
returns c =
    let r = c.reserve.ensures in
    record {
      event = inr (c.add.ensures.moment ∙ ap (λ (m : Moment). after c.args.entry [] m) r.past.moment);
      kept = keeps-added c.args.waiting 0 (unit_at (Some c.args.entry)) c.args.fails _ c.args.log.now c.reserve.new.self c.add.new.self
          r.past r.more (r.room c.if-not-reserve.false) c.add.ensures (same-le 0) refl (sym c.if-fails.false);
    }
