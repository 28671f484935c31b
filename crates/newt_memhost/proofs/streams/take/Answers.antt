use Rattle.std.proofs.Common.{None, ◌∷◌, length, refl, sym, ◌∙◌, ap, arith}
use Rattle.newt_host.specs.Moments.{Moment, Took}
use Rattle.newt_memhost.proofs.Keeping.{keeps-added, keeps-none, same-le}
use Rattle.newt_memhost.proofs.streams.take.Goals as goal

pub returns-then-not-reserve : goal.returns-then-not-reserve
returns-then-not-reserve c =
    let r = c.reserve.ensures in
    record {
      took = tt;
      same = r.past.moment;
      kept = keeps-none c.args.waiting _ _ c.args.fails c.reserve.result c.args.log.now c.reserve.new.self r.past r.more c.requires r.there c.if-not-reserve.true;
    }

pub returns-then-fails : goal.returns-then-fails
returns-then-fails c =
    let r = c.reserve.ensures in
    record {
      took = tt;
      same = c.add.ensures.moment ∙ r.past.moment;
      kept = keeps-added c.args.waiting (length c.args.piece.now) None c.args.fails _ c.args.log.now c.reserve.new.self c.add.new.self
          r.past r.more (r.room c.if-not-reserve.false) c.add.ensures (omega arith) refl (sym c.if-fails.true);
    }

pub returns : goal.returns
returns c =
    let r = c.reserve.ensures in
    record {
      took = c.add-2.ensures.moment ∙ ap (λ (m : Moment). Took c.args.piece.now ∷ m) r.past.moment;
      same = tt;
      kept = keeps-added c.args.waiting (length c.args.piece.now) None c.args.fails _ c.args.log.now c.reserve.new.self c.add-2.new.self
          r.past r.more (r.room c.if-not-reserve.false) c.add-2.ensures (same-le (length c.args.piece.now)) refl (sym c.if-fails.false);
    }
