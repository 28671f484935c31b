use Rattle.std.proofs.Common.{None, length, refl, sym, ◌∙◌, ap, arith, rules}
use Rattle.newt_host.specs.Moments.{Moment}
use Rattle.newt_host.specs.Outside.{printed}
use Rattle.newt_memhost.proofs.Keeping.{keeps-added, keeps-none, same-le, same-most}
use Rattle.newt_memhost.proofs.streams.print.Goals as goal

pub returns-then-not-reserve : goal.returns-then-not-reserve
returns-then-not-reserve c =
    let r = c.reserve.ensures in
    record {
      printed = tt;
      appended = tt;
      same = r.past.moment;
      unchanged = r.same_output;
      kept = keeps-none c.args.waiting _ _ c.args.fails c.reserve.result c.args.log.now c.reserve.new.log r.past r.more_log c.requires r.there c.if-not-reserve.true;
      used = same-most c.reserve.new.output c.args.output.now (length c.args.piece.now) r.same_output;
      more = r.more;
    }

pub returns-then-fails : goal.returns-then-fails
returns-then-fails c =
    let r = c.reserve.ensures in
    record {
      printed = tt;
      appended = tt;
      same = c.add.ensures.moment ∙ r.past.moment;
      unchanged = r.same_output;
      kept = keeps-added c.args.waiting (length c.args.piece.now) None c.args.fails _ c.args.log.now c.reserve.new.log c.add.new.self
          r.past r.more_log (r.room c.if-not-reserve.false).log_fits c.add.ensures (omega arith) refl (sym c.if-fails.true);
      used = same-most c.reserve.new.output c.args.output.now (length c.args.piece.now) r.same_output;
      more = r.more;
    }

pub returns : goal.returns
returns c =
    let r = c.reserve.ensures in
    record {
      printed = c.add-2.ensures.moment ∙ ap (λ (m : Moment). printed c.args.piece.now m) r.past.moment;
      appended = search rules;
      same = tt;
      unchanged = tt;
      kept = keeps-added c.args.waiting (length c.args.piece.now) None c.args.fails _ c.args.log.now c.reserve.new.log c.add-2.new.self
          r.past r.more_log (r.room c.if-not-reserve.false).log_fits c.add-2.ensures (same-le (length c.args.piece.now)) refl (sym c.if-fails.false);
      used = search rules;
      more = search rules;
    }
