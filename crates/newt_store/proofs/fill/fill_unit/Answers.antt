use Rattle.std.proofs.Common.{◌≡◌, ℕ, List, refl, ◌∙◌, subst, arith}
use Rattle.newt_host.specs.Moments.{image, Anything}
use Rattle.newt_host.proofs.Moments.{Leaves-start, Leaves-weaken}
use Rattle.newt_host.specs.Outside.{Spends}
use Rattle.newt_host.proofs.Outside.{NoFault-refl, Spends-widen, Spends-refl, Touches-refl}
use Rattle.newt_pagebook.specs.Book.{format_bytes}
use Rattle.newt_objects.specs.Changing.{HoldsObjects}
use Rattle.newt_spec_store.specs.Cost.{cost}
use Rattle.newt_spec_store.specs.OfImage.{blocks_of}
use Rattle.newt_objects_commit.proofs.Committing.{blocks-are}
use Rattle.newt_store.proofs.Filled.{filled-read}
use Rattle.newt_store.proofs.Fresh.{formatted-holds}
use Rattle.newt_store.proofs.Unanswered.{no-value}
use Rattle.newt_store_catalog.proofs.Exits.{read-memory}
use Rattle.newt_store.proofs.fill.fill_unit.Goals as goal

pub returns-in_err-batch : goal.returns-in_err-batch
returns-in_err-batch g c = λ s is.
    let o = g.H.Host.outside c.args.host.now in
    record {
      formatted = λ tells. no-value c.from_residual.result _ c.from_residual.ensures.0;
      laid = λ tells. no-value c.from_residual.result _ c.from_residual.ensures.0;
      durable = λ tells. no-value c.from_residual.result _ c.from_residual.ensures.0;
      open_after = λ tells. no-value c.from_residual.result _ c.from_residual.ensures.0;
      unchanged = λ is. refl;
      any_moment = λ tells. Leaves-start {P = Anything} (λ left may. tt);
      costs = Spends-widen 0 0 (format_bytes (cost s)) 0 (omega arith) (omega arith) (Spends-refl c.args.unit o);
      wears = record { erased = omega arith; synced = omega arith };
      alone = Touches-refl c.args.unit o;
      ends = read-memory c.from_residual.result (NoFault-refl o) c.from_residual.ensures.1;
    }

pub returns-in-Ok : goal.returns-in-Ok
returns-in-Ok g c = λ s is. record {
  formatted = λ tells.
      let img : List ℕ = image c.args.unit (g.H.Host.outside c.format.new.host).now in
      let w = c.in_ok-batch.ensures in
      let fresh = (c.in-Ok.ensures.formatted tells).0 in
      let holds : HoldsObjects img w.texts = formatted-holds w.objects c.in_ok-batch.batch w.texts img w.way fresh in
      let size : blocks_of img ≡ (g.H.Host.outside c.args.host.now).blocks c.args.unit = blocks-are img ((g.H.Host.outside c.format.new.host).blocks c.args.unit) (g.met.H.Host.sized c.format.new.host c.args.unit tells) ∙ c.format.ensures.alone.cards.blocks c.args.unit in
      let lies = w.lies ((g.H.Host.outside c.args.host.now).blocks c.args.unit) s is in
      filled-read s ((g.H.Host.outside c.args.host.now).blocks c.args.unit) img w.texts lies.0 lies.1 holds fresh.blank.is_open.new size is.is_valid;
  laid = λ tells. (c.in_ok-batch.batch, (c.in-Ok.ensures.formatted tells).0);
  durable = λ tells. (c.in-Ok.ensures.formatted tells).1;
  open_after = λ tells. (c.in-Ok.ensures.formatted tells).0.blank;
  unchanged = λ is. absurd (cc);
  any_moment = λ tells. Leaves-weaken (λ left is. tt) (c.format.ensures.any_moment tells);
  costs =
      let o = g.H.Host.outside in
      let puts = c.in_ok-batch.ensures.costs ((o c.args.host.now).blocks c.args.unit) s is in
      subst (λ (n : ℕ). Spends c.args.unit (format_bytes n) 0 (o c.args.host.now) (o c.format.new.host)) puts c.format.ensures.costs;
  wears = c.format.ensures.wears;
  alone = c.format.ensures.alone;
  ends = record { cause = tt; no_fault = c.in-Ok.ensures.no_fault };
}

pub returns : goal.returns
returns g c = λ s is. record {
  formatted = λ tells. tt;
  laid = λ tells. tt;
  durable = λ tells. tt;
  open_after = λ tells. tt;
  unchanged = c.in-Err.ensures.unchanged;
  any_moment = λ tells. Leaves-weaken (λ left is. tt) (c.format.ensures.any_moment tells);
  costs =
      let o = g.H.Host.outside in
      let puts = c.in_ok-batch.ensures.costs ((o c.args.host.now).blocks c.args.unit) s is in
      subst (λ (n : ℕ). Spends c.args.unit (format_bytes n) 0 (o c.args.host.now) (o c.format.new.host)) puts c.format.ensures.costs;
  wears = c.format.ensures.wears;
  alone = c.format.ensures.alone;
  ends = record { cause = c.in-Err.ensures.cause; no_fault = tt };
}
