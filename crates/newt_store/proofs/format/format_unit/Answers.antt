use Rattle.std.proofs.Common.{◌≡◌, ◌≤◌, ℕ, List, refl, sym, ◌∙◌, subst, arith}
use Rattle.std.specs.FinMap as map
use Rattle.newt_host.specs.Moments.{image, Anything}
use Rattle.newt_spec_image.specs.Pages.{Change}
use Rattle.newt_host.proofs.Moments.{Leaves-start, Leaves-weaken}
use Rattle.newt_host.specs.Outside.{Spends}
use Rattle.newt_host.proofs.Outside.{NoFault-refl, Spends-refl, Spends-widen, Touches-refl}
use Rattle.newt_pagebook.specs.Book.{format_bytes}
use Rattle.newt_objects.specs.Changing.{IsUnderWay, HoldsObjects}
use Rattle.newt_spec_store.specs.Cost.{cost, directory_bytes}
use Rattle.newt_spec_store.specs.OfImage.{blocks_of}
use Rattle.newt_spec_store.specs.Store.{new_store}
use Rattle.newt_objects_commit.proofs.Committing.{blocks-are}
use Rattle.newt_store.proofs.Fresh.{start-empty, first-page, formatted-holds, fresh-pages, fresh-read, short-name}
use Rattle.newt_store.proofs.Unanswered.{no-value}
use Rattle.newt_store_catalog.proofs.Exits.{read-memory}
use Rattle.newt_store.proofs.format.format_unit.Goals as goal

pub returns-in_err-bytes-clause-unit : goal.returns-in_err-bytes-clause-unit
returns-in_err-bytes-clause-unit g c =
    let o = g.H.Host.outside c.args.host.now in
    record {
      formatted = λ tells. no-value c.from_residual.result _ c.from_residual.ensures.0;
      laid = λ tells. no-value c.from_residual.result _ c.from_residual.ensures.0;
      durable = λ tells. no-value c.from_residual.result _ c.from_residual.ensures.0;
      open_after = λ tells. no-value c.from_residual.result _ c.from_residual.ensures.0;
      unchanged = λ is. refl;
      any_moment = λ tells. Leaves-start {P = Anything} (λ left may. tt);
      costs = Spends-widen 0 0 (format_bytes (cost (new_store c.args.name.now c.args.sig))) 0 (omega arith) (omega arith) (Spends-refl c.args.unit o);
      wears = record { erased = omega arith; synced = omega arith };
      alone = Touches-refl c.args.unit o;
      ends = read-memory c.from_residual.result (NoFault-refl o) c.from_residual.ensures.1;
    }

pub returns-in_err-plan_put-clause-unit : goal.returns-in_err-plan_put-clause-unit
returns-in_err-plan_put-clause-unit g c =
    let o = g.H.Host.outside c.args.host.now in
    record {
      formatted = λ tells. no-value c.from_residual-in_err-plan_put.result _ c.from_residual-in_err-plan_put.ensures.0;
      laid = λ tells. no-value c.from_residual-in_err-plan_put.result _ c.from_residual-in_err-plan_put.ensures.0;
      durable = λ tells. no-value c.from_residual-in_err-plan_put.result _ c.from_residual-in_err-plan_put.ensures.0;
      open_after = λ tells. no-value c.from_residual-in_err-plan_put.result _ c.from_residual-in_err-plan_put.ensures.0;
      unchanged = λ is. refl;
      any_moment = λ tells. Leaves-start {P = Anything} (λ left may. tt);
      costs = Spends-widen 0 0 (format_bytes (cost (new_store c.args.name.now c.args.sig))) 0 (omega arith) (omega arith) (Spends-refl c.args.unit o);
      wears = record { erased = omega arith; synced = omega arith };
      alone = Touches-refl c.args.unit o;
      ends = read-memory c.from_residual-in_err-plan_put.result (NoFault-refl o) c.from_residual-in_err-plan_put.ensures.1;
    }

pub returns-in-Ok-clause-unit : goal.returns-in-Ok-clause-unit
returns-in-Ok-clause-unit g c = record {
  formatted = λ tells.
      let img : List ℕ = image c.args.unit (g.H.Host.outside c.format.new.host).now in
      let start : IsUnderWay c.empty-objects.result c.new-batch.result map.empty map.empty = subst (λ (b : Change). IsUnderWay c.empty-objects.result b map.empty map.empty) (sym c.new-batch.ensures) (start-empty c.empty-objects.result c.empty-objects.ensures.none c.empty-objects.ensures.no_plans) in
      let way = c.in_ok-plan_put.ensures.plans.under_way map.empty map.empty start in
      let holds : HoldsObjects img (map.insert map.empty 0 c.deref.result.now) = formatted-holds c.plan_put.new.self c.plan_put.new.batch (map.insert map.empty 0 c.deref.result.now) img way (c.in-Ok.ensures.formatted tells).0 in
      let bytes : c.deref.result.now ≡ directory_bytes (new_store c.args.name.now c.args.sig) = c.deref.ensures.value ∙ c.in_ok-bytes.ensures.made in
      let blocks : blocks_of img ≡ (g.H.Host.outside c.args.host.now).blocks c.args.unit = blocks-are img ((g.H.Host.outside c.format.new.host).blocks c.args.unit) (g.met.H.Host.sized c.format.new.host c.args.unit tells) ∙ c.format.ensures.alone.cards.blocks c.args.unit in
      let many : 13 ≤ blocks_of img = omega (arith, blocks, c.requires.enough) in
      fresh-read c.args.name.now c.args.sig c.deref.result.now img c.new_bytes.ensures.named (short-name c.args.name.now c.new_bytes.ensures.named) c.requires.few many bytes holds;
  laid = λ tells. (c.plan_put.new.batch, (c.in-Ok.ensures.formatted tells).0);
  durable = λ tells. (c.in-Ok.ensures.formatted tells).1;
  open_after = λ tells. (c.in-Ok.ensures.formatted tells).0.blank;
  unchanged = λ is. absurd (cc);
  any_moment = λ tells. Leaves-weaken (λ left is. tt) (c.format.ensures.any_moment tells);
  costs =
      let o = g.H.Host.outside in
      let bytes : c.deref.result.now ≡ directory_bytes (new_store c.args.name.now c.args.sig) = c.deref.ensures.value ∙ c.in_ok-bytes.ensures.made in
      let puts = fresh-pages c.args.name.now c.args.sig c.deref.result.now c.new-batch.result c.plan_put.new.batch bytes c.new-batch.ensures c.in_ok-plan_put.ensures.puts.count in
      subst (λ (n : ℕ). Spends c.args.unit (format_bytes n) 0 (o c.args.host.now) (o c.format.new.host)) puts c.format.ensures.costs;
  wears = c.format.ensures.wears;
  alone = c.format.ensures.alone;
  ends = record { cause = tt; no_fault = c.in-Ok.ensures.no_fault };
}

pub returns-clause-unit : goal.returns-clause-unit
returns-clause-unit g c = record {
  formatted = λ tells. tt;
  laid = λ tells. tt;
  durable = λ tells. tt;
  open_after = λ tells. tt;
  unchanged = c.in-Err.ensures.unchanged;
  any_moment = λ tells. Leaves-weaken (λ left is. tt) (c.format.ensures.any_moment tells);
  costs =
      let o = g.H.Host.outside in
      let bytes : c.deref.result.now ≡ directory_bytes (new_store c.args.name.now c.args.sig) = c.deref.ensures.value ∙ c.in_ok-bytes.ensures.made in
      let puts = fresh-pages c.args.name.now c.args.sig c.deref.result.now c.new-batch.result c.plan_put.new.batch bytes c.new-batch.ensures c.in_ok-plan_put.ensures.puts.count in
      subst (λ (n : ℕ). Spends c.args.unit (format_bytes n) 0 (o c.args.host.now) (o c.format.new.host)) puts c.format.ensures.costs;
  wears = c.format.ensures.wears;
  alone = c.format.ensures.alone;
  ends = record { cause = c.in-Err.ensures.cause; no_fault = tt };
}

-- ---- page 0 alone is put

pub returns-in_err-bytes-clause-fresh : goal.returns-in_err-bytes-clause-fresh
returns-in_err-bytes-clause-fresh g c tells = no-value c.from_residual.result _ c.from_residual.ensures.0

pub returns-in_err-plan_put-clause-fresh : goal.returns-in_err-plan_put-clause-fresh
returns-in_err-plan_put-clause-fresh g c tells = no-value c.from_residual-in_err-plan_put.result _ c.from_residual-in_err-plan_put.ensures.0

pub returns-in-Ok-clause-fresh : goal.returns-in-Ok-clause-fresh
returns-in-Ok-clause-fresh g c tells =
    let bytes : c.deref.result.now ≡ directory_bytes (new_store c.args.name.now c.args.sig) = c.deref.ensures.value ∙ c.in_ok-bytes.ensures.made in
    let puts = c.in_ok-plan_put.ensures.puts.puts in
    let deletes = c.in_ok-plan_put.ensures.plans.deletes in
    first-page c.args.name.now c.args.sig c.deref.result.now (image c.args.unit (g.H.Host.outside c.format.new.host).now) c.empty-objects.result c.new-batch.result c.plan_put.new.batch
    c.new_bytes.ensures.named bytes c.empty-objects.ensures.no_rows (c.empty-objects.ensures.none 0) c.new-batch.ensures puts deletes (c.in-Ok.ensures.formatted tells).0

pub returns-clause-fresh : goal.returns-clause-fresh
returns-clause-fresh g c tells = tt
