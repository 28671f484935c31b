use Rattle.std.proofs.Common.{◌≡◌, ◌+◌, ◌++◌, ◌∷◌, [], ◌<◌, ◌∙◌, refl, sym, subst, arith, ℕ, List}
use Rattle.newt_entries.specs.declared.full.FullEntry.{FullEntry}
use Rattle.newt_entries.proofs.Steps.{all-rest}
use Rattle.newt_store.specs.Fill.{PlansEntries}
use Rattle.newt_store.proofs.Filled.{all-done, moved-on, plans-first, plans-more}
use Rattle.newt_store.proofs.fill.plan_entries.Goals as goal

pub loop-left-init : goal.loop-left-init
loop-left-init c = record {
  done = [];
  all = refl;
  odd = refl;
  even = refl;
  small = c.requires.small;
  none = c.requires.none;
  plans = plans-first c.args.objects.now c.args.batch.now c.requires.free;
}

pub plan_next-requires-clause-room : goal.plan_next-requires-clause-room
plan_next-requires-clause-room c =
    let i = c.loop-left.invariant in
    let w = c.requires.way in
    let mid = i.plans.way w.0 w.1 w.2 in
    record { odd = i.odd; even = i.even; none = i.none; free = i.plans.free; way = (w.0, mid.0, mid.1) }

pub loop-left-preserved : goal.loop-left-preserved
loop-left-preserved c =
    let i = c.loop-left.invariant in
    let left = c.loop-left.left.now in
    let x = c.entry-item.result in
    let last = c.in_ok-last.ensures in
    let next : c.in_ok-id.id ≡ c.loop-left.id + 2 = c.in_ok-id.ensures.next in
    let odd = i.odd in
    record {
      done = i.done ++ x ∷ [];
      all = moved-on c.args.entries.now i.done left x i.all c.in-len1-up.len_at_least c.entry-item.is;
      odd = omega (arith, odd, next);
      even = last.plans.is.next_even;
      small = all-rest (λ (e : FullEntry). e.soup < 65536) left c.in-len1-up.len_at_least i.small;
      none = λ o. last.held o ∙ i.none o;
      plans = subst (λ (n : ℕ). PlansEntries (i.done ++ x ∷ []) n c.in_ok-last.last c.args.objects.now c.args.batch.now c.plan_next.new.objects c.plan_next.new.batch) (sym next)
          (plans-more i.done x c.loop-left.id c.loop-left.last c.in_ok-last.last c.args.objects.now c.loop-left.objects c.plan_next.new.objects c.args.batch.now c.loop-left.batch c.plan_next.new.batch i.plans last.plans);
    }

pub returns : goal.returns
returns c =
    let i = c.loop-left.invariant in
    let whole = all-done c.args.entries.now i.done c.loop-left.left.now i.all c.in_default.len_below in
    (c.loop-left.id, c.loop-left.last, subst (λ (l : List FullEntry). PlansEntries l c.loop-left.id c.loop-left.last c.args.objects.now c.args.batch.now c.loop-left.objects c.loop-left.batch) whole i.plans)
