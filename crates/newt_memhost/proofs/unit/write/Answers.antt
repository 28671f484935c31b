use Rattle.std.proofs.Common.{◌≡◌, inl, inr, ℕ, ◌+◌, ◌-◌, Some, List, ◌∷◌, length, take, drop, refl, sym, ◌∙◌, ap, arith}
use Rattle.newt_host.specs.Moments.{Moment, On, Wrote, overwritten}
use Rattle.newt_host.proofs.Ranges.{length-part}
use Rattle.newt_memhost.specs.Log.{now_of}
use Rattle.newt_memhost.proofs.Calls.{overwritten-same, part-same, stands-same, stands-wrote}
use Rattle.newt_memhost.proofs.Keeping.{keeps-added, keeps-none, same-le}
use Rattle.newt_memhost.proofs.unit.write.Goals as goal

pub returns-then-not-reserve : goal.returns-then-not-reserve
returns-then-not-reserve c =
    let r = c.reserve.ensures in
    record {
      put = record {
        event = record { reads = c.args.bytes.now; size = refl; whole = tt; moment = inr (r.past.moment, refl) };
        stands = stands-same c.args.unit (length c.args.card.now.first.items) c.args.card.now.held.items _ _ r.past.moment;
        pending = λ has. absurd (omega (arith, has, r.past.calls));
        unchanged = refl;
      };
      kept = keeps-none c.args.waiting _ _ c.args.fails c.reserve.result c.args.log.now c.reserve.new.self r.past r.more c.requires.waits r.there c.if-not-reserve.true;
      card = record { attached = refl; name = refl; first = refl; faults = c.count.ensures.later; faults_are = c.count.ensures.one; programmed = same-le _; programmed_is = refl; fetched = same-le _; fetched_is = refl; erased = same-le _; erased_is = refl; synced = same-le _; synced_is = refl; broken_is = refl };
    }

pub invariant_of-card : goal.invariant_of-card
invariant_of-card c = record { size = c.args.card.now.size; whole = c.args.card.now.whole; few = c.args.card.now.few }

pub returns-then-fails : goal.returns-then-fails
returns-then-fails c =
    let card = c.args.card.now in
    let r = c.reserve.ensures in
    let reads : take ((c.args.at + length c.args.bytes.now) - c.args.at) (drop c.args.at c.deref.result.now) ≡ take (length c.args.bytes.now) (drop c.args.at card.held.items) = part-same c.args.at (length c.args.bytes.now) c.deref.result.now card.held.items c.deref.ensures.value in
    let long = ap length reads ∙ length-part c.args.at (length c.args.bytes.now) card.held.items c.requires.inside in
    let moment : now_of c.add.new.self ≡ On c.args.unit (Wrote c.args.at (take ((c.args.at + length c.args.bytes.now) - c.args.at) (drop c.args.at c.deref.result.now))) ∷ now_of c.args.log.now =
    c.add.ensures.moment ∙ ap (λ (m : Moment). On c.args.unit (Wrote c.args.at (take ((c.args.at + length c.args.bytes.now) - c.args.at) (drop c.args.at c.deref.result.now))) ∷ m) r.past.moment in
    record {
      put = record {
        event = record { reads = take ((c.args.at + length c.args.bytes.now) - c.args.at) (drop c.args.at c.deref.result.now); size = long; whole = tt; moment = inl moment };
        stands = λ stood. stands-wrote c.args.unit c.args.at (length card.first.items) _ card.held.items card.held.items _ _ moment (omega (arith, long, c.requires.inside, card.size))
            (ap (λ (l : List ℕ). overwritten card.held.items c.args.at l) reads ∙ overwritten-same card.held.items c.args.at (length c.args.bytes.now) c.requires.inside) stood;
        pending = λ has. moment ∙ ap (λ (l : List ℕ). On c.args.unit (Wrote c.args.at l) ∷ now_of c.args.log.now) reads;
        unchanged = refl;
      };
      kept = keeps-added c.args.waiting (length c.args.bytes.now) (Some c.args.unit) c.args.fails _ c.args.log.now c.reserve.new.self c.add.new.self
          r.past r.more (r.room c.if-not-reserve.false) c.add.ensures (omega (arith, long)) refl (sym c.if-fails.true);
      card = record { attached = refl; name = refl; first = refl; faults = c.count-then-fails.ensures.later; faults_are = c.count-then-fails.ensures.one; programmed = same-le _; programmed_is = refl; fetched = same-le _; fetched_is = refl; erased = same-le _; erased_is = refl; synced = same-le _; synced_is = refl; broken_is = refl };
    }

pub invariant_of-card-then-fails : goal.invariant_of-card-then-fails
invariant_of-card-then-fails c = record { size = c.args.card.now.size; whole = c.args.card.now.whole; few = c.args.card.now.few }

pub returns-clause-kept : goal.returns-clause-kept
returns-clause-kept c =
    let r = c.reserve.ensures in
    keeps-added c.args.waiting (length c.args.bytes.now) (Some c.args.unit) c.args.fails _ c.args.log.now c.reserve.new.self c.add-2.new.self
    r.past r.more (r.room c.if-not-reserve.false) c.add-2.ensures (same-le (length c.args.bytes.now)) refl (sym c.if-fails.false)
