use Rattle.std.proofs.Common.{Bool, not, Some, [], ◌∷◌, length, refl, sym, ◌∙◌, ap}
use Rattle.newt_host.specs.Moments.{Moment, On, Synced}
use Rattle.newt_memhost.specs.Happened.{after}
use Rattle.newt_memhost.specs.Log.{now_of}
use Rattle.newt_memhost.specs.declared.happened.Happened.TheVariants.{Sync}
use Rattle.newt_memhost.proofs.Calls.{stands-same, stands-synced}
use Rattle.newt_memhost.proofs.Keeping.{keeps-added, keeps-none, same-le}
use Rattle.newt_memhost.proofs.unit.sync.Goals as goal

pub returns-then-not-reserve-clause-event : goal.returns-then-not-reserve-clause-event
returns-then-not-reserve-clause-event c = record { done = tt; failed = c.reserve.ensures.past.moment }

pub returns-then-not-reserve-clause-stands : goal.returns-then-not-reserve-clause-stands
returns-then-not-reserve-clause-stands c =
    stands-same c.args.unit (length c.args.card.now.first.items) c.args.card.now.held.items _ _ c.reserve.ensures.past.moment

pub returns-then-not-reserve-clause-kept : goal.returns-then-not-reserve-clause-kept
returns-then-not-reserve-clause-kept c =
    let r = c.reserve.ensures in
    keeps-none c.args.waiting _ _ c.args.fails c.reserve.result c.args.log.now c.reserve.new.self r.past r.more c.requires r.there c.if-not-reserve.true

pub invariant_of-card : goal.invariant_of-card
invariant_of-card c = record { size = c.args.card.now.size; whole = c.args.card.now.whole; few = c.args.card.now.few }

pub returns-then-fails-clause-event : goal.returns-then-fails-clause-event
returns-then-fails-clause-event c = record {
  done = tt;
  failed = c.add.ensures.moment ∙ ap (λ (b : Bool). after (Sync c.args.unit (not b)) [] (now_of c.reserve.new.self)) c.if-fails.true
      ∙ c.reserve.ensures.past.moment;
}

pub returns-then-fails-clause-stands : goal.returns-then-fails-clause-stands
returns-then-fails-clause-stands c =
    stands-same c.args.unit (length c.args.card.now.first.items) c.args.card.now.held.items _ _
    (c.add.ensures.moment ∙ ap (λ (b : Bool). after (Sync c.args.unit (not b)) [] (now_of c.reserve.new.self)) c.if-fails.true ∙ c.reserve.ensures.past.moment)

pub returns-then-fails-clause-kept : goal.returns-then-fails-clause-kept
returns-then-fails-clause-kept c =
    let r = c.reserve.ensures in
    keeps-added c.args.waiting 0 (Some c.args.unit) c.args.fails _ c.args.log.now c.reserve.new.self c.add.new.self
    r.past r.more (r.room c.if-not-reserve.false) c.add.ensures (same-le 0) refl (sym c.if-fails.true)

pub invariant_of-card-then-fails : goal.invariant_of-card-then-fails
invariant_of-card-then-fails c = record { size = c.args.card.now.size; whole = c.args.card.now.whole; few = c.args.card.now.few }

pub returns-clause-event : goal.returns-clause-event
returns-clause-event c = record {
  done = c.add.ensures.moment ∙ ap (λ (b : Bool). after (Sync c.args.unit (not b)) [] (now_of c.reserve.new.self)) c.if-fails.false
      ∙ ap (λ (m : Moment). On c.args.unit Synced ∷ m) c.reserve.ensures.past.moment;
  failed = tt;
}

pub returns-clause-stands : goal.returns-clause-stands
returns-clause-stands c =
    stands-synced c.args.unit (length c.args.card.now.first.items) c.args.card.now.held.items _ _
    (c.add.ensures.moment ∙ ap (λ (b : Bool). after (Sync c.args.unit (not b)) [] (now_of c.reserve.new.self)) c.if-fails.false
    ∙ ap (λ (m : Moment). On c.args.unit Synced ∷ m) c.reserve.ensures.past.moment)

pub returns-clause-kept : goal.returns-clause-kept
returns-clause-kept c =
    let r = c.reserve.ensures in
    keeps-added c.args.waiting 0 (Some c.args.unit) c.args.fails _ c.args.log.now c.reserve.new.self c.add.new.self
    r.past r.more (r.room c.if-not-reserve.false) c.add.ensures (same-le 0) refl (sym c.if-fails.false)
