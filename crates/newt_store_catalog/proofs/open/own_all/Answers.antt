use Rattle.std.proofs.Common.{ℕ, List, take, get_or, sym, ◌∙◌, subst, arith}
use Rattle.std.proofs.lemmas.List.{take_all, take_more}
use Rattle.newt_store_catalog.specs.Opening.{owner_of, OwnsThese}
use Rattle.newt_store_catalog.proofs.Opening.{is-none, some-of}
use Rattle.newt_store_catalog.proofs.Owning.{owns-first, owns-more, owned-already}
use Rattle.newt_store_catalog.proofs.open.own_all.Goals as goal

pub loop-object-init : goal.loop-object-init
loop-object-init c = owns-first c.args.id (owner_of c.args.owners.now)

pub loop-object-preserved : goal.loop-object-preserved
loop-object-preserved c =
    let x : ℕ = get_or c.args.ids.now c.loop-object.object-index 0 in
    let e = c.in_ok-old.ensures in
    subst (λ (ids : List ℕ). OwnsThese ids c.args.id (owner_of c.args.owners.now) (owner_of c.own.new.owners)) (sym (take_more c.args.ids.now c.loop-object.object-index 0 c.loop-object-test.true))
    (owns-more (take c.loop-object.object-index c.args.ids.now) x c.args.id (owner_of c.args.owners.now) (owner_of c.loop-object.owners) (owner_of c.own.new.owners) c.loop-object.invariant
    (sym e.old ∙ is-none c.in_ok-old.old (sym c.if-is_some.ensures)) e.owned e.others)

pub returns-then-is_some-clause-are_owned : goal.returns-then-is_some-clause-are_owned
returns-then-is_some-clause-are_owned c = λ is.
    let r = some-of c.in_ok-old.old (sym c.if-is_some.ensures) in
    owned-already c.args.ids.now c.loop-object.object-index c.args.id r.0 (owner_of c.args.owners.now) (owner_of c.loop-object.owners) c.loop-object-test.true c.loop-object.invariant (sym c.in_ok-old.ensures.old ∙ r.1)

pub returns-clause-owned : goal.returns-clause-owned
returns-clause-owned c = λ is. subst (λ (ids : List ℕ). OwnsThese ids c.args.id (owner_of c.args.owners.now) (owner_of c.loop-object.owners)) (take_all c.loop-object.object-index c.args.ids.now (omega arith)) c.loop-object.invariant
