use Rattle.std.proofs.Common.{ℕ, ◌%◌, inl, inr, List, [], ◌∷◌, take, get_or, IsSome, sym, ◌∙◌, ap, subst, arith}
use Rattle.std.proofs.lemmas.List.{take_more, take_all}
use Rattle.newt_spec_graph.specs.Lists.{Among}
use Rattle.newt_spec_graph.proofs.Lists.{among-append}
use Rattle.newt_objects_commit.proofs.Planning.{among-get}
use Rattle.newt_store_catalog.specs.Opening.{owner_of}
use Rattle.newt_store_catalog.proofs.open.are_owned.Goals as goal

pub loop-id-preserved : goal.loop-id-preserved
loop-id-preserved c = λ q m even.
    let ids = c.args.ids.now in
    let i = c.loop-id.id-index in
    let id : ℕ = get_or ids i 0 in
    let split = among-append (take i ids) (id ∷ []) q (subst (λ (l : List ℕ). Among l q) (take_more ids i 0 (omega arith)) m) in
    elim split [
      | inl before ↦ c.loop-id.invariant q before even
      | inr here ↦ elim here [
        | inl same ↦ subst (λ (o : ℕ). IsSome (owner_of c.args.owners.now o)) same (c.is_owned.ensures.owned c.if-not-is_owned.false (ap (λ (o : ℕ). o % 2) same ∙ even))
        | inr none ↦ absurd none
      ]
    ]

pub returns-then-not-is_owned-clause-not_owned : goal.returns-then-not-is_owned-clause-not_owned
returns-then-not-is_owned-clause-not_owned c = λ is.
    let not = c.is_owned.ensures.not_owned c.if-not-is_owned.true in
    (get_or c.args.ids.now c.loop-id.id-index 0, among-get c.args.ids.now c.loop-id.id-index 0 (omega arith), not.0, not.1)

pub returns-clause-owned : goal.returns-clause-owned
returns-clause-owned c = λ is id m even. c.loop-id.invariant id (subst (λ (l : List ℕ). Among l id) (sym (take_all c.loop-id.id-index c.args.ids.now (omega arith))) m) even
