-- The nodes that have a number in the written text.
use Rattle.std.proofs.Common.{◌≡◌, Bool, true, false, ℕ, suc, ◌+◌, ◌<◌, ◌≤◌, List, [], ◌∷◌, ◌++◌, length, Option, Some, None, refl, sym, ap, subst, ◌∙◌, arith, inl, inr, ◌⊎◌, ⊎_elim}
use Rattle.std.specs.Prelude.{slice_get, nat_eq, cond, ◌||◌}
use Rattle.std.specs.List.{list_any, position_from, IsDistinct}
use Rattle.std.specs.Cmp.{nat_eq_equiv}
use Rattle.std.proofs.lemmas.List.{length-append}
use Rattle.std.proofs.lemmas.Bool.{eqb-true, eqb-false}
use Rattle.std.proofs.lemmas.Iterator.Adapters.{position_from-zero}
use Rattle.std.proofs.lemmas.List.Folds.{list_any-append}
use Rattle.std.proofs.lemmas.Map.Keys.{IsDistinct-push}
use Rattle.std.proofs.lemmas.Map.Steps.{length-le_from_distinct_below}
use Rattle.newt_graph.specs.declared.node.Node.{Node}
use Rattle.newt_graph.specs.declared.node.Node.TheVariants.{Symbol}
use Rattle.newt_graph.specs.Graph.{IsSymbol, WalkLabel, WalkLabels}
use Rattle.newt_graph.specs.Slice.{At}
use Rattle.newt_graph.proofs.Elements.{found_at}
use Rattle.newt_graph.proofs.Slices.{at_first, at_rest, at_here}
use Rattle.newt_spec_nsof.specs.Written.{number_of}

-- Of so many nodes that were met, those have a number, each one; the others are symbols.
pub record AreNumbered (nodes : List Node) (met : ℕ) (numbered : List ℕ) : Type 0 where
  pub distinct : IsDistinct nat_eq numbered
  pub below : (k : ℕ) → list_any (nat_eq k) numbered ≡ true → k < met
  pub others : (k : ℕ) → k < met → list_any (nat_eq k) numbered ≡ false → IsSymbol nodes k

-- ---- the number of a node

-- an element passes, or none does
any_found : (test : ℕ → Bool) (i : ℕ) (xs : List ℕ) (q : ℕ) → position_from test i xs ≡ Some q → list_any test xs ≡ true
any_found test i [] q e = absurd cc
any_found test i (x ∷ xs) q e = go (λ e. any_found test (i + 1) xs q e) (test x) refl e
  where
    go : (position_from test (i + 1) xs ≡ Some q → list_any test xs ≡ true) → (b : Bool) → test x ≡ b → cond b (Some i) (position_from test (i + 1) xs) ≡ Some q → list_any test (x ∷ xs) ≡ true
    go others true is e = rw is refl
    go others false is e = rw is (others e)

none_found : (test : ℕ → Bool) (i : ℕ) (xs : List ℕ) → position_from test i xs ≡ None → list_any test xs ≡ false
none_found test i [] e = refl
none_found test i (x ∷ xs) e = go (λ e. none_found test (i + 1) xs e) (test x) refl e
  where
    go : (position_from test (i + 1) xs ≡ None → list_any test xs ≡ false) → (b : Bool) → test x ≡ b → cond b (Some i) (position_from test (i + 1) xs) ≡ None → list_any test (x ∷ xs) ≡ false
    go others true is e = absurd cc
    go others false is e = rw is (others e)

pub has_number : (k place : ℕ) (numbered : List ℕ) → number_of k numbered ≡ Some place → (slice_get numbered place ≡ Some k) × (list_any (nat_eq k) numbered ≡ true)
has_number k place numbered e =
    let from : position_from (nat_eq k) 0 numbered ≡ Some place = sym (position_from-zero (nat_eq k) numbered) ∙ e in
    let f = found_at (nat_eq k) 0 numbered place from in
    let same : f.0 ≡ place = omega (arith, f.2) in
    let is : k ≡ f.1 = eqb-true k f.1 f.4 in
    (subst (λ (n : ℕ). slice_get numbered n ≡ Some k) same (f.3 ∙ ap (λ (n : ℕ). Some n) (sym is)), any_found (nat_eq k) 0 numbered place from)

pub has_none : (k : ℕ) (numbered : List ℕ) → number_of k numbered ≡ None → list_any (nat_eq k) numbered ≡ false
has_none k numbered e = none_found (nat_eq k) 0 numbered (sym (position_from-zero (nat_eq k) numbered) ∙ e)

-- the node that is met next has no number yet
pub has_none_yet : (nodes : List Node) (met : ℕ) (numbered : List ℕ) → AreNumbered nodes met numbered → number_of met numbered ≡ None
has_none_yet nodes met numbered are = go (number_of met numbered) refl
  where
    go : (o : Option ℕ) → number_of met numbered ≡ o → o ≡ None
    go None e = refl
    go (Some place) e = absurd (omega (arith, are.below met (has_number met place numbered e).1))

-- as many numbers as nodes at most
pub numbers_few : (nodes : List Node) (met : ℕ) (numbered : List ℕ) → AreNumbered nodes met numbered → length numbered ≤ met
numbers_few nodes met numbered are = length-le_from_distinct_below numbered met are.distinct are.below

-- ---- one more

pub none_numbered : (nodes : List Node) → AreNumbered nodes 0 []
unfolding IsDistinct
none_numbered nodes = record {
  distinct = tt;
  below = λ k e. absurd cc;
  others = λ k lt e. absurd (omega (arith, lt));
}

-- either it was there, or it is the last
any_push : (k n : ℕ) (xs : List ℕ) → list_any (nat_eq k) (xs ++ n ∷ []) ≡ true → (list_any (nat_eq k) xs ≡ true) ⊎ (k ≡ n)
any_push k n xs e = go (list_any (nat_eq k) xs) refl (nat_eq k n) refl (sym (list_any-append (nat_eq k) xs (n ∷ [])) ∙ e)
  where
    go : (a : Bool) → list_any (nat_eq k) xs ≡ a → (b : Bool) → nat_eq k n ≡ b → (list_any (nat_eq k) xs || (nat_eq k n || false)) ≡ true → (list_any (nat_eq k) xs ≡ true) ⊎ (k ≡ n)
    go true is b is_last e = inl is
    go false is true is_last e = inr (eqb-true k n is_last)
    go false is false is_last e = absurd cc

-- neither was there, nor is the last
none_push : (k n : ℕ) (xs : List ℕ) → list_any (nat_eq k) (xs ++ n ∷ []) ≡ false → (list_any (nat_eq k) xs ≡ false) × (k ≡ n → ⊥)
none_push k n xs e = go (list_any (nat_eq k) xs) refl (nat_eq k n) refl (sym (list_any-append (nat_eq k) xs (n ∷ [])) ∙ e)
  where
    go : (a : Bool) → list_any (nat_eq k) xs ≡ a → (b : Bool) → nat_eq k n ≡ b → (list_any (nat_eq k) xs || (nat_eq k n || false)) ≡ false → (list_any (nat_eq k) xs ≡ false) × (k ≡ n → ⊥)
    go true is b is_last e = absurd cc
    go false is true is_last e = absurd cc
    go false is false is_last e = (is, eqb-false k n is_last)

-- a symbol that was met, and takes its number now
pub number_again : (nodes : List Node) (met k : ℕ) (numbered : List ℕ) → AreNumbered nodes met numbered → k < met → list_any (nat_eq k) numbered ≡ false → AreNumbered nodes met (numbered ++ k ∷ [])
number_again nodes met k numbered are lt none = record {
  distinct = IsDistinct-push nat_eq_equiv numbered k are.distinct none;
  below = λ q e. ⊎_elim (λ before. are.below q before) (λ (last : q ≡ k). rw last lt) (any_push q k numbered e);
  others = λ q less e. are.others q less (none_push q k numbered e).0;
}

-- the node that is met next, with its number
pub number_next : (nodes : List Node) (met : ℕ) (numbered : List ℕ) → AreNumbered nodes met numbered → AreNumbered nodes (suc met) (numbered ++ met ∷ [])
number_next nodes met numbered are = record {
  distinct = IsDistinct-push nat_eq_equiv numbered met are.distinct (has_none met numbered (has_none_yet nodes met numbered are));
  below = λ q e. ⊎_elim (λ before. omega (arith, are.below q before)) (λ (last : q ≡ met). omega (arith, last)) (any_push q met numbered e);
  others = λ q less e. let o = none_push q met numbered e in are.others q (below_met q less o.1) o.0;
}
  where
    below_met : (q : ℕ) → q < suc met → (q ≡ met → ⊥) → q < met
    below_met q less other = grind (arith, less, other)

-- a symbol that is met, and takes no number
pub number_none : (nodes : List Node) (met : ℕ) (numbered : List ℕ) → AreNumbered nodes met numbered → IsSymbol nodes met → AreNumbered nodes (suc met) numbered
number_none nodes met numbered are is = record {
  distinct = are.distinct;
  below = λ q e. omega (arith, are.below q e);
  others = λ q less e. ⊎_elim (λ (before : q < met). are.others q before e) (λ (last : q ≡ met). rw last is) (order q less);
}
  where
    order : (q : ℕ) → q < suc met → (q < met) ⊎ (q ≡ met)
    order q less = grind arith

-- what a class or a tag meets are symbols
label_none : {met k : ℕ} {new : List Node} → WalkLabel met k new → (nodes : List Node) (at : At nodes new met) (numbered : List ℕ) → AreNumbered nodes met numbered → AreNumbered nodes (met + length new) numbered
label_none (WalkLabel.again {met} {k} lt) nodes at numbered are = subst (λ (n : ℕ). AreNumbered nodes n numbered) (omega arith) are
label_none (WalkLabel.symbol {met} {name}) nodes at numbered are =
    subst (λ (n : ℕ). AreNumbered nodes n numbered) (omega arith) (number_none nodes met numbered are (name, at_here nodes (Symbol name) [] met at))

pub labels_none : {met : ℕ} {ks : List ℕ} {new : List Node} → WalkLabels met ks new → (nodes : List Node) (at : At nodes new met) (numbered : List ℕ) → AreNumbered nodes met numbered → AreNumbered nodes (met + length new) numbered
labels_none (WalkLabels.none {met}) nodes at numbered are = subst (λ (n : ℕ). AreNumbered nodes n numbered) (omega arith) are
labels_none (WalkLabels.more {met} {k} {ks} {first} {others} w ws) nodes at numbered are =
    let one = label_none w nodes (at_first nodes first others met at) numbered are in
    subst (λ (n : ℕ). AreNumbered nodes n numbered) (omega (arith, length-append first others)) (labels_none ws nodes (at_rest nodes first others met at) numbered one)
