-- The first element that passes a test, changed at its place.
use Rattle.std.proofs.Common.{◌≡◌, ℕ, ◌+◌, Bool, true, false, cond, suc, List, [], ◌∷◌, get_or, Some, None, refl, sym, ◌∙◌, ap, subst, arith}
use Rattle.std.specs.Prelude.{slice_set}
use Rattle.std.specs.List.{position_from}
use Rattle.newt_spec_graph.proofs.Lists.{some-same, none-some}
use Rattle.newt_spec_store.specs.Store.{change_first}

abbrev IsChanged : {X : Type 0} → (X → Bool) → (X → X) → List X → ℕ → X → Type 0
IsChanged test f xs n d = slice_set xs n (f (get_or xs n d)) ≡ change_first test f xs

place_from : {X : Type 0} (test : X → Bool) (f : X → X) (xs : List X) (k at : ℕ) (d : X) → position_from test k xs ≡ Some at → (n : ℕ) × (at ≡ k + n) × IsChanged test f xs n d
place_from test f [] k at d h = absurd (none-some at h)
place_from test f (x ∷ xs) k at d h = go (place_from test f xs (k + 1) at d) (test x) refl h
  where
    go : (position_from test (k + 1) xs ≡ Some at → (n : ℕ) × (at ≡ k + 1 + n) × IsChanged test f xs n d) → (b : Bool) → test x ≡ b
        → cond b (Some k) (position_from test (k + 1) xs) ≡ Some at → (n : ℕ) × (at ≡ k + n) × IsChanged test f (x ∷ xs) n d
    go later true e h =
        let here : k ≡ at = some-same k at h in
        (0, omega (arith, here), sym (ap (λ b. cond b (f x ∷ xs) (x ∷ change_first test f xs)) e))
    go later false e h =
        let there = later h in
        (suc there.0, omega (arith, there.1), ap (λ ys. x ∷ ys) there.2 ∙ sym (ap (λ b. cond b (f x ∷ xs) (x ∷ change_first test f xs)) e))

-- what is changed at the place of the first is the first, changed
pub place_changed : {X : Type 0} (test : X → Bool) (f : X → X) (xs : List X) (at : ℕ) (d : X) → position_from test 0 xs ≡ Some at
    → slice_set xs at (f (get_or xs at d)) ≡ change_first test f xs
place_changed test f xs at d h =
    let p = place_from test f xs 0 at d h in
    let same : p.0 ≡ at = omega (arith, p.1) in
    subst (λ (n : ℕ). IsChanged test f xs n d) same p.2

-- where none passes nothing is changed
pub none_changed : {X : Type 0} (test : X → Bool) (f : X → X) (xs : List X) (k : ℕ) → position_from test k xs ≡ None → change_first test f xs ≡ xs
none_changed test f [] k h = refl
none_changed test f (x ∷ xs) k h = go (none_changed test f xs (k + 1)) (test x) refl h
  where
    go : (position_from test (k + 1) xs ≡ None → change_first test f xs ≡ xs) → (b : Bool) → test x ≡ b → cond b (Some k) (position_from test (k + 1) xs) ≡ None
        → cond (test x) (f x ∷ xs) (x ∷ change_first test f xs) ≡ x ∷ xs
    go later true e h = absurd (none-some k (sym h))
    go later false e h = ap (λ b. cond b (f x ∷ xs) (x ∷ change_first test f xs)) e ∙ ap (λ ys. x ∷ ys) (later h)
