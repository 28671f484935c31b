-- Numbers that were given.
use Rattle.std.proofs.Common.{◌≡◌, Bool, true, false, ℕ, ◌+◌, ◌<◌, ◌≤◌, List, [], ◌∷◌, length, All, refl, arith}
use Rattle.std.specs.Prelude.{nat_eq, ◌||◌}
use Rattle.std.specs.List.{list_any, IsDistinct}
use Rattle.std.proofs.lemmas.Bool.{eqb-true}
use Rattle.std.proofs.lemmas.List.Elements.{All-head, All-tail}
use Rattle.std.proofs.lemmas.Map.Steps.{length-le_from_distinct_below}

-- what is among numbers below a bound is below it
among_below : (n : ℕ) (numbers : List ℕ) → All (λ k. k < n) numbers → (k : ℕ) → list_any (nat_eq k) numbers ≡ true → k < n
among_below n [] all k e = absurd cc
among_below n (x ∷ xs) all k e = go (λ e. among_below n xs (All-tail (λ k. k < n) x xs all) k e) (nat_eq k x) refl e
  where
    go : (list_any (nat_eq k) xs ≡ true → k < n) → (b : Bool) → nat_eq k x ≡ b → (b || list_any (nat_eq k) xs) ≡ true → k < n
    go others true is e = rw (eqb-true k x is) (All-head (λ k. k < n) x xs all)
    go others false is e = others e

-- there are as many numbers as nodes at most
pub given_few : (n : ℕ) (numbers : List ℕ) → IsDistinct nat_eq numbers → All (λ k. k < n) numbers → length numbers ≤ n
given_few n numbers distinct all = length-le_from_distinct_below numbers n distinct (among_below n numbers all)
