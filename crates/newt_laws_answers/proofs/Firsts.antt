-- The first test of a list that holds.
use Rattle.std.proofs.Common.{◌≡◌, refl, ap, ◌∙◌, [], ◌∷◌, ◌++◌, Bool, true, false, Some}
use Rattle.newt_base.specs.Refusals.{Checks, first_of}
use Rattle.newt_base.specs.declared.Refusal.{Refusal}

-- where one of the first holds, it is the answer
pub first-found : (xs ys : Checks) (r : Refusal) → first_of xs ≡ Some r → first_of (xs ++ ys) ≡ Some r
first-found [] ys r h = cc
first-found ((q, b) ∷ xs) ys r h = go b h (first-found xs ys r)
  where
    go : (b : Bool) → first_of ((q, b) ∷ xs) ≡ Some r → (first_of xs ≡ Some r → first_of (xs ++ ys) ≡ Some r) → first_of ((q, b) ∷ (xs ++ ys)) ≡ Some r
    go true h more = h
    go false h more = more h

-- a test that does not hold is passed over
pub first-false : (r : Refusal) (b : Bool) (xs : Checks) → b ≡ false → first_of ((r, b) ∷ xs) ≡ first_of xs
first-false r b xs h = ap (λ c. first_of ((r, c) ∷ xs)) h

-- a test that holds is the answer
pub first-true : (r : Refusal) (b : Bool) (xs : Checks) → b ≡ true → first_of ((r, b) ∷ xs) ≡ Some r
first-true r b xs h = ap (λ c. first_of ((r, c) ∷ xs)) h

-- tests that agree answer alike
pub first-test : (r : Refusal) (a b : Bool) (xs ys : Checks) → a ≡ b → first_of xs ≡ first_of ys → first_of ((r, a) ∷ xs) ≡ first_of ((r, b) ∷ ys)
first-test r a b xs ys h k = ap (λ c. first_of ((r, c) ∷ xs)) h ∙ go b
  where
    go : (b : Bool) → first_of ((r, b) ∷ xs) ≡ first_of ((r, b) ∷ ys)
    go true = refl
    go false = k
