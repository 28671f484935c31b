use Rattle.std.proofs.Common.{◌≡◌, ◌≤◌, ℕ, List, [], ◌∷◌, length, take, refl, ap, arith, zero, suc}
use Rattle.newt_keys.proofs.values.first_units.Goals as goal

long : (n : ℕ) (xs : List ℕ) → n ≤ length xs → n ≡ length (take n xs)
long zero xs h = refl
long (suc n) [] h = absurd (omega arith)
long (suc n) (x ∷ xs) h = ap suc (long n xs (omega arith))

short : (n : ℕ) (xs : List ℕ) → length xs ≤ n → xs ≡ take n xs
short zero [] h = refl
short zero (x ∷ xs) h = absurd (omega arith)
short (suc n) [] h = refl
short (suc n) (x ∷ xs) h = ap (λ ys. x ∷ ys) (short n xs (omega arith))

pub slice_bounds-result-end : goal.slice_bounds-result-end
slice_bounds-result-end c = long 39 c.args.units.now (omega arith)

pub returns-else-units-gt-MOST_UNITS : goal.returns-else-units-gt-MOST_UNITS
returns-else-units-gt-MOST_UNITS c = short 39 c.args.units.now (omega arith)
