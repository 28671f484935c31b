-- Bytes that are all as they were erased.
use Rattle.std.proofs.Common.{◌≡◌, ℕ, ◌+◌, ◌<◌, Bool, true, false, ◌&&◌, List, [], ◌∷◌, ◌++◌, length, take, get_or, replicate, nat_eq, refl, sym, ap, subst, ◌∙◌}
use Rattle.std.specs.List.{list_all}
use Rattle.std.proofs.lemmas.Bool.Decides.{Decides-eqb}
use Rattle.std.proofs.lemmas.List.{take_more}
use Rattle.std.proofs.lemmas.List.Folds.{list_all-append}
use Rattle.std.proofs.lemmas.List.Elements.{All-replicate}
use Rattle.std.proofs.lemmas.List.Sums.{list_all-from_AllPass}

abbrev pub all_blank : List ℕ → Bool
all_blank = list_all (λ b. nat_eq b 255)

pub is_blank : (xs : List ℕ) → all_blank xs ≡ true → xs ≡ replicate (length xs) 255
is_blank [] e = refl
is_blank (x ∷ xs) e = by (is_blank xs) (nat_eq x 255) refl e
  where
    by : (all_blank xs ≡ true → xs ≡ replicate (length xs) 255) → (b : Bool) → nat_eq x 255 ≡ b → (b && all_blank xs) ≡ true → x ∷ xs ≡ replicate (length (x ∷ xs)) 255
    by others true is rest = λ i. (Decides-eqb x 255).0 is i ∷ others rest i
    by others false is rest = absurd cc

pub blank_is : (n : ℕ) → all_blank (replicate n 255) ≡ true
blank_is n = list_all-from_AllPass (λ b. nat_eq b 255) (replicate n 255) (All-replicate (λ b. nat_eq b 255 ≡ true) n 255 refl)

pub one_more : (xs : List ℕ) (i d : ℕ) → i < length xs → all_blank (take (i + 1) xs) ≡ (all_blank (take i xs) && nat_eq (get_or xs i d) 255)
one_more xs i d lt = ap all_blank (take_more xs i d lt) ∙ (list_all-append (λ b. nat_eq b 255) (take i xs) (get_or xs i d ∷ []) ∙ ap (λ (b : Bool). all_blank (take i xs) && b) (and_true (nat_eq (get_or xs i d) 255)))
  where
    and_true : (b : Bool) → (b && true) ≡ b
    and_true true = refl
    and_true false = refl
