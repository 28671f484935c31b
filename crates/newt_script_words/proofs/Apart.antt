-- Texts of which no two are one, counted as the keys of a set.
use Rattle.std.proofs.Common.{◌≡◌, ℕ, suc, ◌≤◌, Bool, true, false, ◌==◌, List, [], ◌∷◌, length, map, refl, ◌∙◌, ap, arith}
use Rattle.std.specs.Prelude.{bytes_eq}
use Rattle.std.specs.List.{list_any}
use Rattle.std.specs.Set.{distinct_count, unique_keys}
use Rattle.std.specs.Str.{str_to_ascii_lowercase}
use Rattle.std.proofs.Math.Dec.{eqb-suc-suc}
use Rattle.std.proofs.lemmas.Bool.{ne_eqb}
use Rattle.std.proofs.lemmas.Map.Made.{distinct_count-le}
use Rattle.newt_base.specs.Names.{same_name}
use Rattle.newt_spec_graph.specs.Lists.{all_apart}

-- a list has as many keys as it is long exactly where no two of its elements are equal
pub counted : {K : Type 0} (eq : K → K → Bool) (xs : List K) → (distinct_count eq xs == length xs) ≡ all_apart eq xs
counted eq [] = refl
counted {K} eq (x ∷ xs) = go (list_any (eq x) xs) refl (counted eq xs) (distinct_count-le eq xs)
  where
    go : (b : Bool) → list_any (eq x) xs ≡ b → (distinct_count eq xs == length xs) ≡ all_apart eq xs → length (unique_keys eq xs) ≤ length xs
        → (distinct_count eq (x ∷ xs) == length (x ∷ xs)) ≡ all_apart eq (x ∷ xs)
    go true is rest few = rw is (ne_eqb (length (unique_keys eq xs)) (suc (length xs)) (λ e. absurd (omega (arith, e, few))))
    go false is rest few = rw is (eqb-suc-suc (length (unique_keys eq xs)) (length xs) ∙ rest)

-- ---- the same of what a function makes of the elements

any_made : {A B : Type 0} (f : A → B) (p : B → Bool) (xs : List A) → list_any p (map f xs) ≡ list_any (λ x. p (f x)) xs
any_made f p [] = refl
any_made f p (x ∷ xs) = rw (any_made f p xs) refl

pub apart_made : {A B : Type 0} (f : A → B) (same : B → B → Bool) (xs : List A) → all_apart same (map f xs) ≡ all_apart (λ a b. same (f a) (f b)) xs
apart_made f same [] = refl
apart_made f same (x ∷ xs) = rw (any_made f (same (f x)) xs, apart_made f same xs) refl

-- symbols are apart where their names in lower case are
pub folded_apart : (names symbols : List (List ℕ)) → names ≡ map str_to_ascii_lowercase symbols → all_apart bytes_eq names ≡ all_apart same_name symbols
folded_apart names symbols is = ap (all_apart bytes_eq) is ∙ apart_made str_to_ascii_lowercase bytes_eq symbols
