-- Where the numbers of the first bytes differ, they decide as the bytes do.
use Rattle.std.proofs.Common.{◌≡◌, ◌==◌, ℕ, zero, suc, ◌<◌, Bool, true, false, cond, List, [], ◌∷◌, length, get_or, refl, sym, ◌∙◌, ap, arith}
use Rattle.std.specs.List.{All}
use Rattle.std.specs.declared.cmp.Ordering.{Ordering}
use Rattle.std.specs.declared.cmp.Ordering.TheVariants.{Less, Equal, Greater}
use Rattle.std.specs.Ordering.{nat_cmp, ordering_then}
use Rattle.std.specs.Cmp.{nat_cmp_is, nat_cmp_total, tied_itself}
use Rattle.std.specs.Cmp.Lexicographic.{slice_cmp}
use Rattle.std.proofs.lemmas.Bool.{eqb-true}
use Rattle.std.proofs.lemmas.List.Elements.{All-head, All-tail}
use Rattle.newt_keys.proofs.Turned.{then_then, two_digits}
use Rattle.newt_index.specs.Front.{number_to, front_of}

small : (bytes : List ℕ) (at : ℕ) → All (λ b. b < 256) bytes → get_or bytes at 0 < 256
small [] at h = omega arith
small (b ∷ bytes) zero h = All-head (λ b. b < 256) b bytes h
small (b ∷ bytes) (suc at) h = small bytes at (All-tail (λ b. b < 256) b bytes h)

-- the bytes up to a place, compared one by one, with zeros after the last
abbrev bytewise : ℕ → List ℕ → List ℕ → Ordering
bytewise zero a b = nat_cmp (get_or a 0 0) (get_or b 0 0)
bytewise (suc at) a b = ordering_then (bytewise at a b) (nat_cmp (get_or a (suc at) 0) (get_or b (suc at) 0))

as_numbers : (at : ℕ) (a b : List ℕ) → All (λ x. x < 256) a → All (λ x. x < 256) b → bytewise at a b ≡ nat_cmp (number_to at a) (number_to at b)
as_numbers zero a b ha hb = refl
as_numbers (suc at) a b ha hb =
    ap (λ o. ordering_then o (nat_cmp (get_or a (suc at) 0) (get_or b (suc at) 0))) (as_numbers at a b ha hb)
    ∙ two_digits (number_to at a) (number_to at b) (get_or a (suc at) 0) (get_or b (suc at) 0) (small a (suc at) ha) (small b (suc at) hb)

abbrev rest : List ℕ → List ℕ
rest [] = []
rest (x ∷ xs) = xs

in_rest : (at : ℕ) (a : List ℕ) → get_or a (suc at) 0 ≡ get_or (rest a) at 0
in_rest at [] = refl
in_rest at (x ∷ xs) = refl

-- the first byte, and then the others
first_then : (at : ℕ) (a b : List ℕ) → bytewise (suc at) a b ≡ ordering_then (nat_cmp (get_or a 0 0) (get_or b 0 0)) (bytewise at (rest a) (rest b))
first_then zero a b = λ i. ordering_then (nat_cmp (get_or a 0 0) (get_or b 0 0)) (nat_cmp (in_rest 0 a i) (in_rest 0 b i))
first_then (suc at) a b =
    (λ i. ordering_then (first_then at a b i) (nat_cmp (in_rest (suc at) a i) (in_rest (suc at) b i)))
    ∙ then_then (nat_cmp (get_or a 0 0) (get_or b 0 0)) (bytewise at (rest a) (rest b)) (nat_cmp (get_or (rest a) (suc at) 0) (get_or (rest b) (suc at) 0))

-- a comparison that decides
abbrev Decides : Ordering → Type 0
Decides o = o ≡ Equal → ⊥

no_tie : (n : ℕ) → Decides (nat_cmp n n) → ⊥
no_tie n h = h (tied_itself nat_cmp_total n)

same_start : (x y : ℕ) (o r : Ordering) → (Decides o → r ≡ o) → Decides (ordering_then (nat_cmp x y) o) → ordering_then (nat_cmp x y) r ≡ ordering_then (nat_cmp x y) o
same_start x y o r same h = by (nat_cmp x y) h
  where
    by : (c : Ordering) → Decides (ordering_then c o) → ordering_then c r ≡ ordering_then c o
    by Less h = refl
    by Equal h = same h
    by Greater h = refl

none_before : (ys : List ℕ) (o : Ordering) → (Decides o → slice_cmp nat_cmp [] ys ≡ o) → Decides o → Less ≡ o
none_before [] o same h = absurd (h (sym (same h)))
none_before (y ∷ ys) o same h = same h

none_after : (xs : List ℕ) (o : Ordering) → (Decides o → slice_cmp nat_cmp xs [] ≡ o) → Decides o → Greater ≡ o
none_after [] o same h = absurd (h (sym (same h)))
none_after (x ∷ xs) o same h = same h

tie : {r : Ordering} (n : ℕ) (o : Ordering) → Decides (ordering_then (nat_cmp n n) o) → (Decides o → r ≡ o) → r ≡ ordering_then (nat_cmp n n) o
tie n o h same =
    let even : ordering_then (nat_cmp n n) o ≡ o = ap (λ c. ordering_then c o) (tied_itself nat_cmp_total n) in
    same (λ e. h (even ∙ e)) ∙ sym even

decided : (at : ℕ) (a b : List ℕ) → Decides (bytewise at a b) → slice_cmp nat_cmp a b ≡ bytewise at a b
decided zero [] [] h = absurd (no_tie 0 h)
decided zero [] (zero ∷ b) h = absurd (no_tie 0 h)
decided zero [] (suc y ∷ b) h = nat_cmp_is 0 (suc y) Less (omega arith)
decided zero (zero ∷ a) [] h = absurd (no_tie 0 h)
decided zero (suc x ∷ a) [] h = nat_cmp_is (suc x) 0 Greater (omega arith)
decided zero (x ∷ a) (y ∷ b) h = by (nat_cmp x y) h
  where
    by : (c : Ordering) → Decides c → ordering_then c (slice_cmp nat_cmp a b) ≡ c
    by Less h = refl
    by Equal h = absurd (h refl)
    by Greater h = refl
decided (suc at) a b h = go (decided at) a b (λ e. h (first_then at a b ∙ e)) ∙ sym (first_then at a b)
  where
    go : ((a b : List ℕ) → Decides (bytewise at a b) → slice_cmp nat_cmp a b ≡ bytewise at a b) → (a b : List ℕ) → Decides (ordering_then (nat_cmp (get_or a 0 0) (get_or b 0 0)) (bytewise at (rest a) (rest b)))
        → slice_cmp nat_cmp a b ≡ ordering_then (nat_cmp (get_or a 0 0) (get_or b 0 0)) (bytewise at (rest a) (rest b))
    go below (x ∷ a) (y ∷ b) h = same_start x y (bytewise at a b) (slice_cmp nat_cmp a b) (below a b) h
    go below [] [] h = tie 0 (bytewise at [] []) h (below [] [])
    go below [] (zero ∷ b) h = tie 0 (bytewise at [] b) h (none_before b (bytewise at [] b) (below [] b))
    go below [] (suc y ∷ b) h = ap (λ o. ordering_then o (bytewise at [] b)) (nat_cmp_is 0 (suc y) Less (omega arith))
    go below (zero ∷ a) [] h = tie 0 (bytewise at a []) h (none_after a (bytewise at a []) (below a []))
    go below (suc x ∷ a) [] h = ap (λ o. ordering_then o (bytewise at a [])) (nat_cmp_is (suc x) 0 Greater (omega arith))

-- so do the numbers
pub fronts_decide : (a b : List ℕ) (m n : ℕ) (o : Ordering) → m ≡ front_of a → n ≡ front_of b → All (λ x. x < 256) a → All (λ x. x < 256) b → nat_cmp m n ≡ o → Decides o → slice_cmp nat_cmp a b ≡ o
fronts_decide a b m n o em en ha hb e h =
    let same : bytewise 7 a b ≡ o = as_numbers 7 a b ha hb ∙ sym (λ i. nat_cmp (em i) (en i)) ∙ e in
    decided 7 a b (λ tie. h (sym same ∙ tie)) ∙ same

-- no bytes before others
pub none_first : (a b : List ℕ) (t : Bool) → (length a == 0) ≡ true → (length b == 0) ≡ t → cond t Equal Less ≡ slice_cmp nat_cmp a b
none_first [] [] true ha hb = refl
none_first [] (y ∷ b) false ha hb = refl
none_first [] [] false ha hb = cc
none_first [] (y ∷ b) true ha hb = absurd (omega (arith, eqb-true (length (y ∷ b)) 0 hb))
none_first (x ∷ a) b t ha hb = absurd (omega (arith, eqb-true (length (x ∷ a)) 0 ha))
