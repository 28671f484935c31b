-- How often a number stands among others: once for each exactly where no two are the same.
use Rattle.std.proofs.Common.{arith, ◌≡◌, ◌≢◌, refl, ap, sym, ◌∙◌, subst, ℕ, suc, ◌≤◌, ◌==◌, List, [], ◌∷◌, true, false, Bool, ◌⊎◌, inl, inr, cond, length, filter}
use Rattle.std.proofs.lemmas.Bool.{eq-eqb, eqb-true, cases_eq}
use Rattle.newt_spec_graph.specs.Lists.{Pairs, Among}
use Rattle.newt_spec_graph.proofs.Lists.{each-at, each-from}
use Rattle.newt_spec_check.specs.Damage.{count_of}

count-step : (n m : ℕ) (ns : List ℕ) (b : Bool) → (n == m) ≡ b → count_of n (m ∷ ns) ≡ length (cond b (m ∷ filter (λ m. n == m) ns) (filter (λ m. n == m) ns))
count-step n m ns b e = ap (λ b. length (cond b (m ∷ filter (λ m. n == m) ns) (filter (λ m. n == m) ns))) e

count-here : (n : ℕ) (ns : List ℕ) → count_of n (n ∷ ns) ≡ suc (count_of n ns)
count-here n ns = count-step n n ns true (eq-eqb n n refl)

not-same : (n m : ℕ) → n ≢ m → (n == m) ≡ false
not-same n m h = go (n == m) refl
  where
    go : (b : Bool) → (n == m) ≡ b → b ≡ false
    go true e = absurd (h (eqb-true n m e))
    go false e = refl

count-other : (n m : ℕ) (ns : List ℕ) → n ≢ m → count_of n (m ∷ ns) ≡ count_of n ns
count-other n m ns h = count-step n m ns false (not-same n m h)

pub count-some : (n : ℕ) (ns : List ℕ) → Among ns n → 1 ≤ count_of n ns
count-some n [] m = absurd m
count-some n (x ∷ ns) (inl e) = subst (λ x. 1 ≤ count_of n (x ∷ ns)) (sym e) (omega (arith, count-here n ns))
count-some n (x ∷ ns) (inr m) = go (cases_eq n x) (count-some n ns m)
  where
    go : (n ≡ x) ⊎ (n ≡ x → ⊥) → 1 ≤ count_of n ns → 1 ≤ count_of n (x ∷ ns)
    go (inl e) h = subst (λ x. 1 ≤ count_of n (x ∷ ns)) e (omega (arith, count-here n ns))
    go (inr k) h = omega (arith, h, count-other n x ns k)

pub count-none : (n : ℕ) (ns : List ℕ) → (Among ns n → ⊥) → count_of n ns ≡ 0
count-none n [] h = refl
count-none n (x ∷ ns) h = count-other n x ns (λ e. h (inl (sym e))) ∙ count-none n ns (λ m. h (inr m))

pub count-among : (n : ℕ) (ns : List ℕ) → count_of n ns ≡ 1 → Among ns n
count-among n [] h = absurd (omega (arith, h))
count-among n (x ∷ ns) h = go (cases_eq n x) (count-among n ns)
  where
    go : (n ≡ x) ⊎ (n ≡ x → ⊥) → (count_of n ns ≡ 1 → Among ns n) → Among (x ∷ ns) n
    go (inl e) more = inl (sym e)
    go (inr k) more = inr (more (sym (count-other n x ns k) ∙ h))

-- where no two are the same, each stands once
pub apart-count : (n : ℕ) (ns : List ℕ) → Pairs (λ a b. a ≢ b) ns → Among ns n → count_of n ns ≡ 1
apart-count n [] h m = absurd m
apart-count n (x ∷ ns) h (inl e) = subst (λ n. count_of n (x ∷ ns) ≡ 1) e (count-here x ns ∙ ap suc (count-none x ns (λ m. each-at (λ b. x ≢ b) ns x h.0 m refl)))
apart-count n (x ∷ ns) h (inr m) = count-other n x ns (λ e. each-at (λ b. x ≢ b) ns n h.0 m (sym e)) ∙ apart-count n ns h.1 m

-- and where each stands once, no two are the same
pub count-apart : (ns : List ℕ) → ((n : ℕ) → Among ns n → count_of n ns ≡ 1) → Pairs (λ a b. a ≢ b) ns
count-apart [] h = tt
count-apart (x ∷ ns) h = (
  each-from (λ b. x ≢ b) ns (λ z m e. other z m e),
  count-apart ns (λ n m. sym (count-other n x ns (λ e. other n m (sym e))) ∙ h n (inr m)),
)
  where
    other : (z : ℕ) → Among ns z → x ≡ z → ⊥
    other z m e =
        let one = h x (inl refl) in
        let some = count-some x ns (subst (Among ns) (sym e) m) in
        omega (arith, one, some, count-here x ns)
