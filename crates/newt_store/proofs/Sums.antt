-- Two lists with the same numbers, each once.
use Rattle.std.proofs.Common.{◌≡◌, ◌≢◌, inl, inr, ℕ, ◌+◌, ◌==◌, ◌||◌, Bool, true, false, cond, not, List, [], ◌∷◌, filter, sum_by, refl, sym, ◌∙◌, ap, arith, ⊎_elim}
use Rattle.std.specs.List.{IsDistinct, AllByRecursion}
use Rattle.std.specs.Set.{is_member}
use Rattle.std.proofs.lemmas.List.Sums.{sum_by-cons}
use Rattle.newt_pagebook.proofs.Tests.{true_or_false, is_same, equal_true, equal_false}
use Rattle.newt_spec_graph.specs.Lists.{Each, Among}
use Rattle.newt_objects_commit.specs.Batch.{AreOnce}

abbrev pub same_number : ℕ → ℕ → Bool
same_number a b = a == b

pub other-way : (a b : ℕ) → same_number a b ≡ same_number b a
other-way a b = ⊎_elim
    (λ (e : (a == b) ≡ true). e ∙ sym (equal_true b a (sym (is_same a b e))))
    (λ (e : (a == b) ≡ false). e ∙ sym (equal_false b a (λ is. absurd (let yes : (a == b) ≡ true = equal_true a b (sym is) in cc))))
    (true_or_false (a == b))

-- ---- members

pub among-member : (xs : List ℕ) (q : ℕ) → Among xs q → is_member same_number xs q ≡ true
among-member [] q m = absurd m
among-member (x ∷ xs) q (inl same) = ap (λ (b : Bool). b || is_member same_number xs q) (equal_true q x (sym same))
among-member (x ∷ xs) q (inr m) = or-later (same_number q x) (among-member xs q m) where
  or-later : (b : Bool) → is_member same_number xs q ≡ true → (b || is_member same_number xs q) ≡ true
  or-later true more = refl
  or-later false more = more

pub member-among : (xs : List ℕ) (q : ℕ) → is_member same_number xs q ≡ true → Among xs q
member-among [] q is = absurd (cc)
member-among (x ∷ xs) q is = by (same_number q x) refl is (λ more. member-among xs q more) where
  by : (b : Bool) → same_number q x ≡ b → (b || is_member same_number xs q) ≡ true → (is_member same_number xs q ≡ true → Among xs q) → Among (x ∷ xs) q
  by true e h later = inl (sym (is_same q x e))
  by false e h later = inr (later h)

all-apart : (x : ℕ) (xs : List ℕ) → Each (λ y. x ≢ y) xs → AllByRecursion (λ y. same_number x y ≡ false) xs
all-apart x [] each = tt
all-apart x (y ∷ xs) each = (equal_false x y each.0, all-apart x xs each.1)

pub once-distinct : (xs : List ℕ) → AreOnce xs → IsDistinct same_number xs
unfolding IsDistinct
once-distinct [] once = tt
once-distinct (x ∷ xs) once = (all-apart x xs once.0, once-distinct xs once.1)

-- ---- sums

module _ (x : ℕ) where
  abbrev others : List ℕ → List ℕ
  others ys = filter (λ y. not (same_number x y)) ys

  none-left-out : (ys : List ℕ) → AllByRecursion (λ y. same_number x y ≡ false) ys → others ys ≡ ys
  none-left-out [] h = refl
  none-left-out (y ∷ ys) h = ap (λ (b : Bool). cond (not b) (y ∷ others ys) (others ys)) h.0 ∙ ap (λ (l : List ℕ). y ∷ l) (none-left-out ys h.1)

  all-others : (z : ℕ) (ys : List ℕ) → AllByRecursion (λ y. same_number z y ≡ false) ys → AllByRecursion (λ y. same_number z y ≡ false) (others ys)
  all-others z [] h = tt
  all-others z (y ∷ ys) h = by (not (same_number x y)) (all-others z ys h.1) where
    by : (b : Bool) → AllByRecursion (λ y. same_number z y ≡ false) (others ys) → AllByRecursion (λ y. same_number z y ≡ false) (cond b (y ∷ others ys) (others ys))
    by true more = (h.0, more)
    by false more = more

  distinct-others : (ys : List ℕ) → IsDistinct same_number ys → IsDistinct same_number (others ys)
  unfolding IsDistinct
  distinct-others [] h = tt
  distinct-others (y ∷ ys) h = by (not (same_number x y)) (distinct-others ys h.1) where
    by : (b : Bool) → IsDistinct same_number (others ys) → IsDistinct same_number (cond b (y ∷ others ys) (others ys))
    by true more = (all-others y ys h.0, more)
    by false more = more

  member-others : (ys : List ℕ) (q : ℕ) → same_number x q ≡ false → is_member same_number (others ys) q ≡ is_member same_number ys q
  member-others [] q ne = refl
  member-others (y ∷ ys) q ne = by (same_number x y) refl (member-others ys q ne) where
    by : (b : Bool) → same_number x y ≡ b → is_member same_number (others ys) q ≡ is_member same_number ys q
        → is_member same_number (cond (not b) (y ∷ others ys) (others ys)) q ≡ (same_number q y || is_member same_number ys q)
    by true e more = more ∙ ap (λ (b : Bool). b || is_member same_number ys q) (sym (other-way q y ∙ ap (λ (n : ℕ). same_number n q) (sym (is_same x y e)) ∙ ne))
    by false e more = ap (λ (b : Bool). same_number q y || b) more

  not-among : (ys : List ℕ) → AllByRecursion (λ y. same_number x y ≡ false) ys → is_member same_number ys x ≡ false
  not-among [] h = refl
  not-among (y ∷ ys) h = ap (λ (b : Bool). b || is_member same_number ys x) h.0 ∙ not-among ys h.1

  not-others : (ys : List ℕ) → is_member same_number (others ys) x ≡ false
  not-others [] = refl
  not-others (y ∷ ys) = by (same_number x y) refl (not-others ys) where
    by : (b : Bool) → same_number x y ≡ b → is_member same_number (others ys) x ≡ false → is_member same_number (cond (not b) (y ∷ others ys) (others ys)) x ≡ false
    by true e more = more
    by false e more = ap (λ (b : Bool). b || is_member same_number (others ys) x) e ∙ more

  sum-others : (f : ℕ → ℕ) (ys : List ℕ) → IsDistinct same_number ys → is_member same_number ys x ≡ true → sum_by f ys ≡ f x + sum_by f (others ys)
  unfolding IsDistinct
  sum-others f [] h is = absurd (cc)
  sum-others f (y ∷ ys) h is = by (same_number x y) refl is (λ there. sum-others f ys h.1 there) where
    by : (b : Bool) → same_number x y ≡ b → (b || is_member same_number ys x) ≡ true → (is_member same_number ys x ≡ true → sum_by f ys ≡ f x + sum_by f (others ys))
        → sum_by f (y ∷ ys) ≡ f x + sum_by f (cond (not b) (y ∷ others ys) (others ys))
    by true e there more =
        let same : x ≡ y = is_same x y e in
        let rest : others ys ≡ ys = none-left-out ys (ap-all same h.0) in
        sum_by-cons f y ys ∙ ap (λ (n : ℕ). f n + sum_by f ys) (sym same) ∙ ap (λ (l : List ℕ). f x + sum_by f l) (sym rest) where
          ap-all : x ≡ y → AllByRecursion (λ z. same_number y z ≡ false) ys → AllByRecursion (λ z. same_number x z ≡ false) ys
          ap-all same h = moved ys (sym same) h where
            moved : (zs : List ℕ) → y ≡ x → AllByRecursion (λ z. same_number y z ≡ false) zs → AllByRecursion (λ z. same_number x z ≡ false) zs
            moved [] e h = tt
            moved (z ∷ zs) e h = (ap (λ (n : ℕ). same_number n z) (sym e) ∙ h.0, moved zs e h.1)
    by false e there more =
        let rest = more there in
        sum_by-cons f y ys ∙ ap (λ (n : ℕ). f y + n) rest ∙ turned (f y) (f x) (sum_by f (others ys)) ∙ ap (λ (n : ℕ). f x + n) (sym (sum_by-cons f y (others ys))) where
          turned : (a b c : ℕ) → a + (b + c) ≡ b + (a + c)
          turned a b c = omega arith

pub sums-agree : (f : ℕ → ℕ) (xs ys : List ℕ) → IsDistinct same_number xs → IsDistinct same_number ys → ((q : ℕ) → is_member same_number xs q ≡ is_member same_number ys q) → sum_by f xs ≡ sum_by f ys
unfolding IsDistinct
sums-agree f [] [] dx dy same = refl
sums-agree f [] (y ∷ ys) dx dy same = absurd (let no : false ≡ true = same y ∙ ap (λ (b : Bool). b || is_member same_number ys y) (equal_true y y refl) in cc)
sums-agree f (x ∷ xs) ys dx dy same =
    sum_by-cons f x xs ∙ ap (λ (n : ℕ). f x + n) (sums-agree f xs (others x ys) dx.1 (distinct-others x ys dy) rest) ∙ sym (sum-others x f ys dy here) where
      here : is_member same_number ys x ≡ true
      here = sym (same x) ∙ ap (λ (b : Bool). b || is_member same_number xs x) (equal_true x x refl)

      rest : (q : ℕ) → is_member same_number xs q ≡ is_member same_number (others x ys) q
      rest q = ⊎_elim
          (λ (e : same_number x q ≡ true).
          let is : x ≡ q = is_same x q e in
          ap (is_member same_number xs) (sym is) ∙ not-among x xs dx.0 ∙ sym (not-others x ys) ∙ ap (is_member same_number (others x ys)) is)
          (λ (e : same_number x q ≡ false).
          ap (λ (b : Bool). b || is_member same_number xs q) (sym (other-way q x ∙ e)) ∙ same q ∙ sym (member-others x ys q e))
          (true_or_false (same_number x q))
