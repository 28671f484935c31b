-- Lemmas on elements of lists.
use Rattle.std.proofs.Common.{arith, ◌≡◌, refl, ap, sym, ◌∙◌, subst, ℕ, zero, suc, ◌+◌, ◌<◌, ◌≤◌, List, [], ◌∷◌, ◌++◌, true, false, Bool, ◌⊎◌, inl, inr, map, filter, flat_map, filter_map, cond, slice_get, Option, Some, None}
use Rattle.std.specs.List.{list_all, cons_option}
use Rattle.newt_spec_graph.specs.Lists.{rises}
use Rattle.newt_spec_graph.specs.Lists.{Each, Pairs, Among}

-- ---- each

pub each-at : {X : Type 0} (P : X → Type 0) (xs : List X) (z : X) → Each P xs → Among xs z → P z
each-at P [] z h m = absurd m
each-at P (x ∷ xs) z h (inl e) = subst P e h.0
each-at P (x ∷ xs) z h (inr m) = each-at P xs z h.1 m

pub each-from : {X : Type 0} (P : X → Type 0) (xs : List X) → ((z : X) → Among xs z → P z) → Each P xs
each-from P [] h = tt
each-from P (x ∷ xs) h = (h x (inl refl), each-from P xs (λ z m. h z (inr m)))

pub each-more : {X : Type 0} (P Q : X → Type 0) (xs : List X) → ((z : X) → P z → Q z) → Each P xs → Each Q xs
each-more P Q [] f h = tt
each-more P Q (x ∷ xs) f h = (f x h.0, each-more P Q xs f h.1)

pub each-append : {X : Type 0} (P : X → Type 0) (xs ys : List X) → Each P xs → Each P ys → Each P (xs ++ ys)
each-append P [] ys h k = k
each-append P (x ∷ xs) ys h k = (h.0, each-append P xs ys h.1 k)

pub each-map : {X Y : Type 0} (P : Y → Type 0) (f : X → Y) (xs : List X) → Each P (map f xs) → Each (λ x. P (f x)) xs
each-map P f [] h = tt
each-map P f (x ∷ xs) h = (h.0, each-map P f xs h.1)

pub each-list_all : {X : Type 0} (test : X → Bool) (xs : List X) → list_all test xs ≡ true → Each (λ x. test x ≡ true) xs
each-list_all test [] h = tt
each-list_all test (x ∷ xs) h = (grind arith, each-list_all test xs (grind arith))

pub list_all-each : {X : Type 0} (test : X → Bool) (xs : List X) → Each (λ x. test x ≡ true) xs → list_all test xs ≡ true
list_all-each test [] h = refl
list_all-each test (x ∷ xs) h = grind (arith, list_all-each test xs h.1, h.0)

-- ---- among

pub among-left : {X : Type 0} (xs ys : List X) (z : X) → Among xs z → Among (xs ++ ys) z
among-left [] ys z m = absurd m
among-left (x ∷ xs) ys z (inl e) = inl e
among-left (x ∷ xs) ys z (inr m) = inr (among-left xs ys z m)

pub among-right : {X : Type 0} (xs ys : List X) (z : X) → Among ys z → Among (xs ++ ys) z
among-right [] ys z m = m
among-right (x ∷ xs) ys z m = inr (among-right xs ys z m)

pub among-append : {X : Type 0} (xs ys : List X) (z : X) → Among (xs ++ ys) z → Among xs z ⊎ Among ys z
among-append [] ys z m = inr m
among-append (x ∷ xs) ys z (inl e) = inl (inl e)
among-append (x ∷ xs) ys z (inr m) = elim (among-append xs ys z m) [ inl a ↦ inl (inr a) | inr b ↦ inr b ]

pub among-flat_map : {X Y : Type 0} (f : X → List Y) (xs : List X) (z : Y) → Among (flat_map f xs) z → (x : X) × Among xs x × Among (f x) z
among-flat_map f [] z m = absurd m
among-flat_map f (x ∷ xs) z m = go (among-flat_map f xs z) (among-append (f x) (flat_map f xs) z m)
  where
    go : (Among (flat_map f xs) z → (y : _) × Among xs y × Among (f y) z) → Among (f x) z ⊎ Among (flat_map f xs) z → (y : _) × Among (x ∷ xs) y × Among (f y) z
    go more (inl a) = (x, inl refl, a)
    go more (inr b) = let r = more b in (r.0, inr r.1, r.2)

pub flat_map-among : {X Y : Type 0} (f : X → List Y) (xs : List X) (x : X) (z : Y) → Among xs x → Among (f x) z → Among (flat_map f xs) z
flat_map-among f [] x z m k = absurd m
flat_map-among f (y ∷ xs) x z (inl e) k = among-left (f y) (flat_map f xs) z (subst (λ v. Among (f v) z) (sym e) k)
flat_map-among f (y ∷ xs) x z (inr m) k = among-right (f y) (flat_map f xs) z (flat_map-among f xs x z m k)

pub among-filter : {X : Type 0} (test : X → Bool) (xs : List X) (z : X) → Among (filter test xs) z → Among xs z × (test z ≡ true)
among-filter test [] z m = absurd m
among-filter test (x ∷ xs) z m = go (among-filter test xs z) (test x) refl m
  where
    go : (Among (filter test xs) z → Among xs z × (test z ≡ true))
        → (b : Bool) → test x ≡ b → Among (cond b (x ∷ filter test xs) (filter test xs)) z → Among (x ∷ xs) z × (test z ≡ true)
    go more true e (inl k) = (inl k, subst (λ v. test v ≡ true) k e)
    go more true e (inr k) = let r = more k in (inr r.0, r.1)
    go more false e k = let r = more k in (inr r.0, r.1)

pub both-ways : false ≡ true → ⊥
both-ways k = cc

pub filter-among : {X : Type 0} (test : X → Bool) (xs : List X) (z : X) → Among xs z → test z ≡ true → Among (filter test xs) z
filter-among test [] z m h = absurd m
filter-among test (x ∷ xs) z m h = go (λ k. filter-among test xs z k h) (test x) refl m
  where
    go : (Among xs z → Among (filter test xs) z)
        → (b : Bool) → test x ≡ b → Among (x ∷ xs) z → Among (cond b (x ∷ filter test xs) (filter test xs)) z
    go more true e (inl k) = inl k
    go more true e (inr k) = inr (more k)
    go more false e (inl k) = absurd (both-ways (sym e ∙ ap test k ∙ h))
    go more false e (inr k) = more k

pub some-same : {X : Type 0} (a b : X) → Some a ≡ Some b → a ≡ b
some-same a b h = cc

pub none-some : {X : Type 0} (a : X) → None ≡ Some a → ⊥
none-some a h = cc

pub get-among : {X : Type 0} (xs : List X) (n : ℕ) (x : X) → slice_get xs n ≡ Some x → Among xs x
get-among [] n x h = absurd (none-some x h)
get-among (y ∷ xs) zero x h = inl (some-same y x h)
get-among (y ∷ xs) (suc n) x h = inr (get-among xs n x h)

pub among-filter_map : {X Y : Type 0} (f : X → Option Y) (xs : List X) (z : Y) → Among (filter_map f xs) z → (x : X) × Among xs x × (f x ≡ Some z)
among-filter_map f [] z m = absurd m
among-filter_map f (x ∷ xs) z m = go (among-filter_map f xs z) (f x) refl m
  where
    go : (Among (filter_map f xs) z → (y : _) × Among xs y × (f y ≡ Some z))
        → (o : Option _) → f x ≡ o → Among (cons_option o (filter_map f xs)) z → (y : _) × Among (x ∷ xs) y × (f y ≡ Some z)
    go more None e k = let r = more k in (r.0, inr r.1, r.2)
    go more (Some a) e (inl k) = (x, inl refl, e ∙ ap Some k)
    go more (Some a) e (inr k) = let r = more k in (r.0, inr r.1, r.2)

pub filter_map-among : {X Y : Type 0} (f : X → Option Y) (xs : List X) (x : X) (z : Y) → Among xs x → f x ≡ Some z → Among (filter_map f xs) z
filter_map-among f [] x z m h = absurd m
filter_map-among f (y ∷ xs) x z m h = go (λ k. filter_map-among f xs x z k h) (f y) refl m
  where
    go : (Among xs x → Among (filter_map f xs) z)
        → (o : Option _) → f y ≡ o → Among (y ∷ xs) x → Among (cons_option o (filter_map f xs)) z
    go more None e (inl k) = absurd (none-some z (sym e ∙ ap f k ∙ h))
    go more None e (inr k) = more k
    go more (Some a) e (inl k) = inl (some-same a z (sym e ∙ ap f k ∙ h))
    go more (Some a) e (inr k) = inr (more k)

-- ---- pairs

pub pairs-more : {X : Type 0} (R S : X → X → Type 0) (xs : List X) → ((a b : X) → Among xs a → Among xs b → R a b → S a b) → Pairs R xs → Pairs S xs
pairs-more R S [] f h = tt
pairs-more R S (x ∷ xs) f h = (
  each-from (S x) xs (λ z m. f x z (inl refl) (inr m) (each-at (R x) xs z h.0 m)),
  pairs-more R S xs (λ a b m k. f a b (inr m) (inr k)) h.1,
)

pub pairs-map : {X Y : Type 0} (R : Y → Y → Type 0) (f : X → Y) (xs : List X) → Pairs R (map f xs) → Pairs (λ a b. R (f a) (f b)) xs
pairs-map R f [] h = tt
pairs-map R f (x ∷ xs) h = (each-map (R (f x)) f xs h.0, pairs-map R f xs h.1)

pub pairs-append : {X : Type 0} (R : X → X → Type 0) (xs ys : List X) → Pairs R xs → Pairs R ys → Each (λ x. Each (R x) ys) xs → Pairs R (xs ++ ys)
pairs-append R [] ys h k c = k
pairs-append R (x ∷ xs) ys h k c = (each-append (R x) xs ys h.0 c.0, pairs-append R xs ys h.1 k c.1)

pub pairs-flat_map : {X Y : Type 0} (R : Y → Y → Type 0) (f : X → List Y) (xs : List X) → Each (λ x. Pairs R (f x)) xs
    → Pairs (λ x y. (a b : Y) → Among (f x) a → Among (f y) b → R a b) xs → Pairs R (flat_map f xs)
pairs-flat_map R f [] h k = tt
pairs-flat_map R f (x ∷ xs) h k =
    pairs-append R (f x) (flat_map f xs) h.0 (pairs-flat_map R f xs h.1 k.1)
    (each-from (λ a. Each (R a) (flat_map f xs)) (f x) (λ a m. each-from (R a) (flat_map f xs) (λ b n.
    let r = among-flat_map f xs b n in each-at (λ y. (a b : _) → Among (f x) a → Among (f y) b → R a b) xs r.0 k.0 r.1 a b m r.2)))

pub pairs-filter : {X : Type 0} (R : X → X → Type 0) (test : X → Bool) (xs : List X) → Pairs R xs → Pairs R (filter test xs)
pairs-filter R test [] h = tt
pairs-filter R test (x ∷ xs) h = go (pairs-filter R test xs h.1) (test x)
  where
    go : Pairs R (filter test xs) → (b : Bool) → Pairs R (cond b (x ∷ filter test xs) (filter test xs))
    go more true = (each-from (R x) (filter test xs) (λ z m. each-at (R x) xs z h.0 (among-filter test xs z m).0), more)
    go more false = more

pub pairs-filter_map : {X Y : Type 0} (R : Y → Y → Type 0) (f : X → Option Y) (xs : List X)
    → Pairs (λ x y. (a b : Y) → f x ≡ Some a → f y ≡ Some b → R a b) xs → Pairs R (filter_map f xs)
pairs-filter_map R f [] h = tt
pairs-filter_map R f (x ∷ xs) h = go (pairs-filter_map R f xs h.1) (f x) refl
  where
    go : Pairs R (filter_map f xs) → (o : Option _) → f x ≡ o → Pairs R (cons_option o (filter_map f xs))
    go more None e = more
    go more (Some a) e = (
      each-from (R a) (filter_map f xs) (λ b m. let r = among-filter_map f xs b m in
          each-at (λ y. (a b : _) → f x ≡ Some a → f y ≡ Some b → R a b) xs r.0 h.0 r.1 a b e r.2),
      more,
    )

-- ---- numbers that rise

pub rises-above : (low high : ℕ) (ns : List ℕ) → rises low high ns ≡ true → Each (λ n. (low ≤ n) × (n < high)) ns
rises-above low high [] h = tt
rises-above low high (n ∷ ns) h = (grind arith, each-more _ _ ns (λ z k. (omega (arith, k.0, low-le), k.1)) (rises-above (n + 1) high ns (grind arith)))
  where
    low-le : low ≤ n
    low-le = grind arith

pub rises-pairs : (low high : ℕ) (ns : List ℕ) → rises low high ns ≡ true → Pairs (λ m n. m < n) ns
rises-pairs low high [] h = tt
rises-pairs low high (n ∷ ns) h = (
  each-more _ _ ns (λ z k. omega (arith, k.0)) (rises-above (n + 1) high ns (grind arith)),
  rises-pairs (n + 1) high ns (grind arith),
)
