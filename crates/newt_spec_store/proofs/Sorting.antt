-- An insertion sort by a total order, of elements of which no two tie.
use Rattle.std.proofs.Common.{◌≡◌, refl, ap, sym, ◌∙◌, subst, List, [], ◌∷◌, true, false, Bool, ◌⊎◌, inl, inr, cond, fold}
use Rattle.std.specs.declared.cmp.Ordering.{Ordering}
use Rattle.std.specs.declared.cmp.Ordering.TheVariants.{Less, Equal, Greater}
use Rattle.std.specs.Cmp.{IsTotalOrder}
use Rattle.std.specs.Ordering.{is_lt, ordering_reverse}
use Rattle.std.proofs.lemmas.Cmp.{tied_back}
use Rattle.newt_spec_store.specs.Sorted.{insert_by, sorted_by}
use Rattle.newt_spec_graph.specs.Lists.{Each, Pairs, Among}
use Rattle.newt_spec_graph.proofs.Lists.{each-more, each-at, each-from}

pub insert-among : {X : Type 0} (cmp : X → X → Ordering) (ys : List X) (x z : X) → (x ≡ z) ⊎ Among ys z → Among (insert_by cmp ys x) z
insert-among cmp [] x z (inl e) = inl e
insert-among cmp [] x z (inr m) = absurd m
insert-among cmp (y ∷ ys) x z m = go (insert-among cmp ys x z) (is_lt (cmp x y)) m
  where
    go : ((x ≡ z) ⊎ Among ys z → Among (insert_by cmp ys x) z) → (b : Bool) → (x ≡ z) ⊎ Among (y ∷ ys) z → Among (cond b (x ∷ y ∷ ys) (y ∷ insert_by cmp ys x)) z
    go more true (inl e) = inl e
    go more true (inr m) = inr m
    go more false (inl e) = inr (more (inl e))
    go more false (inr (inl e)) = inl e
    go more false (inr (inr m)) = inr (more (inr m))

pub among-insert : {X : Type 0} (cmp : X → X → Ordering) (ys : List X) (x z : X) → Among (insert_by cmp ys x) z → (x ≡ z) ⊎ Among ys z
among-insert cmp [] x z (inl e) = inl e
among-insert cmp [] x z (inr m) = absurd m
among-insert cmp (y ∷ ys) x z m = go (among-insert cmp ys x z) (is_lt (cmp x y)) m
  where
    go : (Among (insert_by cmp ys x) z → (x ≡ z) ⊎ Among ys z) → (b : Bool) → Among (cond b (x ∷ y ∷ ys) (y ∷ insert_by cmp ys x)) z → (x ≡ z) ⊎ Among (y ∷ ys) z
    go more true (inl e) = inl e
    go more true (inr m) = inr m
    go more false (inl e) = inr (inl e)
    go more false (inr m) = elim (more m) [ inl e ↦ inl e | inr k ↦ inr (inr k) ]

pub fold-among : {X : Type 0} (cmp : X → X → Ordering) (ys xs : List X) (z : X) → Among ys z ⊎ Among xs z → Among (fold (insert_by cmp) ys xs) z
fold-among cmp ys [] z (inl m) = m
fold-among cmp ys [] z (inr m) = absurd m
fold-among cmp ys (x ∷ xs) z (inl m) = fold-among cmp (insert_by cmp ys x) xs z (inl (insert-among cmp ys x z (inr m)))
fold-among cmp ys (x ∷ xs) z (inr (inl e)) = fold-among cmp (insert_by cmp ys x) xs z (inl (insert-among cmp ys x z (inl e)))
fold-among cmp ys (x ∷ xs) z (inr (inr m)) = fold-among cmp (insert_by cmp ys x) xs z (inr m)

pub among-fold : {X : Type 0} (cmp : X → X → Ordering) (ys xs : List X) (z : X) → Among (fold (insert_by cmp) ys xs) z → Among ys z ⊎ Among xs z
among-fold cmp ys [] z m = inl m
among-fold cmp ys (x ∷ xs) z m = go (among-fold cmp (insert_by cmp ys x) xs z m)
  where
    go : Among (insert_by cmp ys x) z ⊎ Among xs z → Among ys z ⊎ Among (x ∷ xs) z
    go (inl k) = elim (among-insert cmp ys x z k) [ inl e ↦ inr (inl e) | inr n ↦ inl n ]
    go (inr k) = inr (inr k)

-- ---- order

abbrev pub Rise : {X : Type 0} → (X → X → Ordering) → X → X → Type 0
Rise cmp a b = cmp a b ≡ Less

abbrev pub Untied : {X : Type 0} → (X → X → Ordering) → X → X → Type 0
Untied cmp a b = cmp a b ≡ Equal → ⊥

pub insert-rises : {X : Type 0} (cmp : X → X → Ordering) → IsTotalOrder cmp → (ys : List X) (x : X) → Pairs (Rise cmp) ys → Each (Untied cmp x) ys → Pairs (Rise cmp) (insert_by cmp ys x)
insert-rises cmp o [] x h k = (tt, tt)
insert-rises cmp o (y ∷ ys) x h k = go (insert-rises cmp o ys x h.1 k.1) (cmp x y) refl
  where
    go : Pairs (Rise cmp) (insert_by cmp ys x) → (r : Ordering) → cmp x y ≡ r → Pairs (Rise cmp) (cond (is_lt r) (x ∷ y ∷ ys) (y ∷ insert_by cmp ys x))
    go more Less e = ((e, each-more (Rise cmp y) (Rise cmp x) ys (λ z l. o.trans x y z e l) h.0), h)
    go more Equal e = absurd (k.0 e)
    go more Greater e = (
      each-from (Rise cmp y) (insert_by cmp ys x) (λ z m. elim (among-insert cmp ys x z m) [
        | inl s ↦ o.antisymm y z ∙ ap (λ v. ordering_reverse (cmp v y)) (sym s) ∙ ap ordering_reverse e
        | inr n ↦ each-at (Rise cmp y) ys z h.0 n
      ]),
      more,
    )

pub fold-rises : {X : Type 0} (cmp : X → X → Ordering) → IsTotalOrder cmp → (ys xs : List X) → Pairs (Rise cmp) ys → Pairs (Untied cmp) xs
    → Each (λ x. Each (Untied cmp x) ys) xs → Pairs (Rise cmp) (fold (insert_by cmp) ys xs)
fold-rises cmp o ys [] h k c = h
fold-rises cmp o ys (x ∷ xs) h k c =
    fold-rises cmp o (insert_by cmp ys x) xs (insert-rises cmp o ys x h c.0) k.1
    (each-from (λ v. Each (Untied cmp v) (insert_by cmp ys x)) xs (λ v m. each-from (Untied cmp v) (insert_by cmp ys x) (λ z n. elim (among-insert cmp ys x z n) [
      | inl e ↦ λ t. each-at (Untied cmp x) xs v k.0 m (tied_back o v x (ap (cmp v) e ∙ t))
      | inr l ↦ each-at (Untied cmp v) ys z (each-at (λ w. Each (Untied cmp w) ys) xs v c.1 m) l
    ])))

pub sorted-rises : {X : Type 0} (cmp : X → X → Ordering) → IsTotalOrder cmp → (xs : List X) → Pairs (Untied cmp) xs → Pairs (Rise cmp) (sorted_by cmp xs)
sorted-rises cmp o xs h = fold-rises cmp o [] xs tt h (each-from _ xs (λ z m. tt))

-- what holds of each two elements in both orders holds after the sort
pub insert-pairs : {X : Type 0} (R : X → X → Type 0) (cmp : X → X → Ordering) → ((a b : X) → R a b → R b a) → (ys : List X) (x : X) → Each (R x) ys → Pairs R ys → Pairs R (insert_by cmp ys x)
insert-pairs R cmp back [] x h k = (tt, tt)
insert-pairs R cmp back (y ∷ ys) x h k = go (insert-pairs R cmp back ys x h.1 k.1) (is_lt (cmp x y))
  where
    go : Pairs R (insert_by cmp ys x) → (b : Bool) → Pairs R (cond b (x ∷ y ∷ ys) (y ∷ insert_by cmp ys x))
    go more true = (h, k)
    go more false = (each-from (R y) (insert_by cmp ys x) (λ z m. elim (among-insert cmp ys x z m) [ inl e ↦ subst (R y) e (back x y h.0) | inr n ↦ each-at (R y) ys z k.0 n ]), more)

pub fold-pairs : {X : Type 0} (R : X → X → Type 0) (cmp : X → X → Ordering) → ((a b : X) → R a b → R b a) → (ys xs : List X) → Pairs R ys → Pairs R xs
    → Each (λ x. Each (R x) ys) xs → Pairs R (fold (insert_by cmp) ys xs)
fold-pairs R cmp back ys [] h k c = h
fold-pairs R cmp back ys (x ∷ xs) h k c =
    fold-pairs R cmp back (insert_by cmp ys x) xs (insert-pairs R cmp back ys x c.0 h) k.1
    (each-from (λ v. Each (R v) (insert_by cmp ys x)) xs (λ v m. each-from (R v) (insert_by cmp ys x) (λ z n. elim (among-insert cmp ys x z n) [
      | inl e ↦ subst (R v) e (back x v (each-at (R x) xs v k.0 m))
      | inr l ↦ each-at (R v) ys z (each-at (λ w. Each (R w) ys) xs v c.1 m) l
    ])))
