-- The least of what is in a list: the first of the sorted list is it, and so is the least of the least.
use Rattle.std.proofs.Common.{◌≡◌, refl, sym, ◌∙◌, ap, subst, Bool, true, false, cond, List, [], ◌∷◌, filter, fold, Option, Some, None, ◌⊎◌, inl, inr}
use Rattle.std.specs.declared.cmp.Ordering.{Ordering}
use Rattle.std.specs.declared.cmp.Ordering.TheVariants.{Less, Equal, Greater}
use Rattle.std.specs.Cmp.{IsTotalOrder}
use Rattle.std.specs.Ordering.{is_lt, ordering_reverse}
use Rattle.newt_spec_graph.specs.Lists.{Pairs, Among}
use Rattle.newt_spec_graph.proofs.Lists.{each-at, each-from, among-filter}
use Rattle.newt_spec_store.specs.Sorted.{insert_by, sorted_by}
use Rattle.newt_spec_store.proofs.Sorting.{among-insert, fold-among, among-fold}
use Rattle.newt_index.specs.Pairs.{first, last}
use Rattle.newt_union.specs.Candidates.{lesser}

-- none of these is less than this one, which is one of them; with none there is none
abbrev pub IsLeast : {X : Type 0} → (X → X → Ordering) → (X → Type 0) → Option X → Type 0
IsLeast {X} cmp In None = (x : X) → In x → ⊥
IsLeast {X} cmp In (Some a) = In a × ((x : X) → In x → cmp x a ≡ Less → ⊥)

-- the elements of a list that pass
abbrev pub Passing : {X : Type 0} → (X → Bool) → List X → X → Type 0
Passing test xs x = Among xs x × (test x ≡ true)

-- there is but one, where only equal ones tie
pub only_least : {X : Type 0} (cmp : X → X → Ordering) → IsTotalOrder cmp → (In : X → Type 0) → ((a b : X) → In a → In b → cmp a b ≡ Equal → a ≡ b)
    → (r s : Option X) → IsLeast cmp In r → IsLeast cmp In s → r ≡ s
only_least cmp o In ties None None h k = refl
only_least cmp o In ties None (Some b) h k = absurd (h b k.0)
only_least cmp o In ties (Some a) None h k = absurd (k a h.0)
only_least cmp o In ties (Some a) (Some b) h k = go (cmp a b) refl
  where
    go : (r : Ordering) → cmp a b ≡ r → Some a ≡ Some b
    go Less e = absurd (k.1 a h.0 e)
    go Equal e = ap Some (ties a b h.0 k.0 e)
    go Greater e = absurd (h.1 b k.0 (o.antisymm b a ∙ ap ordering_reverse e))

-- what is in the same is the least of the same
pub least_of_same : {X : Type 0} (cmp : X → X → Ordering) (In On : X → Type 0) → ((x : X) → In x → On x) → ((x : X) → On x → In x) → (r : Option X) → IsLeast cmp In r → IsLeast cmp On r
least_of_same cmp In On to back None h = λ x k. h x (back x k)
least_of_same cmp In On to back (Some a) h = (to a h.0, λ x k. h.1 x (back x k))

-- the lesser of two least is the least of both
pub lesser_least : {X : Type 0} (cmp : X → X → Ordering) → IsTotalOrder cmp → (In On : X → Type 0) (r s : Option X) → IsLeast cmp In r → IsLeast cmp On s
    → IsLeast cmp (λ x. In x ⊎ On x) (lesser cmp r s)
lesser_least cmp o In On None None h k = λ x m. elim m [ inl i ↦ h x i | inr j ↦ k x j ]
lesser_least cmp o In On None (Some b) h k = (inr k.0, λ x m. elim m [ inl i ↦ absurd (h x i) | inr j ↦ k.1 x j ])
lesser_least cmp o In On (Some a) None h k = (inl h.0, λ x m. elim m [ inl i ↦ h.1 x i | inr j ↦ absurd (k x j) ])
lesser_least {X} cmp o In On (Some a) (Some b) h k = go (cmp b a) refl
  where
    go : (r : Ordering) → cmp b a ≡ r → IsLeast cmp (λ x. In x ⊎ On x) (cond (is_lt r) (Some b) (Some a))
    go Less e = (inr k.0, λ x m. elim m [ inl i ↦ λ l. h.1 x i (o.trans x b a l e) | inr j ↦ k.1 x j ])
    go Equal e = (inl h.0, λ x m. elim m [ inl i ↦ h.1 x i | inr j ↦ λ l. k.1 x j (o.antisymm x b ∙ ap ordering_reverse (o.congr b a x e) ∙ sym (o.antisymm x a) ∙ l) ])
    go Greater e = (inl h.0, λ x m. elim m [ inl i ↦ h.1 x i | inr j ↦ λ l. k.1 x j (o.trans x a b l (o.antisymm a b ∙ ap ordering_reverse e)) ])

-- ---- the first of a list in order

-- the second is not less than the first
abbrev pub NotAfter : {X : Type 0} → (X → X → Ordering) → X → X → Type 0
NotAfter cmp a b = cmp b a ≡ Less → ⊥

pub first_passing : {X : Type 0} (cmp : X → X → Ordering) → IsTotalOrder cmp → (test : X → Bool) (xs : List X) → Pairs (NotAfter cmp) xs
    → IsLeast cmp (Passing test xs) (first (filter test xs))
first_passing cmp o test [] h = λ x m. absurd m.0
first_passing cmp o test (x ∷ xs) h = go (test x) refl (first_passing cmp o test xs h.1)
  where
    go : (b : Bool) → test x ≡ b → IsLeast cmp (Passing test xs) (first (filter test xs)) → IsLeast cmp (Passing test (x ∷ xs)) (first (cond b (x ∷ filter test xs) (filter test xs)))
    go true e more = (
      (inl refl, e),
      λ y m. elim m.0 [
        | inl s ↦ λ l. own (subst (λ v. cmp v x ≡ Less) (sym s) l)
        | inr n ↦ each-at (NotAfter cmp x) xs y h.0 n
      ],
    )
      where
        own : cmp x x ≡ Less → ⊥
        own l = half (cmp x x) l (o.antisymm x x)
          where
            half : (r : Ordering) → r ≡ Less → r ≡ ordering_reverse r → ⊥
            half Less e f = cc
            half Equal e f = cc
            half Greater e f = cc
    go false e more = least_of_same cmp (Passing test xs) (Passing test (x ∷ xs)) (λ y m. (inr m.0, m.1)) (λ y m. elim m.0 [
      | inl s ↦ absurd (differ (ap test s ∙ m.1))
      | inr n ↦ (n, m.1)
    ]) (first (filter test xs)) more
      where
        differ : test x ≡ true → ⊥
        differ t = cc

pub last_passing : {X : Type 0} (cmp : X → X → Ordering) → IsTotalOrder cmp → (test : X → Bool) (xs : List X) → Pairs (NotAfter cmp) xs
    → IsLeast (λ a b. cmp b a) (Passing test xs) (last (filter test xs))
last_passing cmp o test [] h = λ x m. absurd m.0
last_passing {X} cmp o test (x ∷ xs) h = go (test x) refl (last_passing cmp o test xs h.1)
  where
    back : X → X → Ordering
    back a b = cmp b a

    own : cmp x x ≡ Less → ⊥
    own l = half (cmp x x) l (o.antisymm x x)
      where
        half : (r : Ordering) → r ≡ Less → r ≡ ordering_reverse r → ⊥
        half Less e f = cc
        half Equal e f = cc
        half Greater e f = cc

    -- with the first before those that pass after it
    with : test x ≡ true → (ys : List X) → ((y : X) → Among ys y → Passing test xs y) → IsLeast (λ a b. cmp b a) (Passing test xs) (last ys)
        → IsLeast (λ a b. cmp b a) (Passing test (x ∷ xs)) (last (x ∷ ys))
    with e [] sub more = (
      (inl refl, e),
      λ y m. elim m.0 [
        | inl s ↦ λ l. own (subst (λ v. cmp x v ≡ Less) (sym s) l)
        | inr n ↦ absurd (more y (n, m.1))
      ],
    )
    with e (y ∷ ys) sub more = by (last (y ∷ ys)) more
      where
        by : (r : Option X) → IsLeast (λ a b. cmp b a) (Passing test xs) r → IsLeast (λ a b. cmp b a) (Passing test (x ∷ xs)) r
        by None g = absurd (g y (sub y (inl refl)))
        by (Some a) g = (
          (inr g.0.0, g.0.1),
          λ z m. elim m.0 [
            | inl s ↦ λ l. each-at (NotAfter cmp x) xs a h.0 g.0.0 (subst (λ v. cmp a v ≡ Less) (sym s) l)
            | inr n ↦ g.1 z (n, m.1)
          ],
        )

    go : (b : Bool) → test x ≡ b → IsLeast (λ a b. cmp b a) (Passing test xs) (last (filter test xs))
        → IsLeast (λ a b. cmp b a) (Passing test (x ∷ xs)) (last (cond b (x ∷ filter test xs) (filter test xs)))
    go true e more = with e (filter test xs) (λ y m. among-filter test xs y m) more
    go false e more = least_of_same (λ a b. cmp b a) (Passing test xs) (Passing test (x ∷ xs)) (λ y m. (inr m.0, m.1)) (λ y m. elim m.0 [
      | inl s ↦ absurd (differ (ap test s ∙ m.1))
      | inr n ↦ (n, m.1)
    ]) (last (filter test xs)) more
      where
        differ : test x ≡ true → ⊥
        differ t = cc

-- ---- a sorted list is in order

insert_order : {X : Type 0} (cmp : X → X → Ordering) → IsTotalOrder cmp → (ys : List X) (x : X) → Pairs (NotAfter cmp) ys → Pairs (NotAfter cmp) (insert_by cmp ys x)
insert_order cmp o [] x h = (tt, tt)
insert_order {X} cmp o (y ∷ ys) x h = go (insert_order cmp o ys x h.1) (cmp x y) refl
  where
    after : Pairs (NotAfter cmp) (insert_by cmp ys x) → (cmp x y ≡ Less → ⊥) → Pairs (NotAfter cmp) (y ∷ insert_by cmp ys x)
    after more not = (
      each-from (NotAfter cmp y) (insert_by cmp ys x) (λ z m. elim (among-insert cmp ys x z m) [
        | inl s ↦ λ l. not (subst (λ v. cmp v y ≡ Less) (sym s) l)
        | inr n ↦ each-at (NotAfter cmp y) ys z h.0 n
      ]),
      more,
    )

    go : Pairs (NotAfter cmp) (insert_by cmp ys x) → (r : Ordering) → cmp x y ≡ r → Pairs (NotAfter cmp) (cond (is_lt r) (x ∷ y ∷ ys) (y ∷ insert_by cmp ys x))
    go more Less e = ((before, each-from (NotAfter cmp x) ys (λ z m l. each-at (NotAfter cmp y) ys z h.0 m (o.trans z x y l e))), h)
      where
        before : cmp y x ≡ Less → ⊥
        before l = turned (cmp x y) (cmp y x) e (o.antisymm x y) l
          where
            turned : (r s : Ordering) → r ≡ Less → r ≡ ordering_reverse s → s ≡ Less → ⊥
            turned r Less e f g = cc
            turned r Equal e f g = cc
            turned r Greater e f g = cc
    go more Equal e = after more (λ l. cc)
    go more Greater e = after more (λ l. cc)

fold_order : {X : Type 0} (cmp : X → X → Ordering) → IsTotalOrder cmp → (ys xs : List X) → Pairs (NotAfter cmp) ys → Pairs (NotAfter cmp) (fold (insert_by cmp) ys xs)
fold_order cmp o ys [] h = h
fold_order cmp o ys (x ∷ xs) h = fold_order cmp o (insert_by cmp ys x) xs (insert_order cmp o ys x h)

among_sorted : {X : Type 0} (cmp : X → X → Ordering) (xs : List X) (z : X) → Among (sorted_by cmp xs) z → Among xs z
among_sorted cmp xs z m = elim (among-fold cmp [] xs z m) [ inl n ↦ absurd n | inr n ↦ n ]

pub first_sorted : {X : Type 0} (cmp : X → X → Ordering) → IsTotalOrder cmp → (test : X → Bool) (xs : List X)
    → IsLeast cmp (Passing test xs) (first (filter test (sorted_by cmp xs)))
first_sorted cmp o test xs =
    least_of_same cmp (Passing test (sorted_by cmp xs)) (Passing test xs)
    (λ x m. (among_sorted cmp xs x m.0, m.1)) (λ x m. (fold-among cmp [] xs x (inr m.0), m.1))
    (first (filter test (sorted_by cmp xs))) (first_passing cmp o test (sorted_by cmp xs) (fold_order cmp o [] xs tt))

pub last_sorted : {X : Type 0} (cmp : X → X → Ordering) → IsTotalOrder cmp → (test : X → Bool) (xs : List X)
    → IsLeast (λ a b. cmp b a) (Passing test xs) (last (filter test (sorted_by cmp xs)))
last_sorted cmp o test xs =
    least_of_same (λ a b. cmp b a) (Passing test (sorted_by cmp xs)) (Passing test xs)
    (λ x m. (among_sorted cmp xs x m.0, m.1)) (λ x m. (fold-among cmp [] xs x (inr m.0), m.1))
    (last (filter test (sorted_by cmp xs))) (last_passing cmp o test (sorted_by cmp xs) (fold_order cmp o [] xs tt))
