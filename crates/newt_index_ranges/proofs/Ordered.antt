-- Pairs in order: a list that rises is the only one of its pairs, and it is what sorting them gives.
use Rattle.std.proofs.Common.{◌≡◌, ℕ, Bool, true, false, cond, List, [], ◌∷◌, refl, sym, ◌∙◌, ap, ◌⊎◌, inl, inr, fold}
use Rattle.std.specs.declared.cmp.Ordering.{Ordering}
use Rattle.std.specs.declared.cmp.Ordering.TheVariants.{Less, Equal, Greater}
use Rattle.std.specs.Ordering.{nat_cmp, ordering_then, ordering_reverse, is_lt}
use Rattle.std.specs.Cmp.{IsTotalOrder}
use Rattle.std.specs.Cmp.Lexicographic.{slice_cmp}
use Rattle.std.specs.FinMap.{nat_cmp-IsAntisymmetric}
use Rattle.std.proofs.lemmas.Cmp.{on_total, then_total, nat_cmp_total, nat_list_cmp_total, tied_itself}
use Rattle.newt_spec_graph.specs.Lists.{Each, Pairs, Among}
use Rattle.newt_spec_graph.proofs.Lists.{each-at}
use Rattle.newt_spec_store.specs.Keys.{IndexSpec, key_cmp}
use Rattle.newt_spec_store.specs.Sorted.{insert_by, sorted_by}
use Rattle.newt_keys.specs.KeyForm.{key_bytes}
use Rattle.newt_keys.proofs.KeyLaw.{bytes_order}
use Rattle.newt_keys.proofs.OrderLaws.{tied}
use Rattle.newt_index.specs.Pairs.{Pair, pair_cmp, IsPair}

-- ---- the order of pairs is that of their keys' bytes and ids

abbrev Place : Type 0
Place = List ℕ × ℕ

abbrev place_cmp : Place → Place → Ordering
place_cmp a b = ordering_then (slice_cmp nat_cmp a.0 b.0) (nat_cmp a.1 b.1)

places_total : IsTotalOrder place_cmp
places_total = then_total (on_total (λ (s : Place). s.0) nat_list_cmp_total) (on_total (λ (s : Place). s.1) nat_cmp_total)

module _ (spec : IndexSpec) where
  abbrev place : Pair → Place
  place p = (key_bytes spec p.0, p.1)

  placed : (p q : Pair) → IsPair spec p → IsPair spec q → place_cmp (place p) (place q) ≡ pair_cmp spec p q
  placed p q hp hq = ap (λ o. ordering_then o (nat_cmp p.1 q.1)) (bytes_order spec p.0 q.0 hp.is_key hq.is_key)

  turned_pair : (p q : Pair) → IsPair spec p → IsPair spec q → pair_cmp spec p q ≡ ordering_reverse (pair_cmp spec q p)
  turned_pair p q hp hq = sym (placed p q hp hq) ∙ places_total.antisymm (place p) (place q) ∙ ap ordering_reverse (placed q p hq hp)

  chained : (p q r : Pair) → IsPair spec p → IsPair spec q → IsPair spec r → pair_cmp spec p q ≡ Less → pair_cmp spec q r ≡ Less → pair_cmp spec p r ≡ Less
  chained p q r hp hq hr e f = sym (placed p r hp hr) ∙ places_total.trans (place p) (place q) (place r) (placed p q hp hq ∙ e) (placed q r hq hr ∙ f)

  pair_itself : (p : Pair) → IsPair spec p → pair_cmp spec p p ≡ Equal
  pair_itself p hp = sym (placed p p hp hp) ∙ tied_itself places_total (place p)

  pub same_uid : (p q : Pair) → pair_cmp spec p q ≡ Equal → p.1 ≡ q.1
  same_uid p q e = nat_cmp-IsAntisymmetric p.1 q.1 (tied (key_cmp spec p.0 q.0) (nat_cmp p.1 q.1) e).1

  -- ---- two lists that rise and have the same pairs are one

  abbrev Rise : List Pair → Type 0
  Rise ps = Pairs (λ p q. pair_cmp spec p q ≡ Less) ps

  abbrev Valid : List Pair → Type 0
  Valid ps = Each (IsPair spec) ps

  not_both : (p q : Pair) → IsPair spec p → IsPair spec q → pair_cmp spec p q ≡ Less → pair_cmp spec q p ≡ Less → ⊥
  not_both p q hp hq e f = absurd (let no : Less ≡ Greater = sym e ∙ turned_pair p q hp hq ∙ ap ordering_reverse f in cc)

  not_itself : (p q : Pair) → IsPair spec p → p ≡ q → pair_cmp spec p q ≡ Less → ⊥
  not_itself p q hp same e = absurd (let no : Equal ≡ Less = sym (pair_itself p hp) ∙ ap (pair_cmp spec p) same ∙ e in cc)

  first_same : (p q : Pair) (ps qs : List Pair) → IsPair spec p → IsPair spec q → Each (λ z. pair_cmp spec p z ≡ Less) ps → Each (λ z. pair_cmp spec q z ≡ Less) qs
      → (q ≡ p) ⊎ Among qs p → (p ≡ q) ⊎ Among ps q → p ≡ q
  first_same p q ps qs hp hq below above (inl e) there = sym e
  first_same p q ps qs hp hq below above (inr m) (inl e) = e
  first_same p q ps qs hp hq below above (inr m) (inr n) =
      absurd (not_both p q hp hq (each-at (λ z. pair_cmp spec p z ≡ Less) ps q below n) (each-at (λ z. pair_cmp spec q z ≡ Less) qs p above m))

  later_same : (p q z : Pair) (ps qs : List Pair) → IsPair spec p → p ≡ q → Each (λ z. pair_cmp spec p z ≡ Less) ps → Among ps z → (q ≡ z) ⊎ Among qs z → Among qs z
  later_same p q z ps qs hp same below m (inl e) = absurd (not_itself p z hp (same ∙ e) (each-at (λ z. pair_cmp spec p z ≡ Less) ps z below m))
  later_same p q z ps qs hp same below m (inr n) = n

  pub one_list : (ps qs : List Pair) → Valid ps → Valid qs → Rise ps → Rise qs → ((z : Pair) → Among ps z → Among qs z) → ((z : Pair) → Among qs z → Among ps z) → ps ≡ qs
  one_list [] [] vp vq rp rq there back = refl
  one_list [] (q ∷ qs) vp vq rp rq there back = absurd (back q (inl refl))
  one_list (p ∷ ps) [] vp vq rp rq there back = absurd (there p (inl refl))
  one_list (p ∷ ps) (q ∷ qs) vp vq rp rq there back =
      let same : p ≡ q = first_same p q ps qs vp.0 vq.0 rp.0 rq.0 (there p (inl refl)) (back q (inl refl)) in
      let rest : ps ≡ qs = one_list ps qs vp.1 vq.1 rp.1 rq.1
      (λ z m. later_same p q z ps qs vp.0 same rp.0 m (there z (inr m)))
      (λ z m. later_same q p z qs ps vq.0 (sym same) rq.0 m (back z (inr m))) in
      λ i. same i ∷ rest i

  -- ---- sorting

  abbrev inserted : List Pair → Pair → List Pair
  inserted ps p = insert_by (pair_cmp spec) ps p

  each-inserted : (P : Pair → Type 0) (ps : List Pair) (p : Pair) → P p → Each P ps → Each P (inserted ps p)
  each-inserted P [] p h hs = (h, tt)
  each-inserted P (q ∷ qs) p h hs = go (is_lt (pair_cmp spec p q)) (each-inserted P qs p h hs.1)
    where
      go : (b : Bool) → Each P (inserted qs p) → Each P (cond b (p ∷ q ∷ qs) (q ∷ inserted qs p))
      go true rest = (h, hs)
      go false rest = (hs.0, rest)

  among-inserted : (ps : List Pair) (p z : Pair) → Among (inserted ps p) z → (p ≡ z) ⊎ Among ps z
  among-inserted [] p z m = m
  among-inserted (q ∷ qs) p z m = go (is_lt (pair_cmp spec p q)) (among-inserted qs p z) m
    where
      go : (b : Bool) → (Among (inserted qs p) z → (p ≡ z) ⊎ Among qs z) → Among (cond b (p ∷ q ∷ qs) (q ∷ inserted qs p)) z → (p ≡ z) ⊎ Among (q ∷ qs) z
      go true more m = m
      go false more (inl e) = inr (inl e)
      go false more (inr m) = elim (more m) [ inl e ↦ inl e | inr n ↦ inr (inr n) ]

  inserted-among : (ps : List Pair) (p z : Pair) → (p ≡ z) ⊎ Among ps z → Among (inserted ps p) z
  inserted-among [] p z m = m
  inserted-among (q ∷ qs) p z m = go (is_lt (pair_cmp spec p q)) (inserted-among qs p z) m
    where
      go : (b : Bool) → ((p ≡ z) ⊎ Among qs z → Among (inserted qs p) z) → (p ≡ z) ⊎ Among (q ∷ qs) z → Among (cond b (p ∷ q ∷ qs) (q ∷ inserted qs p)) z
      go true more m = m
      go false more (inl e) = inr (more (inl e))
      go false more (inr (inl e)) = inl e
      go false more (inr (inr m)) = inr (more (inr m))

  abbrev OtherId : Pair → Pair → Type 0
  OtherId p q = p.1 ≡ q.1 → ⊥

  -- what is not before another pair, and has another id, is after it
  is_after : (p q : Pair) → IsPair spec p → IsPair spec q → OtherId p q → (o : Ordering) → pair_cmp spec p q ≡ o → is_lt o ≡ false → pair_cmp spec q p ≡ Less
  is_after p q hp hq other Less e h = absurd (let no : true ≡ false = h in cc)
  is_after p q hp hq other Equal e h = absurd (other (same_uid p q e))
  is_after p q hp hq other Greater e h = turned_pair q p hq hp ∙ ap ordering_reverse e

  is_before : (o : Ordering) → is_lt o ≡ true → o ≡ Less
  is_before Less h = refl
  is_before Equal h = cc
  is_before Greater h = cc

  rise-inserted : (ps : List Pair) (p : Pair) → IsPair spec p → Valid ps → Each (OtherId p) ps → Rise ps → Rise (inserted ps p)
  rise-inserted [] p hp vs others r = (tt, tt)
  rise-inserted (q ∷ qs) p hp vs others r =
      go (is_lt (pair_cmp spec p q)) refl (rise-inserted qs p hp vs.1 others.1 r.1)
    where
      go : (b : Bool) → is_lt (pair_cmp spec p q) ≡ b → Rise (inserted qs p) → Rise (cond b (p ∷ q ∷ qs) (q ∷ inserted qs p))
      go true e rest =
          let less : pair_cmp spec p q ≡ Less = is_before (pair_cmp spec p q) e in
          ((less, below qs vs.1 r.0 less), r)
        where
          below : (zs : List Pair) → Valid zs → Each (λ z. pair_cmp spec q z ≡ Less) zs → pair_cmp spec p q ≡ Less → Each (λ z. pair_cmp spec p z ≡ Less) zs
          below [] v h less = tt
          below (z ∷ zs) v h less = (chained p q z hp vs.0 v.0 less h.0, below zs v.1 h.1 less)
      go false e rest = (each-inserted (λ z. pair_cmp spec q z ≡ Less) qs p (is_after p q hp vs.0 others.0 (pair_cmp spec p q) refl e) r.0, rest)

  abbrev AllOthers : List Pair → List Pair → Type 0
  AllOthers acc xs = Each (λ x. Each (OtherId x) acc) xs

  others-inserted : (acc xs : List Pair) (x : Pair) → Each (OtherId x) xs → AllOthers acc xs → AllOthers (inserted acc x) xs
  others-inserted acc [] x h hs = tt
  others-inserted acc (y ∷ ys) x h hs = (each-inserted (OtherId y) acc x (λ e. h.0 (sym e)) hs.0, others-inserted acc ys x h.1 hs.1)

  rise-sorted : (xs acc : List Pair) → Valid acc → Valid xs → Rise acc → AllOthers acc xs → Pairs OtherId xs → Rise (fold inserted acc xs)
  rise-sorted [] acc va vx r others once = r
  rise-sorted (x ∷ xs) acc va vx r others once =
      rise-sorted xs (inserted acc x) (each-inserted (IsPair spec) acc x vx.0 va) vx.1 (rise-inserted acc x vx.0 va others.0 r) (others-inserted acc xs x once.0 others.1) once.1

  valid-sorted : (xs acc : List Pair) → Valid acc → Valid xs → Valid (fold inserted acc xs)
  valid-sorted [] acc va vx = va
  valid-sorted (x ∷ xs) acc va vx = valid-sorted xs (inserted acc x) (each-inserted (IsPair spec) acc x vx.0 va) vx.1

  among-sorted : (xs acc : List Pair) (z : Pair) → Among (fold inserted acc xs) z → Among acc z ⊎ Among xs z
  among-sorted [] acc z m = inl m
  among-sorted (x ∷ xs) acc z m = elim (among-sorted xs (inserted acc x) z m) [
    | inl k ↦ elim (among-inserted acc x z k) [ inl e ↦ inr (inl e) | inr n ↦ inl n ]
    | inr k ↦ inr (inr k)
  ]

  sorted-among : (xs acc : List Pair) (z : Pair) → Among acc z ⊎ Among xs z → Among (fold inserted acc xs) z
  sorted-among [] acc z (inl m) = m
  sorted-among [] acc z (inr m) = absurd m
  sorted-among (x ∷ xs) acc z (inl m) = sorted-among xs (inserted acc x) z (inl (inserted-among acc x z (inr m)))
  sorted-among (x ∷ xs) acc z (inr (inl e)) = sorted-among xs (inserted acc x) z (inl (inserted-among acc x z (inl e)))
  sorted-among (x ∷ xs) acc z (inr (inr m)) = sorted-among xs (inserted acc x) z (inr m)

  from_none : (xs : List Pair) → AllOthers [] xs
  from_none [] = tt
  from_none (x ∷ xs) = (tt, from_none xs)

  each_there : (ps xs : List Pair) → Valid ps → ((z : Pair) → Among xs z → Among ps z) → Valid xs
  each_there ps [] v h = tt
  each_there ps (x ∷ xs) v h = (each-at (IsPair spec) ps x v (h x (inl refl)), each_there ps xs v (λ z m. h z (inr m)))

  -- a list that rises, with the pairs of another that has each id once, is that one sorted
  pub is_sorted : (ps xs : List Pair) → Valid ps → Rise ps → Pairs OtherId xs → ((z : Pair) → Among ps z → Among xs z) → ((z : Pair) → Among xs z → Among ps z)
      → ps ≡ sorted_by (pair_cmp spec) xs
  is_sorted ps xs v r once there back =
      let vx : Valid xs = each_there ps xs v back in
      one_list ps (sorted_by (pair_cmp spec) xs) v (valid-sorted xs [] tt vx) r (rise-sorted xs [] tt vx tt (from_none xs) once)
      (λ z m. sorted-among xs [] z (inr (there z m)))
      (λ z m. elim (among-sorted xs [] z m) [ inl k ↦ absurd k | inr k ↦ back z k ])
