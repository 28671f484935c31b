-- A list that rises is cut at an element.
use Rattle.std.proofs.Common.{◌≡◌, refl, ap, sym, ◌∙◌, subst, Bool, true, false, List, [], ◌∷◌, ◌++◌, filter, cond, Some, None, inl, inr}
use Rattle.std.specs.declared.cmp.Ordering.{Ordering}
use Rattle.std.specs.declared.cmp.Ordering.TheVariants.{Less, Greater}
use Rattle.std.specs.Cmp.{IsTotalOrder}
use Rattle.std.specs.Ordering.{is_lt, is_gt, ordering_reverse}
use Rattle.std.proofs.lemmas.Cmp.{tied_itself}
use Rattle.newt_spec_graph.specs.Lists.{Each, Pairs, Among}
use Rattle.newt_spec_graph.proofs.Lists.{each-at, each-more, among-filter, some-same, none-some, both-ways}
use Rattle.newt_spec_store.proofs.Sorting.{Rise}
use Rattle.newt_index.specs.Pairs.{first, last}

-- ---- filters

pub filter_all : {X : Type 0} (test : X → Bool) (xs : List X) → Each (λ x. test x ≡ true) xs → filter test xs ≡ xs
filter_all test [] h = refl
filter_all test (x ∷ xs) h = ap (λ b. cond b (x ∷ filter test xs) (filter test xs)) h.0 ∙ ap (λ ys. x ∷ ys) (filter_all test xs h.1)

pub filter_none : {X : Type 0} (test : X → Bool) (xs : List X) → Each (λ x. test x ≡ false) xs → filter test xs ≡ []
filter_none test [] h = refl
filter_none test (x ∷ xs) h = ap (λ b. cond b (x ∷ filter test xs) (filter test xs)) h.0 ∙ filter_none test xs h.1

pub filter_swap : {X : Type 0} (s t : X → Bool) (xs : List X) → filter s (filter t xs) ≡ filter t (filter s xs)
filter_swap s t [] = refl
filter_swap s t (x ∷ xs) = go (s x) (t x) refl refl (filter_swap s t xs)
  where
    go : (b c : Bool) → s x ≡ b → t x ≡ c → filter s (filter t xs) ≡ filter t (filter s xs)
        → filter s (cond c (x ∷ filter t xs) (filter t xs)) ≡ filter t (cond b (x ∷ filter s xs) (filter s xs))
    go true true e f h =
        ap (λ b. cond b (x ∷ filter s (filter t xs)) (filter s (filter t xs))) e ∙ ap (λ ys. x ∷ ys) h
        ∙ sym (ap (λ b. cond b (x ∷ filter t (filter s xs)) (filter t (filter s xs))) f)
    go true false e f h = h ∙ sym (ap (λ b. cond b (x ∷ filter t (filter s xs)) (filter t (filter s xs))) f)
    go false true e f h = ap (λ b. cond b (x ∷ filter s (filter t xs)) (filter s (filter t xs))) e ∙ h
    go false false e f h = h

-- ---- the first and the last

pub no-first : {X : Type 0} (xs : List X) → first xs ≡ None → xs ≡ []
no-first [] e = refl
no-first (x ∷ xs) e = absurd (none-some x (sym e))

pub first-among : {X : Type 0} (xs : List X) (h : X) → first xs ≡ Some h → Among xs h
first-among [] h e = absurd (none-some h e)
first-among (x ∷ xs) h e = inl (some-same x h e)

pub no-last : {X : Type 0} (xs : List X) → last xs ≡ None → xs ≡ []
no-last [] e = refl
no-last (x ∷ []) e = absurd (none-some x (sym e))
no-last (x ∷ y ∷ xs) e = absurd (some-list (no-last (y ∷ xs) e))
  where
    some-list : y ∷ xs ≡ [] → ⊥
    some-list h = cc

pub last-among : {X : Type 0} (xs : List X) (h : X) → last xs ≡ Some h → Among xs h
last-among [] h e = absurd (none-some h e)
last-among (x ∷ []) h e = inl (some-same x h e)
last-among (x ∷ y ∷ xs) h e = inr (last-among (y ∷ xs) h e)

module _ {X : Type 0} (cmp : X → X → Ordering) (o : IsTotalOrder cmp) where
  greater : (x z : X) → cmp x z ≡ Less → cmp z x ≡ Greater
  greater x z l = o.antisymm z x ∙ ap ordering_reverse l

  -- all from the first that passes on pass
  pub cut-first : (t : X → Bool) → ((a b : X) → t a ≡ true → cmp a b ≡ Less → t b ≡ true) → (xs : List X) (h : X) → Pairs (Rise cmp) xs → first (filter t xs) ≡ Some h
      → filter t xs ≡ h ∷ filter (λ z. is_gt (cmp z h)) xs
  cut-first t up [] h r e = absurd (none-some h e)
  cut-first t up (x ∷ xs) h r e = go (t x) refl e (cut-first t up xs h r.1)
    where
      go : (b : Bool) → t x ≡ b → first (cond b (x ∷ filter t xs) (filter t xs)) ≡ Some h
          → (first (filter t xs) ≡ Some h → filter t xs ≡ h ∷ filter (λ z. is_gt (cmp z h)) xs)
          → cond b (x ∷ filter t xs) (filter t xs) ≡ h ∷ cond (is_gt (cmp x h)) (x ∷ filter (λ z. is_gt (cmp z h)) xs) (filter (λ z. is_gt (cmp z h)) xs)
      go true is f more =
          subst (λ v. x ∷ filter t xs ≡ v ∷ cond (is_gt (cmp x v)) (x ∷ filter (λ z. is_gt (cmp z v)) xs) (filter (λ z. is_gt (cmp z v)) xs)) (some-same x h f)
          (ap (λ ys. x ∷ ys) (filter_all t xs (each-more (Rise cmp x) (λ z. t z ≡ true) xs (λ z l. up x z is l) r.0)
          ∙ sym (filter_all (λ z. is_gt (cmp z x)) xs (each-more (Rise cmp x) (λ z. is_gt (cmp z x) ≡ true) xs (λ z l. ap is_gt (greater x z l)) r.0))
          ∙ sym (ap (λ b. cond b (x ∷ filter (λ z. is_gt (cmp z x)) xs) (filter (λ z. is_gt (cmp z x)) xs)) (ap is_gt (tied_itself o x)))))
      go false is f more =
          more f ∙ sym (ap (λ b. h ∷ cond b (x ∷ filter (λ z. is_gt (cmp z h)) xs) (filter (λ z. is_gt (cmp z h)) xs))
          (ap is_gt (each-at (Rise cmp x) xs h r.0 (among-filter t xs h (first-among (filter t xs) h f)).0)))

  -- all up to the last that passes pass
  pub cut-last : (t : X → Bool) → ((a b : X) → t b ≡ true → cmp a b ≡ Less → t a ≡ true) → (xs : List X) (h : X) → Pairs (Rise cmp) xs → last (filter t xs) ≡ Some h
      → filter t xs ≡ filter (λ z. is_lt (cmp z h)) xs ++ h ∷ []
  cut-last t down [] h r e = absurd (none-some h e)
  cut-last t down (x ∷ xs) h r e = go (t x) refl e (cut-last t down xs h r.1)
    where
      Below : X → List X → Type 0
      Below v ys = ys ≡ cond (is_lt (cmp x v)) (x ∷ filter (λ z. is_lt (cmp z v)) xs) (filter (λ z. is_lt (cmp z v)) xs) ++ v ∷ []

      alone : Below x (x ∷ [])
      alone =
          sym (ap (λ b. cond b (x ∷ filter (λ z. is_lt (cmp z x)) xs) (filter (λ z. is_lt (cmp z x)) xs) ++ x ∷ []) (ap is_lt (tied_itself o x))
          ∙ ap (λ ys. ys ++ x ∷ []) (filter_none (λ z. is_lt (cmp z x)) xs (each-more (Rise cmp x) (λ z. is_lt (cmp z x) ≡ false) xs (λ z l. ap is_lt (greater x z l)) r.0)))

      less : Among (filter t xs) h → cmp x h ≡ Less
      less m = each-at (Rise cmp x) xs h r.0 (among-filter t xs h m).0

      with : (ys : List X) → filter t xs ≡ ys → last (x ∷ ys) ≡ Some h → (last (filter t xs) ≡ Some h → filter t xs ≡ filter (λ z. is_lt (cmp z h)) xs ++ h ∷ []) → Below h (x ∷ ys)
      with [] f l more = subst (λ v. Below v (x ∷ [])) (some-same x h l) alone
      with (y ∷ ys) f l more =
          ap (λ zs. x ∷ zs) (sym f ∙ more (ap last f ∙ l))
          ∙ sym (ap (λ b. cond b (x ∷ filter (λ z. is_lt (cmp z h)) xs) (filter (λ z. is_lt (cmp z h)) xs) ++ h ∷ [])
          (ap is_lt (less (last-among (filter t xs) h (ap last f ∙ l)))))

      go : (b : Bool) → t x ≡ b → last (cond b (x ∷ filter t xs) (filter t xs)) ≡ Some h
          → (last (filter t xs) ≡ Some h → filter t xs ≡ filter (λ z. is_lt (cmp z h)) xs ++ h ∷ []) → Below h (cond b (x ∷ filter t xs) (filter t xs))
      go true is f more = with (filter t xs) refl f more
      go false is f more =
          let m = last-among (filter t xs) h f in
          absurd (both-ways (sym is ∙ down x h (among-filter t xs h m).1 (less m)))
