-- What is found in lists, and rows of a table.
use Rattle.std.proofs.Common.{◌≡◌, refl, ap, sym, ◌∙◌, ℕ, List, [], ◌∷◌, true, false, Bool, not, ◌||◌, ◌⊎◌, inl, inr, cond, find, filter, length, Option, Some, None, option_map}
use Rattle.std.specs.List.{list_any, list_all}
use Rattle.newt_spec_graph.specs.Lists.{Each, Among}
use Rattle.newt_spec_graph.proofs.Lists.{none-some, some-same, both-ways}
use Rattle.newt_spec_check.specs.Damage.{Damage, if_missing, first_row}
use Rattle.newt_spec_check.specs.declared.Layer.{Layer}

pub find-none : {X : Type 0} (test : X → Bool) (xs : List X) → find test xs ≡ None → Each (λ x. test x ≡ false) xs
find-none test [] h = tt
find-none test (x ∷ xs) h = go (find-none test xs) (test x) refl h
  where
    go : (find test xs ≡ None → Each (λ x. test x ≡ false) xs) → (b : Bool) → test x ≡ b → cond b (Some x) (find test xs) ≡ None → (test x ≡ false) × Each (λ x. test x ≡ false) xs
    go more true e k = absurd (none-some x (sym k))
    go more false e k = (e, more k)

pub none-find : {X : Type 0} (test : X → Bool) (xs : List X) → Each (λ x. test x ≡ false) xs → find test xs ≡ None
none-find test [] h = refl
none-find test (x ∷ xs) h = ap (λ b. cond b (Some x) (find test xs)) h.0 ∙ none-find test xs h.1

pub map-none : {X Y : Type 0} (f : X → Y) (o : Option X) → option_map f o ≡ None → o ≡ None
map-none f None h = refl
map-none f (Some x) h = absurd (none-some (f x) (sym h))

pub missing-none : {X : Type 0} (place : ℕ) (o : Option X) → if_missing place o ≡ None → (x : X) × (o ≡ Some x)
missing-none place None h = absurd (none-some place (sym h))
missing-none place (Some x) h = (x, refl)

pub any-false : {X : Type 0} (test : X → Bool) (xs : List X) (x : X) → list_any test xs ≡ false → Among xs x → test x ≡ false
any-false test [] x h m = absurd m
any-false test (y ∷ xs) x h m = go (any-false test xs x) (test y) refl h m
  where
    go : (list_any test xs ≡ false → Among xs x → test x ≡ false) → (b : Bool) → test y ≡ b → (b || list_any test xs) ≡ false → Among (y ∷ xs) x → test x ≡ false
    go more true e k m = absurd (both-ways (sym k))
    go more false e k (inl i) = sym (ap test i) ∙ e
    go more false e k (inr i) = more k i

pub any-true : {X : Type 0} (test : X → Bool) (xs : List X) → list_any test xs ≡ true → (x : X) × Among xs x × (test x ≡ true)
any-true test [] h = absurd (both-ways h)
any-true {X} test (y ∷ xs) h = go (any-true test xs) (test y) refl h
  where
    go : (list_any test xs ≡ true → (x : X) × Among xs x × (test x ≡ true)) → (b : Bool) → test y ≡ b → (b || list_any test xs) ≡ true → (x : X) × Among (y ∷ xs) x × (test x ≡ true)
    go more true e k = (y, inl refl, e)
    go more false e k = let r = more k in (r.0, inr r.1, r.2)

pub among-any : {X : Type 0} (test : X → Bool) (xs : List X) (x : X) → Among xs x → test x ≡ true → list_any test xs ≡ true
among-any test xs x m h = go (list_any test xs) refl
  where
    go : (b : Bool) → list_any test xs ≡ b → b ≡ true
    go true e = refl
    go false e = absurd (both-ways (sym (any-false test xs x e m) ∙ h))

pub row-none : (at : Layer) (o : Option ℕ) (rows : List (Layer × Option ℕ)) → first_row ((at, o) ∷ rows) ≡ None → (o ≡ None) × (first_row rows ≡ None)
row-none at None rows h = (refl, h)
row-none at (Some place) rows h = absurd (none-some {X = Damage} (record { layer = at; place = place }) (sym h))

-- a row that does not hold is passed over
pub skip : (at : Layer) (o : Option ℕ) (rows : List (Layer × Option ℕ)) → o ≡ None → first_row ((at, o) ∷ rows) ≡ first_row rows
skip at o rows h = ap (λ o. first_row ((at, o) ∷ rows)) h
