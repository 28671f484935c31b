-- Places at which something is put, or taken away.
use Rattle.std.proofs.Common.{arith, ◌≡◌, ◌<◌, ◌+◌, refl, ap, sym, ◌∙◌, subst, ℕ, zero, suc, List, [], ◌∷◌, true, false, Bool, cond, length, Option, Some, None, slice_set, nat_lt}
use Rattle.std.specs.Prelude.{slice_get, is_none, not}
use Rattle.std.specs.List.{position, prefix_len}
use Rattle.std.proofs.lemmas.Bool.Decides.{Decides-ltb}
use Rattle.newt_spec_graph.proofs.Lists.{some-same, none-some}
use Rattle.newt_spec_world.specs.World.{flat}

-- what is at other places stays
pub set-other : {X : Type 0} (m n : ℕ) (y : Option X) (xs : List (Option X)) → (n ≡ m → ⊥) → flat (slice_get (slice_set xs m y) n) ≡ flat (slice_get xs n)
set-other m n y [] h = refl
set-other zero zero y (x ∷ xs) h = absurd (h refl)
set-other zero (suc n) y (x ∷ xs) h = refl
set-other (suc m) zero y (x ∷ xs) h = refl
set-other (suc m) (suc n) y (x ∷ xs) h = set-other m n y xs (λ e. h (ap suc e))

one-more : (n : ℕ) → 1 + n ≡ suc n
one-more n = omega arith

-- the first free place is free
free-at : {X : Type 0} (xs : List (Option X)) → flat (slice_get xs (prefix_len (λ x. not (is_none x)) xs)) ≡ None
free-at [] = refl
free-at (None ∷ xs) = refl
free-at (Some x ∷ xs) = subst (λ (k : ℕ). flat (slice_get (Some x ∷ xs) k) ≡ None) (sym (one-more (prefix_len (λ x. not (is_none x)) xs))) (free-at xs)

pub free-none : {X : Type 0} (m : ℕ) (xs : List (Option X)) → position is_none xs ≡ Some m → flat (slice_get xs m) ≡ None
free-none m xs h = subst (λ k. flat (slice_get xs k) ≡ None) (go (nat_lt (prefix_len (λ x. not (is_none x)) xs) (length xs)) h) (free-at xs)
  where
    go : (b : Bool) → cond b (Some (prefix_len (λ x. not (is_none x)) xs)) None ≡ Some m → prefix_len (λ x. not (is_none x)) xs ≡ m
    go true e = some-same _ _ e
    go false e = absurd (none-some m e)

-- where there is something, the first free place is another
pub free-other : {X : Type 0} (m n : ℕ) (x : X) (xs : List (Option X)) → position is_none xs ≡ Some m → flat (slice_get xs n) ≡ Some x → (n ≡ m → ⊥)
free-other m n x xs h here e = none-some x (sym (free-none m xs h) ∙ ap (λ k. flat (slice_get xs k)) (sym e) ∙ here)

-- what is put at the first free place is there
set-at : {X : Type 0} (y : X) (xs : List (Option X)) → prefix_len (λ x. not (is_none x)) xs < length xs
    → flat (slice_get (slice_set xs (prefix_len (λ x. not (is_none x)) xs) (Some y)) (prefix_len (λ x. not (is_none x)) xs)) ≡ Some y
set-at y [] h = absurd (omega (arith, h))
set-at y (None ∷ xs) h = refl
set-at y (Some x ∷ xs) h = let lt : prefix_len (λ x. not (is_none x)) xs < length xs = omega (arith, h) in
    subst (λ (k : ℕ). flat (slice_get (slice_set (Some x ∷ xs) k (Some y)) k) ≡ Some y) (sym (one-more (prefix_len (λ x. not (is_none x)) xs))) (set-at y xs lt)

pub set-free : {X : Type 0} (m : ℕ) (y : X) (xs : List (Option X)) → position is_none xs ≡ Some m → flat (slice_get (slice_set xs m (Some y)) m) ≡ Some y
set-free m y xs h = go (nat_lt (prefix_len (λ x. not (is_none x)) xs) (length xs)) refl h
  where
    go : (b : Bool) → nat_lt (prefix_len (λ x. not (is_none x)) xs) (length xs) ≡ b → cond b (Some (prefix_len (λ x. not (is_none x)) xs)) None ≡ Some m
        → flat (slice_get (slice_set xs m (Some y)) m) ≡ Some y
    go true e i = subst (λ k. flat (slice_get (slice_set xs k (Some y)) k) ≡ Some y) (some-same _ _ i) (set-at y xs ((Decides-ltb _ _).0 e))
    go false e i = absurd (none-some m i)
