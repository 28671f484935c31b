-- The elements of lists by number.
use Rattle.std.proofs.Common.{◌≡◌, ℕ, zero, suc, ◌+◌, ◌<◌, Bool, true, false, cond, List, [], ◌∷◌, ◌++◌, length, map, All, get_or, Some, refl, ap, subst, arith, inl, inr, ◌⊎◌}
use Rattle.std.specs.Prelude.{slice_get}
use Rattle.std.specs.List.{position_from}
use Rattle.std.proofs.lemmas.Option.{slice_get_within, get_or_from_slice_get}
use Rattle.newt_graph.proofs.Options.{some_is}

pub get_append : {X : Type 0} (xs ys : List X) (k : ℕ) (x : X) → slice_get xs k ≡ Some x → slice_get (xs ++ ys) k ≡ Some x
get_append [] ys k x e = absurd cc
get_append (y ∷ xs) ys zero x e = e
get_append (y ∷ xs) ys (suc k) x e = get_append xs ys k x e

pub get_seam : {X : Type 0} (xs : List X) (y : X) (ys : List X) → slice_get (xs ++ y ∷ ys) (length xs) ≡ Some y
get_seam [] y ys = refl
get_seam (x ∷ xs) y ys = get_seam xs y ys

-- an element of a list with one more
pub at_push : {X : Type 0} (xs : List X) (y : X) (k : ℕ) (x : X) → slice_get (xs ++ y ∷ []) k ≡ Some x → (slice_get xs k ≡ Some x) ⊎ ((k ≡ length xs) × (y ≡ x))
at_push [] y zero x e = inr (refl, cc)
at_push [] y (suc k) x e = absurd cc
at_push (z ∷ xs) y zero x e = inl e
at_push (z ∷ xs) y (suc k) x e =
    elim (at_push xs y k x e) [ inl h ↦ inl h | inr h ↦ inr (ap suc h.0, h.1) ]

pub map_at : {X Y : Type 0} (f : X → Y) (xs : List X) (i : ℕ) (y : Y) → slice_get (map f xs) i ≡ Some y → (x : X) × (slice_get xs i ≡ Some x) × (f x ≡ y)
map_at f [] i y e = absurd cc
map_at f (x ∷ xs) zero y e = (x, refl, some_is e)
map_at f (x ∷ xs) (suc i) y e = map_at f xs i y e

pub at_map : {X Y : Type 0} (f : X → Y) (xs : List X) (i : ℕ) (x : X) → slice_get xs i ≡ Some x → slice_get (map f xs) i ≡ Some (f x)
at_map f [] i x e = absurd cc
at_map f (y ∷ xs) zero x e = ap (λ z. Some (f z)) (some_is e)
at_map f (y ∷ xs) (suc i) x e = at_map f xs i x e

-- an element of a list of which all have a property
pub all_at : {X : Type 0} (P : X → Type 0) (xs : List X) (i : ℕ) (x : X) → All P xs → slice_get xs i ≡ Some x → P x
all_at P xs i x all e = subst P (get_or_from_slice_get xs i x x e) (all i x (slice_get_within xs i x e))

pub any_at : {X : Type 0} (xs : List X) (i : ℕ) (d : X) → i < length xs → slice_get xs i ≡ Some (get_or xs i d)
any_at (x ∷ xs) zero d lt = refl
any_at (x ∷ xs) (suc i) d lt = any_at xs i d (omega (arith, lt))
any_at [] i d lt = absurd (omega (arith, lt))

-- where the first one is that passes a test
pub found_at : {X : Type 0} (t : X → Bool) (i : ℕ) (xs : List X) (q : ℕ) → position_from t i xs ≡ Some q → (p : ℕ) × (x : X) × (q ≡ i + p) × (slice_get xs p ≡ Some x) × (t x ≡ true)
found_at t i [] q e = absurd cc
found_at {X} t i (a ∷ xs) q e = go (λ e. found_at t (i + 1) xs q e) (t a) refl e
  where
    go : (position_from t (i + 1) xs ≡ Some q → (p : ℕ) × (x : X) × (q ≡ i + 1 + p) × (slice_get xs p ≡ Some x) × (t x ≡ true))
        → (b : Bool) → t a ≡ b → cond b (Some i) (position_from t (i + 1) xs) ≡ Some q → (p : ℕ) × (x : X) × (q ≡ i + p) × (slice_get (a ∷ xs) p ≡ Some x) × (t x ≡ true)
    go others true is e = let same : i ≡ q = cc in (0, a, omega (arith, same), refl, is)
    go others false is e = let o = others e in (suc o.0, o.1, omega (arith, o.2), o.3, o.4)
