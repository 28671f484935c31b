-- Commands after which a settled world is settled by itself: another cursor that stands where one stands, and one cursor less.
use Rattle.std.proofs.Common.{◌≡◌, refl, ap, sym, ◌∙◌, subst, ℕ, zero, suc, List, [], ◌∷◌, map, Option, option_map}
use Rattle.std.specs.Prelude.{slice_get, slice_set}
use Rattle.newt_spec_query.specs.Cursor.{Cursor}
use Rattle.newt_spec_world.specs.World.{World, cursor, flat, settle, settle_cursor}
use Rattle.newt_laws_world.specs.Settled.{IsSettled}

map-set : {X Y : Type 0} (f : X → Y) (xs : List X) (n : ℕ) (x : X) → map f (slice_set xs n x) ≡ slice_set (map f xs) n (f x)
map-set f [] n x = refl
map-set f (y ∷ ys) zero x = refl
map-set {Y = Y} f (y ∷ ys) (suc n) x = ap {A = List Y} (λ zs. f y ∷ zs) (map-set f ys n x)

get-map : {X : Type 0} (g : X → X) (xs : List (Option X)) (n : ℕ) → option_map g (flat (slice_get xs n)) ≡ flat (slice_get (map (option_map g) xs) n)
get-map g [] n = refl
get-map g (x ∷ xs) zero = refl
get-map g (x ∷ xs) (suc n) = get-map g xs n

module _ (w : World) (settled : IsSettled w) where
  abbrev taking : Option Cursor → Option Cursor
  taking k = option_map (settle_cursor w) k

  taken : map taking w.cursors ≡ w.cursors
  taken = ap (λ (v : World). v.cursors) settled

  -- a place that takes what is settled
  placed : (n : ℕ) (k : Option Cursor) → taking k ≡ k → slice_set w.cursors n k ≡ map taking (slice_set w.cursors n k)
  placed n k same = sym (map-set taking w.cursors n k ∙ ap (λ x. slice_set (map taking w.cursors) n x) same ∙ ap (λ xs. slice_set xs n k) taken)

  pub place-settled : (n : ℕ) (k : Option Cursor) → taking k ≡ k → (u : World) → u ≡ record w { cursors = slice_set w.cursors n k } → u ≡ settle u
  place-settled n k same u is = subst (λ (v : World). v ≡ settle v) (sym is) (ap {A = List (Option Cursor)} {B = World} (λ ks. record w { cursors = ks }) (placed n k same))

  pub cursor-settled : (n : ℕ) → taking (cursor w n) ≡ cursor w n
  cursor-settled n = get-map (settle_cursor w) w.cursors n ∙ ap (λ ks. flat (slice_get ks n)) taken
