-- The places for cursors, where some change.
use Rattle.std.proofs.Common.{arith, ◌≡◌, refl, ap, sym, ◌∙◌, ◌⊎◌, inl, inr, ℕ, zero, suc, ◌+◌, ◌<◌, ◌≤◌, List, [], ◌∷◌, length, map, find, Option, Some, None, option_map, unwrap_or, add-one, subst}
use Rattle.std.specs.Prelude.{IfSome, slice_get, slice_set}
use Rattle.newt_spec_graph.specs.Lists.{Each}
use Rattle.newt_spec_graph.proofs.Lists.{some-same, none-some}
use Rattle.newt_spec_store.specs.Keys.{Key}
use Rattle.newt_spec_query.specs.Hits.{Hit}
use Rattle.newt_spec_query.specs.Cursor.{Place, start, finish, on, Cursor, hit_at, settled, same_identity}
use Rattle.newt_spec_world.specs.Changed.{open_at, open_cursor}
use Rattle.newt_spec_world.specs.World.{World, change_at, flat, free_cursor, hits_of, settle_cursor}
use Rattle.newt_laws_images.proofs.Chosen.{find-passes}
use Rattle.newt_laws_world.proofs.Settled.{three-equal}
use Rattle.newt_cursor.specs.Desk.{keyed, put_on, with_key}
use Rattle.newt_keys.specs.KeyForm.{IsKeyOf}
use Rattle.newt_engine_cursors.specs.Fits.{DeskFits, KeyFits}
use Rattle.newt_engine_hits.specs.Fits.{PlaceFits}
use Rattle.newt_engine_cursors.specs.Keyed.{change_from, given, key_now}

-- ---- one place

pub change-one : (f g : Cursor → Cursor) (xs : List (Option Cursor)) (c : ℕ) → ((k : Cursor) → flat (slice_get xs c) ≡ Some k → f k ≡ g k) → change_at c f xs ≡ change_at c g xs
change-one f g [] c h = refl
change-one f g (x ∷ xs) zero h = ap (λ (y : Option Cursor). y ∷ xs) (go x h)
  where
    go : (x : Option Cursor) → ((k : Cursor) → x ≡ Some k → f k ≡ g k) → option_map f x ≡ option_map g x
    go None h = refl
    go (Some k) h = ap Some (h k refl)
change-one f g (x ∷ xs) (suc c) h = ap (λ (ys : List (Option Cursor)). x ∷ ys) (change-one f g xs c h)

pub change-none : (f : Cursor → Cursor) (xs : List (Option Cursor)) (c : ℕ) → ((k : Cursor) → flat (slice_get xs c) ≡ Some k → f k ≡ k) → change_at c f xs ≡ xs
change-none f [] c h = refl
change-none f (x ∷ xs) zero h = ap (λ (y : Option Cursor). y ∷ xs) (go x h)
  where
    go : (x : Option Cursor) → ((k : Cursor) → x ≡ Some k → f k ≡ k) → option_map f x ≡ x
    go None h = refl
    go (Some k) h = ap Some (h k refl)
change-none f (x ∷ xs) (suc c) h = ap (λ (ys : List (Option Cursor)). x ∷ ys) (change-none f xs c h)

change-length : (f : Cursor → Cursor) (xs : List (Option Cursor)) (c : ℕ) → length (change_at c f xs) ≡ length xs
change-length f [] c = refl
change-length f (x ∷ xs) zero = refl
change-length f (x ∷ xs) (suc c) = ap suc (change-length f xs c)

change-each : (P : Option Cursor → Type 0) (f : Cursor → Cursor) (xs : List (Option Cursor)) (c : ℕ) → Each P xs → ((k : Cursor) → flat (slice_get xs c) ≡ Some k → P (Some (f k)))
    → Each P (change_at c f xs)
change-each P f [] c e h = tt
change-each P f (x ∷ xs) zero e h = (go x e.0 h, e.1)
  where
    go : (x : Option Cursor) → P x → ((k : Cursor) → x ≡ Some k → P (Some (f k))) → P (option_map f x)
    go None p h = p
    go (Some k) p h = h k refl
change-each P f (x ∷ xs) (suc c) e h = (e.0, change-each P f xs c e.1 h)

pub change-fits : (f : Cursor → Cursor) (xs : List (Option Cursor)) (c : ℕ) → DeskFits xs → ((k : Cursor) → flat (slice_get xs c) ≡ Some k → KeyFits (Some (f k)))
    → DeskFits (change_at c f xs)
change-fits f xs c d h = record { places = change-length f xs c ∙ d.places; keys = change-each KeyFits f xs c d.keys h }

-- ---- a cursor that is opened

set-length : (xs : List (Option Cursor)) (c : ℕ) (k : Option Cursor) → length (slice_set xs c k) ≡ length xs
set-length [] c k = refl
set-length (x ∷ xs) zero k = refl
set-length (x ∷ xs) (suc c) k = ap suc (set-length xs c k)

set-each : (P : Option Cursor → Type 0) (xs : List (Option Cursor)) (c : ℕ) (k : Option Cursor) → Each P xs → P k → Each P (slice_set xs c k)
set-each P [] c k e h = tt
set-each P (x ∷ xs) zero k e h = (h, e.1)
set-each P (x ∷ xs) (suc c) k e h = (e.0, set-each P xs c k e.1 h)

pub set-fits : (xs : List (Option Cursor)) (c : ℕ) (k : Option Cursor) → DeskFits xs → KeyFits k → DeskFits (slice_set xs c k)
set-fits xs c k d h = record { places = set-length xs c k ∙ d.places; keys = set-each KeyFits xs c k d.keys h }

pub opens-at : (w : World) (k : Cursor) (c : ℕ) → free_cursor w ≡ Some c → record w { cursors = slice_set w.cursors c (Some k) } ≡ open_cursor w k
opens-at w k c e = sym (ap (open_at w k) e)

-- ---- the present key

settled-none : (hs : List Hit) (place : Place) → option_map (λ (h : Hit). h.key) (hit_at hs place) ≡ None → settled hs place ≡ place
settled-none hs place e = go (hit_at hs place) refl e
  where
    go : (o : Option Hit) → hit_at hs place ≡ o → option_map (λ (h : Hit). h.key) o ≡ None → settled hs place ≡ place
    go None i e = ap (λ (o : Option Hit). unwrap_or (option_map on o) place) i
    go (Some h) i e = absurd (none-some h.key (sym e))

settled-some : (hs : List Hit) (place : Place) (key : Key) → option_map (λ (h : Hit). h.key) (hit_at hs place) ≡ Some key → settled hs place ≡ with_key key place
settled-some hs start key e = absurd (none-some key e)
settled-some hs finish key e = absurd (none-some key e)
settled-some hs (on at) key e = go (find (same_identity at) hs) refl e
  where
    go : (o : Option Hit) → find (same_identity at) hs ≡ o → option_map (λ (h : Hit). h.key) o ≡ Some key → unwrap_or (option_map on (find (same_identity at) hs)) (on at) ≡ on (record at { key = key })
    go None i e = absurd (none-some key e)
    go (Some h) i e =
        let same = three-equal at h (find-passes (same_identity at) hs h i).0 in
        ap (λ (o : Option Hit). unwrap_or (option_map on o) (on at)) i
        ∙ (λ i. on (record { key = some-same h.key key e i; store = sym same.0 i; soup = sym same.1 i; uid = sym same.2 i }))

pub no-key : (w : World) (k : Cursor) → key_now w k ≡ None → settle_cursor w k ≡ k
no-key w k e = ap {A = Place} {B = Cursor} (λ p. record k { place = p }) (settled-none (hits_of w k.query) k.place e)

pub one-key : (w : World) (k : Cursor) (key : Key) → key_now w k ≡ Some key → settle_cursor w k ≡ keyed key k
one-key w k key e = ap {A = Place} {B = Cursor} (λ p. record k { place = p }) (settled-some (hits_of w k.query) k.place key e)

-- a place that takes a key of the index
pub keyed-fits : (k : Cursor) (key : Key) → IsKeyOf k.query.spec.index key → KeyFits (Some (keyed key k))
keyed-fits k key h = go k.place
  where
    go : (p : Place) → PlaceFits k.query.spec.index (with_key key p)
    go start = tt
    go finish = tt
    go (on at) = h

-- ---- one place after another

-- the first so many places changed
pub below : ℕ → (Cursor → Cursor) → List (Option Cursor) → List (Option Cursor)
below zero f xs = xs
below (suc n) f [] = []
below (suc n) f (x ∷ xs) = option_map f x ∷ below n f xs

pub below-none : (f : Cursor → Cursor) (xs : List (Option Cursor)) → below 0 f xs ≡ xs
unfolding below
below-none f xs = refl

below-suc : (n : ℕ) (f : Cursor → Cursor) (xs : List (Option Cursor)) → change_at n f (below n f xs) ≡ below (suc n) f xs
unfolding below
below-suc zero f [] = refl
below-suc zero f (x ∷ xs) = refl
below-suc (suc n) f [] = refl
below-suc (suc n) f (x ∷ xs) = ap (λ (ys : List (Option Cursor)). option_map f x ∷ ys) (below-suc n f xs)

pub below-more : (n : ℕ) (f : Cursor → Cursor) (xs ys : List (Option Cursor)) → ys ≡ below n f xs → change_at n f ys ≡ below (n + 1) f xs
below-more n f xs ys e = ap (change_at n f) e ∙ below-suc n f xs ∙ ap (λ m. below m f xs) (sym (add-one n))

pub below-all : (n : ℕ) (f : Cursor → Cursor) (xs : List (Option Cursor)) → length xs ≤ n → below n f xs ≡ map (option_map f) xs
unfolding below
below-all zero f [] h = refl
below-all zero f (x ∷ xs) h = absurd (omega (arith, h))
below-all (suc n) f [] h = refl
below-all (suc n) f (x ∷ xs) h = ap (λ (ys : List (Option Cursor)). option_map f x ∷ ys) (below-all n f xs (omega (arith, h)))

-- the place that is next is as it was
pub below-at : (n : ℕ) (f : Cursor → Cursor) (xs : List (Option Cursor)) → flat (slice_get (below n f xs) n) ≡ flat (slice_get xs n)
unfolding below
below-at zero f xs = refl
below-at (suc n) f [] = refl
below-at (suc n) f (x ∷ xs) = below-at n f xs

-- a number before the next, and one of a place or after all
pub one-or-after : (n m : ℕ) → (n < m) ⊎ (m ≤ n)
one-or-after zero zero = inr (omega arith)
one-or-after zero (suc m) = inl (omega arith)
one-or-after (suc n) zero = inr (omega arith)
one-or-after (suc n) (suc m) = elim (one-or-after n m) [ inl h ↦ inl (omega (arith, h)) | inr h ↦ inr (omega (arith, h)) ]

pub next-or-before : (n m : ℕ) → n < m + 1 → (n < m) ⊎ (n ≡ m)
next-or-before n m h = elim (one-or-after n m) [ inl less ↦ inl less | inr more ↦ inr (omega (arith, h, more)) ]

-- there is none after all
pub none-after : (xs : List (Option Cursor)) (n : ℕ) → length xs ≤ n → flat (slice_get xs n) ≡ None
none-after [] n h = refl
none-after (x ∷ xs) zero h = absurd (omega (arith, h))
none-after (x ∷ xs) (suc n) h = none-after xs n (omega (arith, h))

-- ---- from a place on

-- one place, and those after it
pub from-next : (n : ℕ) (f : Cursor → Cursor) (xs : List (Option Cursor)) → change_at n f (change_from (n + 1) f xs) ≡ change_from n f xs
from-next n f xs = ap (λ m. change_at n f (change_from m f xs)) (add-one n) ∙ go n xs
  where
    go : (n : ℕ) (xs : List (Option Cursor)) → change_at n f (change_from (suc n) f xs) ≡ change_from n f xs
    go zero [] = refl
    go zero (x ∷ xs) = refl
    go (suc n) [] = refl
    go (suc n) (x ∷ xs) = ap (λ (ys : List (Option Cursor)). x ∷ ys) (go n xs)

-- there is none from after all on
pub from-after : (n : ℕ) (f : Cursor → Cursor) (xs : List (Option Cursor)) → length xs ≤ n → change_from n f xs ≡ xs
from-after zero f [] h = refl
from-after zero f (x ∷ xs) h = absurd (omega (arith, h))
from-after (suc n) f [] h = refl
from-after (suc n) f (x ∷ xs) h = ap (λ (ys : List (Option Cursor)). x ∷ ys) (from-after n f xs (omega (arith, h)))

-- a place before one that is changed
pub before-change : (f : Cursor → Cursor) (xs : List (Option Cursor)) (n c : ℕ) → c < n → slice_get (change_at n f xs) c ≡ slice_get xs c
before-change f [] n c h = refl
before-change f (x ∷ xs) zero c h = absurd (omega (arith, h))
before-change f (x ∷ xs) (suc n) zero h = refl
before-change f (x ∷ xs) (suc n) (suc c) h = before-change f xs n c (omega (arith, h))

-- a key that is given
pub given-fits : (key : Option Key) (xs : List (Option Cursor)) (c : ℕ) → DeskFits xs → ((k : Cursor) → flat (slice_get xs c) ≡ Some k → IfSome key (IsKeyOf k.query.spec.index)) → DeskFits (change_at c (given key) xs)
given-fits None xs c d h = subst DeskFits (sym (change-none (given None) xs c (λ k e. refl))) d
given-fits (Some key) xs c d h = change-fits (keyed key) xs c d (λ k e. keyed-fits k key (h k e))

-- ---- another place

-- a cursor that is put elsewhere stands there
pub put-there : (place : Place) (xs : List (Option Cursor)) (c : ℕ) (k : Cursor) → Some k ≡ flat (slice_get xs c) → flat (slice_get (change_at c (put_on place) xs) c) ≡ Some (put_on place k)
put-there place [] c k e = absurd (none-some k (sym e))
put-there place (None ∷ xs) zero k e = absurd (none-some k (sym e))
put-there place (Some j ∷ xs) zero k e = ap (λ (x : Cursor). Some (put_on place x)) (sym (some-same k j e))
put-there place (x ∷ xs) (suc c) k e = put-there place xs c k e
