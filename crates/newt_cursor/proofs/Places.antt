-- The places for cursors of the code, seen as those of the definition.
use Rattle.std.proofs.Common.{◌≡◌, ◌<◌, ◌≤◌, ◌+◌, refl, ap, ◌∙◌, arith, ℕ, zero, suc, List, [], ◌∷◌, length, get_or, cond, Option, Some, None, option_map, replicate, slice_get, slice_set}
use Rattle.std.specs.Prelude.{is_none, not, nat_lt}
use Rattle.std.specs.List.{position, prefix_len}
use Rattle.std.proofs.lemmas.List.{map-set}
use Rattle.newt_spec_query.specs.Cursor as spec
use Rattle.newt_spec_world.specs.World.{change_at, flat}
use Rattle.newt_cursor.specs.declared.desk.Cursor.{Cursor}
use Rattle.newt_cursor.specs.Seen.{cursor_of, cursors_of}

pub set_seen : (xs : List (Option Cursor)) (c : ℕ) (x : Option Cursor) → cursors_of (slice_set xs c x) ≡ slice_set (cursors_of xs) c (option_map cursor_of x)
set_seen xs c x = map-set (option_map cursor_of) xs c x

pub set_beyond : (xs : List (Option Cursor)) (c : ℕ) → length xs ≤ c → slice_set (cursors_of xs) c None ≡ cursors_of xs
set_beyond [] c le = refl
set_beyond (x ∷ xs) zero le = absurd (omega (arith, le))
set_beyond (x ∷ xs) (suc c) le = ap (λ ys. option_map cursor_of x ∷ ys) (set_beyond xs c (omega (arith, le)))

pub seen_at : (xs : List (Option Cursor)) (c : ℕ) → flat (slice_get (cursors_of xs) c) ≡ option_map cursor_of (flat (slice_get xs c))
seen_at [] c = refl
seen_at (x ∷ xs) zero = refl
seen_at (x ∷ xs) (suc c) = seen_at xs c

pub changed_at : (f : spec.Cursor → spec.Cursor) (xs : List (Option Cursor)) (c : ℕ) (x d : Option Cursor) → c < length xs
    → option_map cursor_of x ≡ option_map f (option_map cursor_of (get_or xs c d)) → cursors_of (slice_set xs c x) ≡ change_at c f (cursors_of xs)
changed_at f [] c x d lt e = absurd (omega (arith, lt))
changed_at f (y ∷ xs) zero x d lt e = ap (λ o. o ∷ cursors_of xs) e
changed_at f (y ∷ xs) (suc c) x d lt e = ap (λ ys. option_map cursor_of y ∷ ys) (changed_at f xs c x d (omega (arith, lt)) e)

pub stays_at : (f : spec.Cursor → spec.Cursor) (xs : List (Option Cursor)) (c : ℕ) → length xs ≤ c → change_at c f (cursors_of xs) ≡ cursors_of xs
stays_at f [] c le = refl
stays_at f (x ∷ xs) zero le = absurd (omega (arith, le))
stays_at f (x ∷ xs) (suc c) le = ap (λ ys. option_map cursor_of x ∷ ys) (stays_at f xs c (omega (arith, le)))

open_before : (xs : List (Option Cursor)) → prefix_len (λ x. not (is_none x)) (cursors_of xs) ≡ prefix_len (λ x. not (is_none x)) xs
open_before [] = refl
open_before (None ∷ xs) = refl
open_before (Some k ∷ xs) = ap (λ (n : ℕ). 1 + n) (open_before xs)

pub seen_length : (xs : List (Option Cursor)) → length (cursors_of xs) ≡ length xs
seen_length [] = refl
seen_length (x ∷ xs) = ap (λ n. suc n) (seen_length xs)

pub free_alike : (xs : List (Option Cursor)) → position is_none (cursors_of xs) ≡ position is_none xs
free_alike xs =
    ap (λ (n : ℕ). cond (nat_lt n (length (cursors_of xs))) (Some n) None) (open_before xs)
    ∙ ap (λ (m : ℕ). cond (nat_lt (prefix_len (λ x. not (is_none x)) xs) m) (Some (prefix_len (λ x. not (is_none x)) xs)) None) (seen_length xs)

pub all_free : (xs : List (Option Cursor)) → xs ≡ replicate 32 None → cursors_of xs ≡ replicate 32 None
all_free xs e = ap cursors_of e
