-- What is kept of watches, by the watches.
use Rattle.std.proofs.Common.{◌≡◌, ◌+◌, refl, ap, sym, ◌∙◌, ℕ, zero, suc, List, [], ◌∷◌, length, cond, Option, Some, None, option_map, slice_set}
use Rattle.std.specs.Prelude.{slice_get, is_none, not, nat_lt}
use Rattle.std.specs.List.{position, prefix_len}
use Rattle.std.proofs.lemmas.List.{map-set}
use Rattle.newt_notify.specs.Watch.{Watching, as_new, emptied, kept_all, kept_of, watch_at}
use Rattle.newt_spec_world.specs.World.{change_at}

taken-before : (ws : List (Option Watching)) → prefix_len (λ x. not (is_none x)) (kept_all ws) ≡ prefix_len (λ x. not (is_none x)) ws
taken-before [] = refl
taken-before (None ∷ ws) = refl
taken-before (Some w ∷ ws) = ap (λ (n : ℕ). 1 + n) (taken-before ws)

kept-length : (ws : List (Option Watching)) → length (kept_all ws) ≡ length ws
kept-length [] = refl
kept-length (w ∷ ws) = ap (λ n. suc n) (kept-length ws)

-- the same places are free
pub kept-free : (ws : List (Option Watching)) → position is_none (kept_all ws) ≡ position is_none ws
kept-free ws =
    ap (λ (n : ℕ). cond (nat_lt n (length (kept_all ws))) (Some n) None) (taken-before ws)
    ∙ ap (λ (m : ℕ). cond (nat_lt (prefix_len (λ x. not (is_none x)) ws) m) (Some (prefix_len (λ x. not (is_none x)) ws)) None) (kept-length ws)

pub kept-set : (ws : List (Option Watching)) (n : ℕ) (x : Option Watching) → slice_set (kept_all ws) n (option_map kept_of x) ≡ kept_all (slice_set ws n x)
kept-set ws n x = sym (map-set (option_map kept_of) ws n x)

pub kept-at : (ws : List (Option Watching)) (n : ℕ) → watch_at n (kept_all ws) ≡ option_map kept_of (watch_at n ws)
kept-at [] n = refl
kept-at (w ∷ ws) zero = refl
kept-at (w ∷ ws) (suc n) = kept-at ws n

pub kept-emptied : (ws : List (Option Watching)) (n : ℕ) → slice_set (kept_all ws) n (option_map as_new (watch_at n (kept_all ws))) ≡ kept_all (change_at n emptied ws)
kept-emptied [] n = refl
kept-emptied (None ∷ ws) zero = refl
kept-emptied (Some w ∷ ws) zero = refl
kept-emptied (w ∷ ws) (suc n) = ap (λ ks. option_map kept_of w ∷ ks) (kept-emptied ws n)
