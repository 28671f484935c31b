-- A note is given to one watch after another.
use Rattle.std.proofs.Common.{◌≡◌, ◌<◌, ◌≤◌, refl, ap, sym, ◌∙◌, arith, ℕ, zero, suc, List, [], ◌∷◌, length, get_or, Option, None, option_map, slice_set}
use Rattle.newt_notify.specs.declared.note.Note.{Note}
use Rattle.newt_notify.specs.Watch.{Kept, Watching, kept_of, kept_all, taking, noted}

-- the watches before a place have taken a note of a soup of this name
abbrev pub noted_below : List ℕ → Note → ℕ → List (Option Watching) → List (Option Watching)
noted_below name note zero ws = ws
noted_below name note (suc at) [] = []
noted_below name note (suc at) (w ∷ ws) = option_map (taking name note) w ∷ noted_below name note at ws

pub noted_at : (name : List ℕ) (note : Note) (at : ℕ) (ws : List (Option Watching)) (d : Option Kept) → at < length ws
    → get_or (kept_all (noted_below name note at ws)) at d ≡ option_map kept_of (get_or ws at None)
noted_at name note zero [] d lt = absurd (omega (arith, lt))
noted_at name note zero (w ∷ ws) d lt = refl
noted_at name note (suc at) [] d lt = absurd (omega (arith, lt))
noted_at name note (suc at) (w ∷ ws) d lt = noted_at name note at ws d (omega (arith, lt))

pub noted_set : (name : List ℕ) (note : Note) (at : ℕ) (ws : List (Option Watching)) (x : Option Kept) → at < length ws
    → x ≡ option_map kept_of (option_map (taking name note) (get_or ws at None)) → slice_set (kept_all (noted_below name note at ws)) at x ≡ kept_all (noted_below name note (suc at) ws)
noted_set name note zero [] x lt e = absurd (omega (arith, lt))
noted_set name note zero (w ∷ ws) x lt e = ap (λ k. k ∷ kept_all ws) e
noted_set name note (suc at) [] x lt e = absurd (omega (arith, lt))
noted_set name note (suc at) (w ∷ ws) x lt e = ap (λ ks. option_map kept_of (option_map (taking name note) w) ∷ ks) (noted_set name note at ws x (omega (arith, lt)) e)

pub noted_all : (name : List ℕ) (note : Note) (at : ℕ) (ws : List (Option Watching)) → length ws ≤ at → noted_below name note at ws ≡ noted name note ws
noted_all name note zero [] le = refl
noted_all name note zero (w ∷ ws) le = absurd (omega (arith, le))
noted_all name note (suc at) [] le = refl
noted_all name note (suc at) (w ∷ ws) le = ap (λ ks. option_map (taking name note) w ∷ ks) (noted_all name note at ws (omega (arith, le)))

pub length_below : (name : List ℕ) (note : Note) (at : ℕ) (ws : List (Option Watching)) → length (kept_all (noted_below name note at ws)) ≡ length ws
length_below name note zero [] = refl
length_below name note zero (w ∷ ws) = ap (λ n. suc n) (length_below name note zero ws)
length_below name note (suc at) [] = refl
length_below name note (suc at) (w ∷ ws) = ap (λ n. suc n) (length_below name note at ws)

pub noted_step : (name : List ℕ) (note : Note) (at next : ℕ) (ws : List (Option Watching)) (xs : List (Option Kept)) (new d : Option Kept)
    → next ≡ suc at → at < length xs → xs ≡ kept_all (noted_below name note at ws)
    → ((w : Option Watching) → get_or xs at d ≡ option_map kept_of w → new ≡ option_map kept_of (option_map (taking name note) w))
    → slice_set xs at new ≡ kept_all (noted_below name note next ws)
noted_step name note at next ws xs new d n lt is gives =
    let short : at < length ws = omega (arith, lt, ap length is, length_below name note at ws) in
    let held : get_or xs at d ≡ option_map kept_of (get_or ws at None) = ap (λ ys. get_or ys at d) is ∙ noted_at name note at ws d short in
    ap (λ ys. slice_set ys at new) is ∙ noted_set name note at ws new short (gives (get_or ws at None) held) ∙ ap (λ m. kept_all (noted_below name note m ws)) (sym n)

pub noted_end : (name : List ℕ) (note : Note) (at : ℕ) (ws : List (Option Watching)) (xs : List (Option Kept))
    → length xs ≤ at → xs ≡ kept_all (noted_below name note at ws) → xs ≡ kept_all (noted name note ws)
noted_end name note at ws xs le is = is ∙ ap kept_all (noted_all name note at ws (omega (arith, le, ap length is, length_below name note at ws)))
