-- Bytes in pieces.
use Rattle.std.proofs.Common.{◌≡◌, refl, sym, ◌∙◌, ap, ℕ, zero, suc, ◌+◌, ◌*◌, ◌/◌, ◌<◌, ◌≤◌, List, [], ◌∷◌, ◌++◌, length, take, drop, arith, All}
use Rattle.std.specs.List.{flat_map, sum_by}
use Rattle.std.proofs.lemmas.Grind.{common_steps}
use Rattle.std.proofs.lemmas.List.{take-append-drop}
use Rattle.std.proofs.lemmas.List.Elements.{All-nil, All-cons, All-take, All-drop}
use Rattle.std.proofs.lemmas.List.Sums.{sum_by-cons}
use Rattle.newt_backup.specs.Backup.{pieces_from, piece_count, pieces}

pub pieces-length : (n : ℕ) (bytes : List ℕ) → length (pieces_from n bytes) ≡ n
pieces-length zero bytes = refl
pieces-length (suc n) bytes = ap suc (pieces-length n (drop 500_000 bytes))

-- so many pieces are enough
pub count-enough : (bytes : List ℕ) → length bytes ≤ 500_000 * piece_count bytes
count-enough bytes = ceil (length bytes)
  where
    ceil : (n : ℕ) → n ≤ 500_000 * ((n + 499_999) / 500_000)
    ceil n = omega arith

-- and no more than are needed
pub count-few : (bytes : List ℕ) → 500_000 * piece_count bytes < length bytes + 500_000
count-few bytes = floor (length bytes)
  where
    floor : (n : ℕ) → 500_000 * ((n + 499_999) / 500_000) < n + 500_000
    floor n = omega arith

empty : (bytes : List ℕ) → length bytes ≤ 0 → bytes ≡ []
empty [] h = refl
empty (b ∷ bytes) h = absurd (omega (arith, h))

pub joined-from : (n : ℕ) (bytes : List ℕ) → length bytes ≤ 500_000 * n → flat_map (λ piece. piece) (pieces_from n bytes) ≡ bytes
joined-from zero bytes h = sym (empty bytes (omega (arith, h)))
joined-from (suc n) bytes h =
    ap (λ rest. take 500_000 bytes ++ rest) (joined-from n (drop 500_000 bytes) (left 500_000 n bytes h)) ∙ take-append-drop 500_000 bytes
  where
    left : (k n : ℕ) (bytes : List ℕ) → length bytes ≤ k * suc n → length (drop k bytes) ≤ k * n
    left k n bytes h = grind (arith, common_steps, h)

-- the pieces joined are the bytes
pub joined : (bytes : List ℕ) → flat_map (λ piece. piece) (pieces bytes) ≡ bytes
joined bytes = joined-from (piece_count bytes) bytes (count-enough bytes)

pub pieces-short : (n : ℕ) (bytes : List ℕ) → All (λ piece. length piece ≤ 500_000) (pieces_from n bytes)
pieces-short zero bytes = All-nil (λ piece. length piece ≤ 500_000)
pieces-short (suc n) bytes = All-cons (λ piece. length piece ≤ 500_000) (take 500_000 bytes) (pieces_from n (drop 500_000 bytes)) (one 500_000 bytes) (pieces-short n (drop 500_000 bytes))
  where
    one : (k : ℕ) (bytes : List ℕ) → length (take k bytes) ≤ k
    one k bytes = grind (arith, common_steps)

pub pieces-bytes : (P : ℕ → Type 0) (n : ℕ) (bytes : List ℕ) → All P bytes → All (λ piece. All P piece) (pieces_from n bytes)
pieces-bytes P zero bytes h = All-nil (λ piece. All P piece)
pieces-bytes P (suc n) bytes h =
    All-cons (λ piece. All P piece) (take 500_000 bytes) (pieces_from n (drop 500_000 bytes)) (All-take P 500_000 bytes h) (pieces-bytes P n (drop 500_000 bytes) (All-drop P 500_000 bytes h))

-- together they have no more bytes
pub pieces-sum : (n : ℕ) (bytes : List ℕ) → sum_by (λ piece. length piece) (pieces_from n bytes) ≤ length bytes
pieces-sum zero bytes = omega arith
pieces-sum (suc n) bytes = rw (sum_by-cons (λ piece. length piece) (take 500_000 bytes) (pieces_from n (drop 500_000 bytes)))
    (split 500_000 bytes (sum_by (λ piece. length piece) (pieces_from n (drop 500_000 bytes))) (pieces-sum n (drop 500_000 bytes)))
  where
    split : (k : ℕ) (bytes : List ℕ) (s : ℕ) → s ≤ length (drop k bytes) → length (take k bytes) + s ≤ length bytes
    split k bytes s h = grind (arith, common_steps, h)
