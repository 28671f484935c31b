-- Numbers at the front of bytes.
use Rattle.std.proofs.Common.{◌≡◌, ℕ, ◌+◌, ◌-◌, ◌*◌, ◌^◌, ◌<◌, ◌≤◌, List, [], ◌∷◌, length, take, drop, fold, Some, None, refl, ap, sym, ◌∙◌, arith}
use Rattle.std.specs.Prelude.{slice_index}
use Rattle.std.proofs.lemmas.Bool.{le-leb, lt-leb}
use Rattle.std.proofs.lemmas.List.{take_all, length-drop}
use Rattle.newt_base.specs.Text.{be16_at, be32_at}
use Rattle.newt_spec_store.specs.Reading.{number}
use Rattle.newt_soupdir.specs.Reading.{byte_at, number16_at, number32_at}

none_read : (n : ℕ) (bytes : List ℕ) → length bytes < n → number n bytes ≡ None
none_read n bytes h = rw (lt-leb n (length bytes) h) refl

some_read : (n : ℕ) (bytes : List ℕ) → n ≤ length bytes → number n bytes ≡ Some (fold (λ a b. a * 256 + b) 0 (take n bytes), drop n bytes)
some_read n bytes h = rw (le-leb n (length bytes) h) refl

pub byte_none : (bytes : List ℕ) → length bytes ≡ 0 → byte_at bytes ≡ None
unfolding byte_at
byte_none bytes h = none_read 1 bytes (omega (arith, h))

-- the bytes from a place on
from_place : (n : ℕ) (bytes : List ℕ) → take (length bytes - n) (drop n bytes) ≡ drop n bytes
from_place n bytes = take_all (length bytes - n) (drop n bytes) (omega (arith, length-drop n bytes))

pub byte_is : (bytes : List ℕ) → 1 ≤ length bytes → byte_at bytes ≡ Some (slice_index bytes 0, take (length bytes - 1) (drop 1 bytes))
unfolding byte_at
byte_is [] h = absurd (omega (arith, h))
byte_is (b ∷ bs) h = some_read 1 (b ∷ bs) h ∙ ap (λ n. Some (n, bs)) (value b) ∙ ap (λ r. Some (b, r)) (sym (from_place 1 (b ∷ bs)))
  where
    value : (b : ℕ) → 0 * 256 + b ≡ b
    value b = omega arith

pub number16_none : (bytes : List ℕ) → length bytes < 2 → number16_at bytes ≡ None
unfolding number16_at
number16_none bytes h = none_read 2 bytes h

pub number16_is : (bytes : List ℕ) → 2 ≤ length bytes → number16_at bytes ≡ Some (be16_at bytes 0, take (length bytes - 2) (drop 2 bytes))
unfolding number16_at
number16_is [] h = absurd (omega (arith, h))
number16_is (a ∷ []) h = absurd (omega (arith, h))
number16_is (a ∷ b ∷ bs) h = some_read 2 (a ∷ b ∷ bs) h ∙ ap (λ n. Some (n, bs)) (value a b) ∙ ap (λ r. Some (256 * a + b, r)) (sym (from_place 2 (a ∷ b ∷ bs)))
  where
    value : (a b : ℕ) → (0 * 256 + a) * 256 + b ≡ 256 * a + b
    value a b = omega arith

pub number32_none : (bytes : List ℕ) → length bytes < 4 → number32_at bytes ≡ None
unfolding number32_at
number32_none bytes h = none_read 4 bytes h

pub number32_is : (bytes : List ℕ) → 4 ≤ length bytes → number32_at bytes ≡ Some (be32_at bytes 0, take (length bytes - 4) (drop 4 bytes))
unfolding number32_at
number32_is [] h = absurd (omega (arith, h))
number32_is (a ∷ []) h = absurd (omega (arith, h))
number32_is (a ∷ b ∷ []) h = absurd (omega (arith, h))
number32_is (a ∷ b ∷ c ∷ []) h = absurd (omega (arith, h))
number32_is (a ∷ b ∷ c ∷ d ∷ bs) h = some_read 4 (a ∷ b ∷ c ∷ d ∷ bs) h ∙ ap (λ n. Some (n, bs)) (value a b c d) ∙ ap (λ r. Some (2 ^ 16 * (256 * a + b) + (256 * c + d), r)) (sym (from_place 4 (a ∷ b ∷ c ∷ d ∷ bs)))
  where
    value : (a b c d : ℕ) → (((0 * 256 + a) * 256 + b) * 256 + c) * 256 + d ≡ 2 ^ 16 * (256 * a + b) + (256 * c + d)
    value a b c d = omega arith
