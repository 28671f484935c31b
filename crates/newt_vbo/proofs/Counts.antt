-- How many parts a range meets, and how many of its bytes lie before each.
use Rattle.std.proofs.Common.{◌≡◌, ℕ, zero, suc, ◌+◌, ◌-◌, ◌*◌, ◌/◌, ◌<◌, ◌≤◌, arith}
use Rattle.newt_spec_image.specs.Objects.{pages_for}
use Rattle.newt_vbo.specs.Ranges.{parts_met, before_part}

pub met_is : (at n : ℕ) → 1 ≤ n → parts_met at n ≡ (at + n - 1) / 500 - at / 500 + 1
met_is at zero some = absurd (omega (arith, some))
met_is at (suc n) some = omega arith

-- each part that is met begins before the range ends
pub met_begins : (at n part : ℕ) → part < at / 500 + parts_met at n → at / 500 ≤ part → 500 * part < at + n
met_begins at zero part low from = absurd (omega (arith, low, from))
met_begins at (suc n) part low from = omega (arith, low, from)

-- they are at most one more than those that the bytes fill
pub met_few : (at n : ℕ) → parts_met at n ≤ (n + 499) / 500 + 1
met_few at zero = omega arith
met_few at (suc n) = omega arith

-- and end below the numbers of 32 bits, as the bytes do
pub met_small : (at n : ℕ) → at + n < 4294967296 → at / 500 + parts_met at n < 4294967296
met_small at zero low = omega (arith, low)
met_small at (suc n) low = omega (arith, low)

-- none of the bytes lie before the first part, and all lie before the end of the last
pub before_first : (at n : ℕ) → before_part (at / 500) at (at + n) ≡ 0
before_first at n = omega arith

pub before_end : (at n : ℕ) → before_part (at / 500 + parts_met at n) at (at + n) ≡ n
before_end at zero = omega arith
before_end at (suc n) = omega arith

-- a part that is met is one of the object's
pub met_within : (at n part size : ℕ) → 500 * part < at + n → at + n ≤ size → part < pages_for size
met_within at n part size low fits = omega (arith, low, fits)
