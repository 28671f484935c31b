-- Ranges of an object's bytes, and the parts that they lie in. This project's own.
use Rattle.std.specs.Prelude.{◌≡◌, ℕ, zero, suc, ◌+◌, ◌-◌, ◌*◌, ◌/◌, ◌≤◌, min, List, take, drop}
use Rattle.newt_spec_image.specs.Objects.{Extent}
use Rattle.newt_vbo.specs.declared.range.Piece.{Piece}

-- How many parts they lie in, from that of the first byte to that of the last; none where there are no bytes.
abbrev pub parts_met : ℕ → ℕ → ℕ
parts_met at zero = 0
parts_met at (suc n) = (at + n) / 500 - at / 500 + 1

-- the numbers of the pages of these parts
abbrev pub numbers_met : Extent → ℕ → ℕ → List ℕ
numbers_met x at n = take (parts_met at n) (drop (at / 500) x.numbers)

-- how many bytes of the range from `at` to `end` lie before a part
abbrev pub before_part : ℕ → ℕ → ℕ → ℕ
before_part part at end = min (500 * part) end - at

-- the bytes of the range that lie in a part
pub record IsPiece (part at end : ℕ) (piece : Piece) : Type 0 where
  pub place : at + piece.start ≡ 500 * part + piece.from
  pub first : piece.start ≡ before_part part at end
  pub last : piece.start + piece.count ≡ before_part (part + 1) at end
  pub inside : piece.from + piece.count ≤ 500
