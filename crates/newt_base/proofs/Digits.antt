-- A number that is read digit by digit.
use Rattle.std.proofs.Common.{◌≡◌, ℕ, ◌+◌, ◌-◌, ◌*◌, ◌^◌, ◌<◌, true, List, [], ◌∷◌, ◌++◌, length, take, get_or, refl, sym, ap, ◌∙◌, arith, add-one}
use Rattle.std.proofs.Math.Nat.{pow-suc}
use Rattle.std.proofs.Math.Seq.{take-suc}
use Rattle.std.proofs.lemmas.List.Folds.{list_all_more}
use Rattle.std.specs.Char.{is_ascii_digit}
use Rattle.std.specs.List.{list_all}
use Rattle.newt_base.specs.Text.{number_after}

-- one digit more
number_after-append : (before : ℕ) (xs : List ℕ) (c : ℕ) → number_after before (xs ++ c ∷ []) ≡ 10 * number_after before xs + (c - 48)
number_after-append before [] c = refl
number_after-append before (x ∷ xs) c = number_after-append (10 * before + (x - 48)) xs c

-- the first i bytes are digits and write the number `value`
pub record IsRead (value : ℕ) (text : List ℕ) (i : ℕ) : Type 0 where
  pub number : value ≡ number_after 0 (take i text)
  pub digits : list_all is_ascii_digit (take i text) ≡ true
  pub small : value < 10 ^ i

digit_small : (c : ℕ) → is_ascii_digit c ≡ true → c - 48 < 10
digit_small c digit = grind arith

-- the next byte is a digit too
pub read_more : (value : ℕ) (text : List ℕ) (i : ℕ) → i < length text → IsRead value text i
    → is_ascii_digit (get_or text i 0) ≡ true → IsRead (10 * value + (get_or text i 0 - 48)) text (i + 1)
read_more value text i inside read digit =
    let next : take (i + 1) text ≡ take i text ++ get_or text i 0 ∷ [] = rw add-one (take-suc text i 0 inside) in
    let step = number_after-append 0 (take i text) (get_or text i 0) in
    let power : 10 ^ (i + 1) ≡ 10 ^ i * 10 = rw add-one (pow-suc 10 i) in
    let small = digit_small (get_or text i 0) digit in
    let below = read.small in
    record {
      number = ap (λ (n : ℕ). 10 * n + (get_or text i 0 - 48)) read.number ∙ sym step ∙ sym (ap (number_after 0) next);
      digits = list_all_more is_ascii_digit text i 0 inside ∙ rw (read.digits, digit) refl;
      small = rw power (omega arith);
    }
