-- The hexadecimal texts of this crate against those of the kit.
use Rattle.std.proofs.Common.{◌≡◌, ℕ, zero, suc, ◌+◌, ◌*◌, ◌/◌, ◌%◌, ◌<◌, ◌==◌, Bool, true, false, ◌&&◌, ◌⊎◌, inl, inr, List, [], ◌∷◌, length, slice_index, Option, Some, None, Result, Ok, Err, refl, sym, ap, ◌∙◌, arith}
use Rattle.std.proofs.lemmas.Bool.{and_parts, cases_lt, eqb-true}
use Rattle.hex.specs.Hex.{IsBytes, decode_of, decode_pairs, digit_or_error, encode_upper, encode_with, hex_digit_value, upper_digits, ◌>>=◌}
use Rattle.hex.specs.declared.error.FromHexError.{FromHexError}
use Rattle.hex.specs.declared.error.FromHexError.TheVariants.{OutOfMemory}
use Rattle.hex.proofs.HexLemmas.{decode_pairs-ok}
use Rattle.newt_base.specs.Faults.{hex_fault}
use Rattle.newt_base.specs.declared.hexadecimal.HexFault.TheVariants.{NotHex}
use Rattle.newt_base.specs.Text.{hex_byte, hex_bytes, hex_digit, hex_text}

-- what was read, if anything
pub ok_of : Result (List ℕ) FromHexError → Option (List ℕ)
ok_of (Ok bytes) = Some bytes
ok_of (Err e) = None

-- one pair of digits, and what comes after it
ok_of-pair : (x y : Option ℕ) (a b i : ℕ) (rest : Result (List ℕ) FromHexError)
    → ok_of ((digit_or_error a i x >>= (λ h. digit_or_error b (i + 1) y >>= (λ l. Ok (h * 16 + l)))) >>= (λ byte. rest >>= (λ bytes. Ok (byte ∷ bytes))))
    ≡ hex_byte x y (ok_of rest)
unfolding ok_of
ok_of-pair None y a b i rest = refl
ok_of-pair (Some h) None a b i rest = refl
ok_of-pair (Some h) (Some l) a b i (Ok bytes) = refl
ok_of-pair (Some h) (Some l) a b i (Err e) = refl

ok_of-pairs : (i : ℕ) (text : List ℕ) → ok_of (decode_pairs i text) ≡ hex_bytes text
unfolding ok_of decode_pairs
ok_of-pairs i [] = refl
ok_of-pairs i (a ∷ []) = refl
ok_of-pairs i (a ∷ b ∷ rest) =
    ok_of-pair (hex_digit_value a) (hex_digit_value b) a b i (decode_pairs (i + 2) rest)
    ∙ ap (hex_byte (hex_digit_value a) (hex_digit_value b)) (ok_of-pairs (i + 2) rest)

-- a text of odd length writes no bytes
ok_of-odd : (text : List ℕ) (r : Result (List ℕ) FromHexError) → decode_pairs 0 text ≡ r → length text % 2 ≡ 1 → ok_of r ≡ None
unfolding ok_of
ok_of-odd text (Ok bytes) read odd = let even = (decode_pairs-ok 0 text bytes read).1 in absurd (omega arith)
ok_of-odd text (Err e) read odd = refl

by_parity : (text : List ℕ) (odd : Bool) → (length text % 2 == 1) ≡ odd → ok_of (decode_of text) ≡ hex_bytes text
unfolding ok_of
by_parity text true e =
    rw e (sym (ok_of-odd text (decode_pairs 0 text) refl (eqb-true (length text % 2) 1 e)) ∙ ok_of-pairs 0 text)
by_parity text false e = rw e (ok_of-pairs 0 text)

-- the kit's reading is this one
pub ok_of-decode_of : (text : List ℕ) → ok_of (decode_of text) ≡ hex_bytes text
ok_of-decode_of text = by_parity text (length text % 2 == 1) refl

-- a text that was read
pub hex_bytes-read : (text bytes : List ℕ) → decode_of text ≡ Ok bytes → hex_bytes text ≡ Some bytes
unfolding ok_of
hex_bytes-read text bytes read = sym (ok_of-decode_of text) ∙ ap ok_of read

-- a text that was refused for another reason than memory
pub hex_bytes-refused : (text : List ℕ) (e : FromHexError) → (e ≡ OutOfMemory) ⊎ (decode_of text ≡ Err e) → hex_fault e ≡ NotHex → hex_bytes text ≡ None
unfolding ok_of
hex_bytes-refused text e (inl memory) fault = cc (ap hex_fault memory)
hex_bytes-refused text e (inr refused) fault = sym (ok_of-decode_of text) ∙ ap ok_of refused

-- ---- the digits of the text

-- the first n digits of the kit's table are those of this crate
same_digits : ℕ → Bool
same_digits zero = true
same_digits (suc n) = (slice_index upper_digits n == hex_digit n) && same_digits n

same_digit : (n d : ℕ) → same_digits n ≡ true → d < n → slice_index upper_digits d ≡ hex_digit d
unfolding same_digits
same_digit zero d h inside = absurd (omega arith)
same_digit (suc n) d h inside =
    let parts = and_parts (slice_index upper_digits n == hex_digit n) (same_digits n) h in
    elim (cases_lt d n) [
      | inl below ↦ same_digit n d parts.1 below
      | inr top ↦
          let e : d ≡ n = omega arith in
          rw e (eqb-true (slice_index upper_digits n) (hex_digit n) parts.0)
    ]

digit_is : (d : ℕ) → d < 16 → slice_index upper_digits d ≡ hex_digit d
unfolding same_digits
digit_is d inside = same_digit 16 d refl inside

-- the kit's text is this one
pub encode_upper-hex_text : (bytes : List ℕ) → IsBytes bytes → encode_upper bytes ≡ hex_text bytes
unfolding encode_with
encode_upper-hex_text [] fits = refl
encode_upper-hex_text (b ∷ rest) fits =
    let byte : b < 256 = fits 0 in
    let high : b / 16 < 16 = omega arith in
    let low : b % 16 < 16 = omega arith in
    let first = digit_is (b / 16) high in
    let second = digit_is (b % 16) low in
    let more = encode_upper-hex_text rest (λ k. fits (suc k)) in
    rw (first, second, more) refl
