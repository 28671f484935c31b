-- Numbers of digits, and words in front of a text.
use Rattle.std.proofs.Common.{◌≡◌, ℕ, suc, ◌+◌, ◌*◌, ◌^◌, ◌<◌, ◌≤◌, Bool, true, false, List, [], ◌∷◌, length, refl, sym, ap, ◌∙◌, arith, lit≤, cond, get_or}
use Rattle.std.specs.Prelude.{drop, take, ℤ, Some, None}
use Rattle.std.specs.Char.{digit_value}
use Rattle.std.specs.Str.Parse.{digits_value}
use Rattle.std.proofs.lemmas.List.{length-drop, get_or_default}
use Rattle.std.proofs.lemmas.Int.Digits.{digits_value_more}
use Rattle.std.proofs.Math.Nat.{pow-le-pow_right, pow-succ'}
use Rattle.newt_base.specs.Names.{is_word}
use Rattle.newt_spec_literal.specs.Words.{word_len}
use Rattle.newt_lit_read.specs.Tokens.{word_value}

-- one more digit stays below the next power
pub one_more : (n i d : ℕ) → n < 10 ^ i → d < 10 → n * 10 + d < 10 ^ (i + 1)
one_more n i d h lt =
    let e : 10 ^ suc i ≡ 10 * 10 ^ i = pow-succ' 10 i in
    let s : i + 1 ≡ suc i = omega arith in
    rw (s, e) (omega (arith, h, lt))

pub one_more_hex : (n i d : ℕ) → n < 16 ^ i → d < 16 → n * 16 + d < 16 ^ (i + 1)
one_more_hex n i d h lt =
    let e : 16 ^ suc i ≡ 16 * 16 ^ i = pow-succ' 16 i in
    let s : i + 1 ≡ suc i = omega arith in
    rw (s, e) (omega (arith, h, lt))

-- eight hexadecimal digits fit 32 bits
pub few_hex_digits : (n i : ℕ) → n < 16 ^ i → i ≤ 8 → n < 4_294_967_296
few_hex_digits n i h le =
    let m : 16 ^ i ≤ 16 ^ 8 = pow-le-pow_right (lit≤ tt) le in
    omega (arith, h, m)

-- the number of one more digit
pub digit_more : (radix : ℕ) (ds : List ℕ) (i n d c : ℕ) → i < length ds → n ≡ digits_value radix (take i ds) → c ≡ get_or ds i c → d ≡ digit_value c → n * radix + d ≡ digits_value radix (take (i + 1) ds)
digit_more radix ds i n d c lt so_far at is =
    let e : digit_value c ≡ digit_value (get_or ds i 0) = ap digit_value (at ∙ get_or_default ds i c 0 lt) in
    rw (so_far, is, e) (sym (digits_value_more radix ds i lt))

-- a word that has a value has a first character
pub word_takes : (text : List ℕ) (w : ℤ) → word_value (take (word_len text) text) ≡ Some w → length (drop (word_len text) text) < length text
unfolding word_value
word_takes [] w e = absurd cc
word_takes (c ∷ cs) w e = go (is_word c) refl
  where
    go : (b : Bool) → is_word c ≡ b → length (drop (word_len (c ∷ cs)) (c ∷ cs)) < length (c ∷ cs)
    go true is = rw is (omega (arith, length-drop (word_len cs) cs))
    go false is =
        let x : None ≡ Some w = sym (ap (λ (b : Bool). word_value (take (cond b (suc (word_len cs)) 0) (c ∷ cs))) is) ∙ e in
        absurd cc
