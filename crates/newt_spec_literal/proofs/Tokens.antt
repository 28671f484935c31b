-- Names, immediates, strings and digits as they are printed are tokens of the grammar.
use Rattle.std.proofs.Common.{◌≡◌, ◌≢◌, ℕ, suc, ◌+◌, ◌-◌, ◌*◌, ◌/◌, ◌%◌, ◌^◌, ◌<◌, ◌≤◌, Bool, true, false, ltb, leb, eqb, List, [], ◌∷◌, length, refl, sym, ◌∙◌, subst, arith, ℤ, pos, negsuc, All}
use Rattle.std.specs.Prelude.{flat_map, codes, decimal, neg_ℤ}
use Rattle.std.specs.Char.{is_ascii_digit, is_ascii_hexdigit, digit_value}
use Rattle.std.specs.Int.{w32}
use Rattle.std.specs.List.{list_all}
use Rattle.std.proofs.lemmas.Bool.{lt-ltb, le-ltb, le-leb, lt-leb, ltb-true, ltb-false, leb-true, ne_eqb, eqb-true, eqb-false, and_parts}
use Rattle.std.proofs.lemmas.Fmt.{decimal_is_IsNumeral, decimal_by_steps, length-decimal-le, decimal_nonempty}
use Rattle.std.proofs.lemmas.Int.{to_z_pos, to_z-of_z}
use Rattle.std.proofs.lemmas.List.Elements.{All-head, All-tail}
use Rattle.std.proofs.lemmas.List.Folds.{list_all-append}
use Rattle.newt_base.specs.Names.{is_printable, is_identifier}
use Rattle.newt_base.specs.Text.{hex_text, hex_digit, be32}
use Rattle.newt_graph.specs.Graph.{IsName, IsWord}
use Rattle.newt_spec_literal.specs.Grammar.{Pieces, Hex, HexByte, InName, InString, Name, Immediate, Label}
use Rattle.newt_spec_literal.specs.Words.{is_barred, is_number, number, hex_number, is_label, is_shown, is_quoted, units_of}
use Rattle.newt_spec_literal.specs.Printed.{escaped, name_text, hex16, character_text, word_text, unit_text}

-- ---- decimal digits

all_digits : (n : ℕ) → n < 2 ^ 64 → list_all is_ascii_digit (decimal n) ≡ true
all_digits n lt = decimal_by_steps (λ n ds. list_all is_ascii_digit ds ≡ true) (λ n lt. digit n lt) (λ n ds ge e. list_all-append is_ascii_digit ds ((48 + n % 10) ∷ []) ∙ rw e (digit (n % 10) (omega arith))) n lt
  where
    digit : (d : ℕ) → d < 10 → list_all is_ascii_digit ((48 + d) ∷ []) ≡ true
    digit d lt = rw (le-leb 48 (48 + d) (omega arith), le-leb (48 + d) 57 (omega (arith, lt))) refl

pub decimal_is_number : (n : ℕ) → n < 10000000000 → is_number (decimal n) ≡ true
decimal_is_number n lt =
    let big : n < 2 ^ 64 = omega (arith, lt) in
    rw (lt-ltb 0 (length (decimal n)) (decimal_nonempty n big), le-leb (length (decimal n)) 10 (length-decimal-le 10 n (omega arith) lt big), all_digits n big) refl

pub decimal_is_label : (n : ℕ) → n < 100000 → is_label (decimal n) ≡ true
decimal_is_label n lt =
    let big : n < 2 ^ 64 = omega (arith, lt) in
    rw (lt-ltb 0 (length (decimal n)) (decimal_nonempty n big), le-leb (length (decimal n)) 5 (length-decimal-le 5 n (omega arith) lt big), all_digits n big) refl

pub number_decimal : (n : ℕ) → n < 2 ^ 64 → number (decimal n) ≡ n
number_decimal n lt = (decimal_is_IsNumeral n lt).1

pub label_token : (n : ℕ) → n < 100000 → Label (decimal n) n
label_token n lt = subst (λ (m : ℕ). Label (decimal n) m) (number_decimal n (omega (arith, lt))) (Label.label (decimal_is_label n lt))

-- ---- hexadecimal digits

hex_digit_is : (d : ℕ) → d < 16 → (digit_value (hex_digit d) ≡ d) × (is_ascii_hexdigit (hex_digit d) ≡ true)
hex_digit_is d lt = go (ltb d 10) refl
  where
    go : (b : Bool) → ltb d 10 ≡ b → (digit_value (hex_digit d) ≡ d) × (is_ascii_hexdigit (hex_digit d) ≡ true)
    go true e =
        let small : d < 10 = ltb-true d 10 e in (
          rw (e, le-ltb (48 + d) 48 (omega arith), lt-ltb (48 + d) 58 (omega (arith, small))) (omega arith),
          rw (e, le-leb 48 (48 + d) (omega arith), le-leb (48 + d) 57 (omega (arith, small))) refl,
        )
    go false e =
        let large : 10 ≤ d = ltb-false d 10 e in (
          rw (e, le-ltb (55 + d) 48 (omega arith), le-ltb (55 + d) 58 (omega (arith, large)), le-ltb (55 + d) 65 (omega (arith, large)), lt-ltb (55 + d) 91 (omega (arith, lt))) (omega arith),
          rw (e, le-leb 48 (55 + d) (omega arith), lt-leb (55 + d) 57 (omega (arith, large)), le-leb 65 (55 + d) (omega (arith, large)), le-leb (55 + d) 70 (omega (arith, lt))) refl,
        )

byte_digits : (b : ℕ) → b < 256 → Hex 2 (hex_digit (b / 16) ∷ hex_digit (b % 16) ∷ []) b
byte_digits b lt =
    let high = hex_digit_is (b / 16) (omega (arith, lt)) in
    let low = hex_digit_is (b % 16) (omega arith) in
    let value : hex_number (hex_digit (b / 16) ∷ hex_digit (b % 16) ∷ []) ≡ b = rw (high.0, low.0) (omega arith) in
    subst (λ (n : ℕ). Hex 2 (hex_digit (b / 16) ∷ hex_digit (b % 16) ∷ []) n) value (Hex.hex refl (rw (high.1, low.1) refl))

pub bytes_token : (bytes : List ℕ) → All (λ b. b < 256) bytes → Pieces HexByte (hex_text bytes) bytes
bytes_token [] all = Pieces.none
bytes_token (b ∷ bytes) all = Pieces.more (HexByte.byte (byte_digits b (All-head (λ b. b < 256) b bytes all))) (bytes_token bytes (All-tail (λ b. b < 256) b bytes all))

pub hex16_token : (n : ℕ) → n < 65536 → Hex 4 (hex16 n) n
hex16_token n lt =
    let a = hex_digit_is (n / 256 % 256 / 16) (omega arith) in
    let b = hex_digit_is (n / 256 % 256 % 16) (omega arith) in
    let c = hex_digit_is (n % 256 / 16) (omega arith) in
    let d = hex_digit_is (n % 256 % 16) (omega arith) in
    let value : hex_number (hex16 n) ≡ n = rw (a.0, b.0, c.0, d.0) (omega (arith, lt)) in
    subst (λ (m : ℕ). Hex 4 (hex16 n) m) value (Hex.hex refl (rw (a.1, b.1, c.1, d.1) refl))

pub hex32_token : (n : ℕ) → n < 4294967296 → Hex 8 (hex_text (be32 n)) n
hex32_token n lt =
    let a = hex_digit_is (n / 65536 / 256 % 256 / 16) (omega arith) in
    let b = hex_digit_is (n / 65536 / 256 % 256 % 16) (omega arith) in
    let c = hex_digit_is (n / 65536 % 256 / 16) (omega arith) in
    let d = hex_digit_is (n / 65536 % 256 % 16) (omega arith) in
    let e = hex_digit_is (n / 256 % 256 / 16) (omega arith) in
    let f = hex_digit_is (n / 256 % 256 % 16) (omega arith) in
    let g = hex_digit_is (n % 256 / 16) (omega arith) in
    let h = hex_digit_is (n % 256 % 16) (omega arith) in
    let value : hex_number (hex_text (be32 n)) ≡ n = rw (a.0, b.0, c.0, d.0, e.0, f.0, g.0, h.0) (omega (arith, lt)) in
    subst (λ (m : ℕ). Hex 8 (hex_text (be32 n)) m) value (Hex.hex refl (rw (a.1, b.1, c.1, d.1, e.1, f.1, g.1, h.1) refl))

-- ---- names

-- a character between bars
name_piece : (c : ℕ) → 32 ≤ c → c < 127 → InName (escaped (codes "|\\") c) (c ∷ [])
name_piece c low high = go (eqb 124 c) refl (eqb 92 c) refl
  where
    go : (bar : Bool) → eqb 124 c ≡ bar → (backslash : Bool) → eqb 92 c ≡ backslash → InName (escaped (codes "|\\") c) (c ∷ [])
    go true e backslash f = let same : 124 ≡ c = eqb-true 124 c e in subst (λ (x : ℕ). InName (escaped (codes "|\\") x) (x ∷ [])) same InName.bar
    go false e true f = let same : 92 ≡ c = eqb-true 92 c f in subst (λ (x : ℕ). InName (escaped (codes "|\\") x) (x ∷ [])) same InName.backslash
    go false e false f =
        let plain : is_barred c ≡ true = rw (le-leb 32 c low, le-leb c 126 (omega (arith, high)), ne_eqb c 124 (λ same. eqb-false 124 c e (sym same)), ne_eqb c 92 (λ same. eqb-false 92 c f (sym same))) refl in
        rw (e, f) (InName.plain plain)

between_bars : (name : List ℕ) → All (λ b. (32 ≤ b) × (b < 127)) name → Pieces InName (flat_map (escaped (codes "|\\")) name) name
between_bars [] all = Pieces.none
between_bars (c ∷ name) all =
    let head = All-head (λ b. (32 ≤ b) × (b < 127)) c name all in
    Pieces.more (name_piece c head.0 head.1) (between_bars name (All-tail (λ b. (32 ≤ b) × (b < 127)) c name all))

pub name_token : (name : List ℕ) → IsName name → Name (name_text name) name
name_token name is = go (is_identifier name) refl
  where
    go : (b : Bool) → is_identifier name ≡ b → Name (name_text name) name
    go true e = rw e (Name.identifier e)
    go false e = rw e (Name.barred (between_bars name is.each) is.some is.few)

-- ---- strings

plain_piece : (u : ℕ) → u < 65536 → 32 ≤ u → InString (escaped (codes "\"\\") u) (u ∷ [])
plain_piece u lt low = go (eqb 34 u) refl (eqb 92 u) refl
  where
    go : (quote : Bool) → eqb 34 u ≡ quote → (backslash : Bool) → eqb 92 u ≡ backslash → InString (escaped (codes "\"\\") u) (u ∷ [])
    go true e backslash f = let same : 34 ≡ u = eqb-true 34 u e in subst (λ (x : ℕ). InString (escaped (codes "\"\\") x) (x ∷ [])) same InString.quote
    go false e true f = let same : 92 ≡ u = eqb-true 92 u f in subst (λ (x : ℕ). InString (escaped (codes "\"\\") x) (x ∷ [])) same InString.backslash
    go false e false f =
        let plain : is_quoted u ≡ true = rw (le-leb 32 u low, le-leb u 1114111 (omega (arith, lt)), ne_eqb u 34 (λ same. eqb-false 34 u e (sym same)), ne_eqb u 92 (λ same. eqb-false 92 u f (sym same))) refl in
        let one : units_of u ≡ u ∷ [] = rw (lt-ltb u 65536 lt) refl in
        rw (e, f) (subst (λ (units : List ℕ). InString (u ∷ []) units) one (InString.plain plain))

string_piece : (u : ℕ) → u < 65536 → InString (unit_text u) (u ∷ [])
string_piece u lt = go (is_printable u) refl
  where
    go : (b : Bool) → is_printable u ≡ b → InString (unit_text u) (u ∷ [])
    go true e = rw e (plain_piece u lt (leb-true 32 u (and_parts (leb 32 u) (leb u 126) e).0))
    go false e = rw e (InString.unit (hex16_token u lt))

pub units_pieces : (units : List ℕ) → All (λ u. u < 65536) units → Pieces InString (flat_map unit_text units) units
units_pieces [] all = Pieces.none
units_pieces (u ∷ units) all = Pieces.more (string_piece u (All-head (λ u. u < 65536) u units all)) (units_pieces units (All-tail (λ u. u < 65536) u units all))

-- ---- immediates

-- the text of a character's word
character_token : (c : ℕ) → c < 65536 → Immediate (character_text c) (pos (16 * c + 6))
character_token c lt = go (is_shown c) refl
  where
    go : (b : Bool) → is_shown c ≡ b → Immediate (character_text c) (pos (16 * c + 6))
    go true e = rw e (Immediate.character e)
    go false e = rw e (Immediate.coded (hex16_token c lt))

-- a word that is no integer, nil or true
other_token : (n : ℕ) → n < 2147483648 → n % 4 ≢ 1 → eqb (n % 4) 0 ≡ false → eqb n 2 ≡ false → eqb n 26 ≡ false → Immediate (word_text (pos n)) (pos n)
other_token n lt low a b c = go (eqb (n % 16) 6) refl (ltb n 1048576) refl
  where
    written : Immediate (38 ∷ hex_text (be32 n)) (pos n)
    written = subst (λ (w : ℤ). Immediate (38 ∷ hex_text (be32 n)) w) (to_z_pos w32 n lt) (Immediate.word (hex32_token n (omega (arith, lt))) low)

    go : (six : Bool) → eqb (n % 16) 6 ≡ six → (small : Bool) → ltb n 1048576 ≡ small → Immediate (word_text (pos n)) (pos n)
    go true e true f =
        let six : n % 16 ≡ 6 = eqb-true (n % 16) 6 e in
        let same : 16 * (n / 16) + 6 ≡ n = omega (arith, six) in
        rw (a, b, c, e, f) (subst (λ (m : ℕ). Immediate (character_text (n / 16)) (pos m)) same (character_token (n / 16) (omega (arith, ltb-true n 1048576 f))))
    go true e false f = rw (a, b, c, e, f) written
    go false e small f = rw (a, b, c, e) written

natural_token : (n : ℕ) → n < 2147483648 → n % 4 ≢ 1 → Immediate (word_text (pos n)) (pos n)
natural_token n lt low = go (eqb (n % 4) 0) refl (eqb n 2) refl (eqb n 26) refl
  where
    go : (integer : Bool) → eqb (n % 4) 0 ≡ integer → (nil : Bool) → eqb n 2 ≡ nil → (truth : Bool) → eqb n 26 ≡ truth → Immediate (word_text (pos n)) (pos n)
    go true a nil b truth c =
        let value : number (decimal (n / 4)) ≡ n / 4 = number_decimal (n / 4) (omega (arith, lt)) in
        let whole : n % 4 ≡ 0 = eqb-true (n % 4) 0 a in
        let same : 4 * number (decimal (n / 4)) ≡ n = omega (arith, value, whole) in
        rw a (subst (λ (m : ℕ). Immediate (decimal (n / 4)) (pos m)) same (Immediate.integer (decimal_is_number (n / 4) (omega (arith, lt))) (omega (arith, value, lt))))
    go false a true b truth c = let same : 2 ≡ n = sym (eqb-true n 2 b) in subst (λ (m : ℕ). Immediate (word_text (pos m)) (pos m)) same Immediate.nil
    go false a false b true c = let same : 26 ≡ n = sym (eqb-true n 26 c) in subst (λ (m : ℕ). Immediate (word_text (pos m)) (pos m)) same Immediate.truth
    go false a false b false c = other_token n lt low a b c

negative_token : (n : ℕ) → IsWord (negsuc n) → n < 2147483648 → Immediate (word_text (negsuc n)) (negsuc n)
negative_token n is lt = go (eqb ((4294967296 - suc n) % 4) 0) refl (eqb ((4294967296 - suc n) % 16) 6) refl
  where
    large : 2147483648 ≤ 4294967296 - suc n
    large = omega (arith, lt)

    written : Immediate (38 ∷ hex_text (be32 (4294967296 - suc n))) (negsuc n)
    written = subst (λ (w : ℤ). Immediate (38 ∷ hex_text (be32 (4294967296 - suc n))) w) (to_z-of_z w32 (negsuc n) is.fits) (Immediate.word (hex32_token (4294967296 - suc n) (omega arith)) is.low)

    no_nil : eqb (4294967296 - suc n) 2 ≡ false
    no_nil = ne_eqb (4294967296 - suc n) 2 (λ same. omega (arith, same, large))

    no_truth : eqb (4294967296 - suc n) 26 ≡ false
    no_truth = ne_eqb (4294967296 - suc n) 26 (λ same. omega (arith, same, large))

    no_character : ltb (4294967296 - suc n) 1048576 ≡ false
    no_character = le-ltb (4294967296 - suc n) 1048576 (omega (arith, large))

    go : (integer : Bool) → eqb ((4294967296 - suc n) % 4) 0 ≡ integer → (six : Bool) → eqb ((4294967296 - suc n) % 16) 6 ≡ six → Immediate (word_text (negsuc n)) (negsuc n)
    go true a six d =
        let value : number (decimal (suc (n / 4))) ≡ suc (n / 4) = number_decimal (suc (n / 4)) (omega (arith, lt)) in
        let whole : (4294967296 - suc n) % 4 ≡ 0 = eqb-true ((4294967296 - suc n) % 4) 0 a in
        let same : 4 * number (decimal (suc (n / 4))) ≡ suc n = omega (arith, value, whole, lt) in
        rw a (subst (λ (m : ℕ). Immediate (45 ∷ decimal (suc (n / 4))) (neg_ℤ (pos m))) same (Immediate.negative (decimal_is_number (suc (n / 4)) (omega (arith, lt))) (omega (arith, value, lt))))
    go false a true d = rw (a, no_nil, no_truth, d, no_character) written
    go false a false d = rw (a, no_nil, no_truth, d) written

pub word_token : (w : ℤ) → IsWord w → Immediate (word_text w) w
word_token (pos n) is = natural_token n is.fits.sfits is.low
word_token (negsuc n) is = negative_token n is is.fits.sfits
