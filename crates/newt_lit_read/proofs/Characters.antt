-- What names, strings and bytes are made of.
use Rattle.std.proofs.Common.{◌≡◌, ℕ, ◌+◌, ◌-◌, ◌/◌, ◌%◌, ◌^◌, ◌<◌, ◌≤◌, Bool, true, false, cond, ltb, leb, List, [], ◌∷◌, length, All, refl, subst, arith, inl, inr, ◌⊎◌, lit≤, lit<}
use Rattle.std.specs.Prelude.{◌&&◌, ◌||◌, ◌==◌, not, replicate}
use Rattle.std.specs.List.{list_all}
use Rattle.std.specs.Char.{is_ascii_hexdigit, digit_value}
use Rattle.std.specs.Str.Parse.{AllDigits}
use Rattle.std.proofs.lemmas.Bool.{leb-true, ltb-true, lt-ltb, le-ltb, eqb-true, and_parts}
use Rattle.std.proofs.lemmas.List.Elements.{All-nil, All-cons, All-append, All-replicate}
use Rattle.std.proofs.lemmas.Int.Digits.{digits_value-lt}
use Rattle.newt_base.specs.Names.{is_word, begins_name}
use Rattle.newt_graph.specs.Graph.{IsName}
use Rattle.newt_spec_literal.specs.Words.{hex_number, units_of, number}
use Rattle.newt_spec_literal.specs.Grammar.{Pieces, Hex, HexByte, InName, InString, Name, LargeBytes, Tag}

pub one_of : (a b : Bool) → (a || b) ≡ true → (a ≡ true) ⊎ (b ≡ true)
one_of true b e = inl refl
one_of false b e = inr e

-- ---- hexadecimal numbers

range : (low high c : ℕ) → (leb low c && leb c high) ≡ true → (low ≤ c) × (c ≤ high)
range low high c e = let p = and_parts (leb low c) (leb c high) e in (leb-true low c p.0, leb-true c high p.1)

hex_digit : (c : ℕ) → is_ascii_hexdigit c ≡ true → digit_value c < 16
hex_digit c is =
    elim (one_of ((leb 48 c && leb c 57) || (leb 65 c && leb c 70)) (leb 97 c && leb c 102) is) [
      | inl e ↦ elim (one_of (leb 48 c && leb c 57) (leb 65 c && leb c 70) e) [
        | inl h ↦ let r = range 48 57 c h in decimal_digit c r.0 r.1
        | inr h ↦ let r = range 65 70 c h in upper_digit c r.0 r.1
      ]
      | inr h ↦ let r = range 97 102 c h in lower_digit c r.0 r.1
    ]
  where
    decimal_digit : (c : ℕ) → 48 ≤ c → c ≤ 57 → digit_value c < 16
    decimal_digit c low high = rw (le-ltb c 48 low, lt-ltb c 58 (omega (arith, high))) (omega (arith, low, high))

    upper_digit : (c : ℕ) → 65 ≤ c → c ≤ 70 → digit_value c < 16
    upper_digit c low high = rw (le-ltb c 48 (omega (arith, low)), le-ltb c 58 (omega (arith, low)), le-ltb c 65 low, lt-ltb c 91 (omega (arith, high))) (omega (arith, low, high))

    lower_digit : (c : ℕ) → 97 ≤ c → c ≤ 102 → digit_value c < 16
    lower_digit c low high = rw (le-ltb c 48 (omega (arith, low)), le-ltb c 58 (omega (arith, low)), le-ltb c 65 (omega (arith, low)), le-ltb c 91 (omega (arith, low)), le-ltb c 97 low, lt-ltb c 123 (omega (arith, high))) (omega (arith, low, high))

all_hex : (digits : List ℕ) → list_all is_ascii_hexdigit digits ≡ true → AllDigits 16 digits
all_hex [] is = tt
all_hex (c ∷ cs) is = let p = and_parts (is_ascii_hexdigit c) (list_all is_ascii_hexdigit cs) is in (hex_digit c p.0, all_hex cs p.1)

pub hex_below : (count : ℕ) (text : List ℕ) (n : ℕ) → Hex count text n → n < 16 ^ count
hex_below count text _ (Hex.hex long is) = subst (λ (k : ℕ). hex_number text < 16 ^ k) long (digits_value-lt 16 text (all_hex text is))

pub small_units : (text : List ℕ) (n : ℕ) → Hex 4 text n → units_of n ≡ n ∷ []
small_units text n is =
    let h : n < 65536 = hex_below 4 text n is in
    rw (lt-ltb n 65536 h) refl

-- ---- bytes and units

abbrev pub AreBelow : ℕ → List ℕ → Type 0
AreBelow n xs = All (λ x. x < n) xs

-- each of the pieces has small values
pieces_below : (n : ℕ) (piece : List ℕ → List ℕ → Type 0) → ((text values : List ℕ) → piece text values → AreBelow n values) → {text values : List ℕ} → Pieces piece text values → AreBelow n values
pieces_below n piece each Pieces.none = All-nil (λ x. x < n)
pieces_below n piece each (Pieces.more {text = text} {value = value} {values = values} one others) = All-append (λ x. x < n) value values (each text value one) (pieces_below n piece each others)

one_below : (n x : ℕ) → x < n → AreBelow n (x ∷ [])
one_below n x lt = All-cons (λ x. x < n) x [] lt (All-nil (λ x. x < n))

pub bytes_fit : (text bytes : List ℕ) → Pieces HexByte text bytes → AreBelow 256 bytes
bytes_fit text bytes is = pieces_below 256 HexByte each is
  where
    each : (text values : List ℕ) → HexByte text values → AreBelow 256 values
    each text _ (HexByte.byte {n = n} is) = one_below 256 n (hex_below 2 text n is)

zeros_fit : (count : ℕ) → AreBelow 256 (replicate count 0)
zeros_fit count = All-replicate (λ x. x < 256) count 0 (lit< tt)

pub large_bytes_fit : (text bytes : List ℕ) → LargeBytes text bytes → AreBelow 256 bytes
large_bytes_fit text bytes (LargeBytes.each is) = bytes_fit text bytes is
large_bytes_fit _ _ (LargeBytes.zeros {digits = digits} is le) = zeros_fit (number digits)

units_fit_of : (c : ℕ) → c ≤ 1_114_111 → AreBelow 65536 (units_of c)
units_fit_of c le = by (ltb c 65536) refl
  where
    by : (t : Bool) → ltb c 65536 ≡ t → AreBelow 65536 (cond t (c ∷ []) ((55296 + (c - 65536) / 1024) ∷ (56320 + (c - 65536) % 1024) ∷ []))
    by true is = one_below 65536 c (ltb-true c 65536 is)
    by false is = All-cons (λ x. x < 65536) (55296 + (c - 65536) / 1024) ((56320 + (c - 65536) % 1024) ∷ []) (omega (arith, le)) (one_below 65536 (56320 + (c - 65536) % 1024) (omega arith))

pub units_fit : (text units : List ℕ) → Pieces InString text units → AreBelow 65536 units
units_fit text units is = pieces_below 65536 InString each is
  where
    each : (text values : List ℕ) → InString text values → AreBelow 65536 values
    each _ _ (InString.plain {c = c} is) = units_fit_of c (leb-true c 1_114_111 (and_parts (leb 32 c) (leb c 1_114_111) (and_parts (leb 32 c && leb c 1_114_111) (not (c == 34)) (and_parts ((leb 32 c && leb c 1_114_111) && not (c == 34)) (not (c == 92)) is).0).0).1)
    each _ _ InString.quote = one_below 65536 34 (lit< tt)
    each _ _ InString.backslash = one_below 65536 92 (lit< tt)
    each _ _ (InString.unit {digits = digits} {n = n} is) = one_below 65536 n (hex_below 4 digits n is)

-- ---- names

abbrev IsNameByte : ℕ → Type 0
IsNameByte b = (32 ≤ b) × (b < 127)

one_name_byte : (b : ℕ) → 32 ≤ b → b < 127 → All IsNameByte (b ∷ [])
one_name_byte b low high = All-cons IsNameByte b [] (low, high) (All-nil IsNameByte)

between_bars : {text values : List ℕ} → Pieces InName text values → All IsNameByte values
between_bars Pieces.none = All-nil IsNameByte
between_bars (Pieces.more {text = text} {value = value} {values = values} one others) = All-append IsNameByte value values (each text value one) (between_bars others)
  where
    each : (text values : List ℕ) → InName text values → All IsNameByte values
    each _ _ (InName.plain {c = c} is) =
        let p = and_parts ((leb 32 c && leb c 126) && not (c == 124)) (not (c == 92)) is in
        let q = and_parts (leb 32 c && leb c 126) (not (c == 124)) p.0 in
        let r = range 32 126 c q.0 in
        one_name_byte c r.0 (omega (arith, r.1))
    each _ _ InName.bar = one_name_byte 124 (lit≤ tt) (lit< tt)
    each _ _ InName.backslash = one_name_byte 92 (lit≤ tt) (lit< tt)

word_byte : (c : ℕ) → is_word c ≡ true → IsNameByte c
word_byte c is =
    elim (one_of (((leb 48 c && leb c 57) || (leb 65 c && leb c 90)) || (leb 97 c && leb c 122)) (c == 95) is) [
      | inr h ↦ let e = eqb-true c 95 h in (omega (arith, e), omega (arith, e))
      | inl e ↦ elim (one_of ((leb 48 c && leb c 57) || (leb 65 c && leb c 90)) (leb 97 c && leb c 122) e) [
        | inr h ↦ let r = range 97 122 c h in (omega (arith, r.0), omega (arith, r.1))
        | inl e ↦ elim (one_of (leb 48 c && leb c 57) (leb 65 c && leb c 90) e) [
          | inl h ↦ let r = range 48 57 c h in (omega (arith, r.0), omega (arith, r.1))
          | inr h ↦ let r = range 65 90 c h in (omega (arith, r.0), omega (arith, r.1))
        ]
      ]
    ]

words_bytes : (word : List ℕ) → list_all is_word word ≡ true → All IsNameByte word
words_bytes [] is = All-nil IsNameByte
words_bytes (c ∷ cs) is = let p = and_parts (is_word c) (list_all is_word cs) is in All-cons IsNameByte c cs (word_byte c p.0) (words_bytes cs p.1)

begun_some : (word : List ℕ) → begins_name word ≡ true → 0 < length word
begun_some [] e = absurd cc
begun_some (c ∷ cs) e = omega arith

-- a name is a name of a symbol
pub name_is : {text name : List ℕ} → Name text name → IsName name
name_is (Name.identifier {name = name} is) =
    let p = and_parts (begins_name name && list_all is_word name) (leb (length name) 254) is in
    let q = and_parts (begins_name name) (list_all is_word name) p.0 in
    let most = leb-true (length name) 254 p.1 in
    record { some = begun_some name q.0; few = omega (arith, most); each = words_bytes name q.1 }
name_is (Name.barred {name = name} is some few) = record { some = some; few = few; each = between_bars is }

pub tag_is : {text name : List ℕ} → Tag text name → IsName name
tag_is (Tag.blank is tag) = tag_is tag
tag_is (Tag.name name mark) = name_is name
