-- A token that is written so is read.
use Rattle.std.proofs.Common.{◌≡◌, ◌≢◌, ℕ, zero, suc, ◌+◌, ◌*◌, ◌<◌, ◌≤◌, Bool, true, false, cond, ltb, leb, eqb, List, [], ◌∷◌, ◌++◌, length, Some, None, refl, sym, ap, subst, ◌∙◌, append_assoc, arith, inl, inr, ◌⊎◌, codes}
use Rattle.std.specs.Prelude.{ℤ, pos, neg_ℤ, ◌&&◌, ◌||◌, not, ◌==◌, ◌%◌, replicate}
use Rattle.std.specs.Int.{w32, cast_signed}
use Rattle.std.specs.List.{list_all}
use Rattle.std.specs.Char.{is_ascii_digit, is_ascii_hexdigit}
use Rattle.std.proofs.lemmas.Bool.{leb-true, le-leb, lt-ltb, le-ltb, eqb-true, ne_eqb, and_parts, not-true}
use Rattle.std.proofs.lemmas.List.{take_at, drop_at, length-append}
use Rattle.newt_base.specs.Names.{is_word, begins_name, is_identifier}
use Rattle.newt_graph.specs.Steps.{◌>>=◌}
use Rattle.newt_lit_read.specs.declared.tokens.Start.TheVariants as start
use Rattle.newt_spec_literal.specs.Words.{is_blank, skip, word_len, is_number, number, is_shown, are_digits, is_label, is_count, units_of}
use Rattle.newt_spec_literal.specs.Grammar.{Mark, Pieces, Hex, HexByte, InName, InString, Name, Label, Tag, LargeBytes}
use Rattle.newt_lit_read.specs.Tokens.{first_of, after_mark, mark_at, word_at, word_value, negative_at, label_at, hex_at, code_word_at, character_at, Next, pieces_at, single, piece, next_in_name, next_in_string, next_byte, identifier_at, barred_at, name_at, tag_at, bytes_at, zeros_at, large_bytes_at}
use Rattle.newt_lit_read.specs.Reading.{start_of}
use Rattle.newt_lit_read.proofs.Characters.{one_of, small_units}

-- no letter, digit or '_' in front
abbrev pub Ends : List ℕ → Type 0
Ends [] = Unit {0}
Ends (c ∷ _) = is_word c ≡ false

-- ---- marks

pub mark_again : (m : ℕ) (text : List ℕ) → is_blank m ≡ false → Mark m text → (rest : List ℕ) → mark_at (text ++ rest) ≡ Some (m, rest)
mark_again m _ solid Mark.here rest = rw solid refl
mark_again m _ solid (Mark.blank {c = c} {text = text} is mark) rest = rw is (mark_again m text solid mark rest)

-- a fact of each blank
blanks : (P : ℕ → Type 0) → P 32 → P 9 → P 10 → P 13 → (c : ℕ) → is_blank c ≡ true → P c
blanks P space tab newline return c e =
    elim (one_of (((c == 32) || (c == 9)) || (c == 10)) (c == 13) e) [
      | inr h ↦ subst P (sym (eqb-true c 13 h)) return
      | inl e ↦ elim (one_of ((c == 32) || (c == 9)) (c == 10) e) [
        | inr h ↦ subst P (sym (eqb-true c 10 h)) newline
        | inl e ↦ elim (one_of (c == 32) (c == 9) e) [
          | inr h ↦ subst P (sym (eqb-true c 9 h)) tab
          | inl h ↦ subst P (sym (eqb-true c 32 h)) space
        ]
      ]
    ]

pub blank_ends : (c : ℕ) → is_blank c ≡ true → is_word c ≡ false
blank_ends c e = blanks (λ c. is_word c ≡ false) refl refl refl refl c e

pub mark_ends : (m : ℕ) (text : List ℕ) → is_word m ≡ false → Mark m text → (rest : List ℕ) → Ends (text ++ rest)
mark_ends m _ other Mark.here rest = other
mark_ends m _ other (Mark.blank {c = c} is mark) rest = blank_ends c is

pub mark_some : (m : ℕ) (text : List ℕ) → Mark m text → 0 < length text
mark_some m _ Mark.here = omega arith
mark_some m _ (Mark.blank is mark) = omega arith

-- ---- words

no_word : (rest : List ℕ) → Ends rest → word_len rest ≡ 0
no_word [] e = refl
no_word (c ∷ cs) e = rw e refl

word_ends : (word rest : List ℕ) → list_all is_word word ≡ true → Ends rest → word_len (word ++ rest) ≡ length word
word_ends [] rest h e = no_word rest e
word_ends (c ∷ cs) rest h e =
    let p = and_parts (is_word c) (list_all is_word cs) h in
    rw p.0 (ap (λ (n : ℕ). suc n) (word_ends cs rest p.1 e))

pub word_again : (word rest : List ℕ) → list_all is_word word ≡ true → Ends rest → word_at (word ++ rest) ≡ (word, rest)
word_again word rest h e =
    let len = word_ends word rest h e in
    rw (len, take_at word rest (length word) refl, drop_at word rest (length word) refl) refl

-- ---- digits

digit_from : (c : ℕ) → is_ascii_digit c ≡ true → (48 ≤ c) × (c ≤ 57)
digit_from c e = let p = and_parts (leb 48 c) (leb c 57) e in (leb-true 48 c p.0, leb-true c 57 p.1)

digits_letters : (word : List ℕ) → list_all is_ascii_digit word ≡ true → list_all is_word word ≡ true
digits_letters [] h = refl
digits_letters (c ∷ cs) h =
    let p = and_parts (is_ascii_digit c) (list_all is_ascii_digit cs) h in
    rw (p.0, digits_letters cs p.1) refl

other : (c k : ℕ) → 48 ≤ c → c ≤ 57 → (k < 48) ⊎ (57 < k) → eqb c k ≡ false
other c k low high out = ne_eqb c k (λ e. elim out [ inl lt ↦ omega (arith, e, low, lt) | inr lt ↦ omega (arith, e, high, lt) ])

-- a word that is nothing else than a word
pub record IsPlain (word : List ℕ) : Type 0 where
  pub c : ℕ
  pub cs : List ℕ
  pub parts : word ≡ c ∷ cs
  pub solid : is_blank c ≡ false
  pub plain : start_of c ≡ start.Plain
  pub bracket : eqb c 93 ≡ false
  pub bar : eqb c 124 ≡ false
  pub letters : list_all is_word word ≡ true

pub digits_plain : (most : ℕ) (word : List ℕ) → are_digits most word ≡ true → IsPlain word
unfolding start_of
digits_plain most [] h = absurd cc
digits_plain most (c ∷ cs) h =
    let q = and_parts (ltb 0 (length (c ∷ cs)) && leb (length (c ∷ cs)) most) (list_all is_ascii_digit (c ∷ cs)) h in
    let d = digit_from c (and_parts (is_ascii_digit c) (list_all is_ascii_digit cs) q.1).0 in
    let is_not : (k : ℕ) → (k < 48) ⊎ (57 < k) → eqb c k ≡ false = λ k out. other c k d.0 d.1 out in
    record {
      c = c;
      cs = cs;
      parts = refl;
      solid = rw (is_not 32 (inl (omega arith)), is_not 9 (inl (omega arith)), is_not 10 (inl (omega arith)), is_not 13 (inl (omega arith))) refl;
      plain = rw (is_not 36 (inl (omega arith)), is_not 38 (inl (omega arith)), is_not 45 (inl (omega arith)), is_not 39 (inl (omega arith)), is_not 34 (inl (omega arith)), is_not 60 (inr (omega arith)), is_not 91 (inr (omega arith)), is_not 123 (inr (omega arith)), is_not 35 (inl (omega arith))) refl;
      bracket = is_not 93 (inr (omega arith));
      bar = is_not 124 (inr (omega arith));
      letters = digits_letters (c ∷ cs) q.1;
    }

pub digits_word : (most : ℕ) (word : List ℕ) → are_digits most word ≡ true → list_all is_word word ≡ true
digits_word most word h = digits_letters word (and_parts (ltb 0 (length word) && leb (length word) most) (list_all is_ascii_digit word) h).1

integer_value : (digits : List ℕ) → is_number digits ≡ true → number digits ≤ 536_870_911 → word_value digits ≡ Some (pos (4 * number digits))
unfolding word_value
integer_value [] h le = absurd cc
integer_value (c ∷ cs) h le =
    let q = and_parts (ltb 0 (length (c ∷ cs)) && leb (length (c ∷ cs)) 10) (list_all is_ascii_digit (c ∷ cs)) h in
    let d = digit_from c (and_parts (is_ascii_digit c) (list_all is_ascii_digit cs) q.1).0 in
    rw (other c 110 d.0 d.1 (inr (omega arith)), other c 116 d.0 d.1 (inr (omega arith)), h, le-leb _ _ le) refl

-- ---- hexadecimal digits

pub hex_again : (count : ℕ) (text : List ℕ) (n : ℕ) → Hex count text n → (rest : List ℕ) → hex_at count (text ++ rest) ≡ Some (n, rest)
unfolding hex_at
hex_again count text _ (Hex.hex long is) rest =
    let enough : count ≤ length (text ++ rest) = omega (arith, long, length-append text rest) in
    rw (le-ltb (length (text ++ rest)) count enough, take_at text rest count long, drop_at text rest count long, is) refl

pub hex_some : (count : ℕ) (text : List ℕ) (n : ℕ) → Hex count text n → length text ≡ count
hex_some count text _ (Hex.hex long is) = long

hex_solid : (c : ℕ) → is_ascii_hexdigit c ≡ true → eqb c 62 ≡ false
hex_solid c is = ne_eqb c 62 (λ e. let wrong : true ≡ false = sym is ∙ ap is_ascii_hexdigit e in absurd cc)

hex_no_star : (c : ℕ) → is_ascii_hexdigit c ≡ true → eqb c 42 ≡ false
hex_no_star c is = ne_eqb c 42 (λ e. let wrong : true ≡ false = sym is ∙ ap is_ascii_hexdigit e in absurd cc)

-- ---- pieces

record Again (piece : List ℕ → List ℕ → Type 0) (value : ℕ → List ℕ) (close : ℕ) (next : Next) : Type 0 where
  ends : (rest : List ℕ) → next (close ∷ rest) ≡ Some (None, rest)
  goes : (text values : List ℕ) → piece text values → (rest : List ℕ) → (code : ℕ) × (value code ≡ values) × (next (text ++ rest) ≡ Some (Some code, rest))
  some : (text values : List ℕ) → piece text values → 0 < length text

pieces_again : (piece : List ℕ → List ℕ → Type 0) (value : ℕ → List ℕ) (close : ℕ) (next : Next) → Again piece value close next → {text values : List ℕ} → Pieces piece text values
    → (rest : List ℕ) (turns : ℕ) → length text < turns → pieces_at value next turns (text ++ close ∷ rest) ≡ Some (values, rest)
unfolding pieces_at
pieces_again piece value close next again Pieces.none rest zero lt = absurd (omega (arith, lt))
pieces_again piece value close next again Pieces.none rest (suc turns) lt = rw (again.ends rest) refl
pieces_again piece value close next again (Pieces.more {text = text} {value = values} {texts = texts} one others) rest zero lt = absurd (omega (arith, lt))
pieces_again piece value close next again (Pieces.more {text = text} {value = values} {texts = texts} one others) rest (suc turns) lt =
    let g = again.goes text values one (texts ++ close ∷ rest) in
    let less : length texts < turns = omega (arith, lt, length-append text texts, again.some text values one) in
    rw (append_assoc text texts (close ∷ rest), g.2, pieces_again piece value close next again others rest turns less, g.1) refl

all_again : (piece : List ℕ → List ℕ → Type 0) (value : ℕ → List ℕ) (close : ℕ) (next : Next) → Again piece value close next → (text values : List ℕ) → Pieces piece text values
    → (rest : List ℕ) → pieces_at value next (length (text ++ close ∷ rest)) (text ++ close ∷ rest) ≡ Some (values, rest)
all_again piece value close next again text values is rest = pieces_again piece value close next again is rest (length (text ++ close ∷ rest)) (omega (arith, length-append text (close ∷ rest)))

name_pieces : Again InName single 124 next_in_name
unfolding next_in_name
name_pieces = record { ends = λ rest. refl; goes = goes; some = some }
  where
    goes : (text values : List ℕ) → InName text values → (rest : List ℕ) → (code : ℕ) × (single code ≡ values) × (next_in_name (text ++ rest) ≡ Some (Some code, rest))
    goes _ _ (InName.plain {c = c} is) rest =
        let p = and_parts ((leb 32 c && leb c 126) && not (c == 124)) (not (c == 92)) is in
        let q = and_parts (leb 32 c && leb c 126) (not (c == 124)) p.0 in
        (c, refl, rw (not-true (c == 124) q.1, not-true (c == 92) p.1, q.0) refl)
    goes _ _ InName.bar rest = (124, refl, refl)
    goes _ _ InName.backslash rest = (92, refl, refl)

    some : (text values : List ℕ) → InName text values → 0 < length text
    some _ _ (InName.plain is) = omega arith
    some _ _ InName.bar = omega arith
    some _ _ InName.backslash = omega arith

string_pieces : Again InString units_of 34 next_in_string
unfolding next_in_string
string_pieces = record { ends = λ rest. refl; goes = goes; some = some }
  where
    goes : (text values : List ℕ) → InString text values → (rest : List ℕ) → (code : ℕ) × (units_of code ≡ values) × (next_in_string (text ++ rest) ≡ Some (Some code, rest))
    goes _ _ (InString.plain {c = c} is) rest =
        let p = and_parts ((leb 32 c && leb c 1_114_111) && not (c == 34)) (not (c == 92)) is in
        let q = and_parts (leb 32 c && leb c 1_114_111) (not (c == 34)) p.0 in
        let r = and_parts (leb 32 c) (leb c 1_114_111) q.0 in
        (c, refl, rw (not-true (c == 34) q.1, not-true (c == 92) p.1, le-ltb c 32 (leb-true 32 c r.0), r.1) refl)
    goes _ _ InString.quote rest = (34, refl, refl)
    goes _ _ InString.backslash rest = (92, refl, refl)
    goes _ _ (InString.unit {digits = digits} {n = n} is) rest = (n, small_units digits n is, rw (hex_again 4 digits n is rest) refl)

    some : (text values : List ℕ) → InString text values → 0 < length text
    some _ _ (InString.plain is) = omega arith
    some _ _ InString.quote = omega arith
    some _ _ InString.backslash = omega arith
    some _ _ (InString.unit is) = omega arith

byte_pieces : Again HexByte single 62 next_byte
unfolding next_byte
byte_pieces = record { ends = λ rest. refl; goes = goes; some = some }
  where
    read : (text : List ℕ) (n : ℕ) → Hex 2 text n → (rest : List ℕ) → next_byte (text ++ rest) ≡ Some (Some n, rest)
    read [] _ (Hex.hex long is) rest = absurd (omega (arith, long))
    read (c ∷ cs) n h rest = rw (hex_solid c (first c cs n h), hex_again 2 (c ∷ cs) n h rest) refl
      where
        first : (c : ℕ) (cs : List ℕ) (n : ℕ) → Hex 2 (c ∷ cs) n → is_ascii_hexdigit c ≡ true
        first c cs _ (Hex.hex long is) = (and_parts (is_ascii_hexdigit c) (list_all is_ascii_hexdigit cs) is).0

    goes : (text values : List ℕ) → HexByte text values → (rest : List ℕ) → (code : ℕ) × (single code ≡ values) × (next_byte (text ++ rest) ≡ Some (Some code, rest))
    goes text _ (HexByte.byte {n = n} is) rest = (n, refl, read text n is rest)

    some : (text values : List ℕ) → HexByte text values → 0 < length text
    some text _ (HexByte.byte {n = n} is) = omega (arith, hex_some 2 text n is)

pub string_again : (text units : List ℕ) → Pieces InString text units → (rest : List ℕ) → pieces_at units_of next_in_string (length (text ++ 34 ∷ rest)) (text ++ 34 ∷ rest) ≡ Some (units, rest)
string_again text units is rest = all_again InString units_of 34 next_in_string string_pieces text units is rest

pub bytes_again : (text bytes : List ℕ) → Pieces HexByte text bytes → (rest : List ℕ) → bytes_at (text ++ 62 ∷ rest) ≡ Some (bytes, rest)
bytes_again text bytes is rest = all_again HexByte single 62 next_byte byte_pieces text bytes is rest

-- ---- names, tags and labels

word_solid : (c : ℕ) → is_word c ≡ true → is_blank c ≡ false
word_solid c letter = go (is_blank c) refl
  where
    go : (t : Bool) → is_blank c ≡ t → is_blank c ≡ false
    go false is = is
    go true is = let wrong : true ≡ false = sym letter ∙ blank_ends c is in absurd cc

pub word_other : (c k : ℕ) → is_word c ≡ true → is_word k ≡ false → eqb c k ≡ false
word_other c k letter mark = ne_eqb c k (λ e. let wrong : true ≡ false = sym letter ∙ ap is_word e ∙ mark in absurd cc)

-- the first character of a name is no blank, no brace and no angle bracket
pub record Begins (text : List ℕ) : Type 0 where
  pub c : ℕ
  pub cs : List ℕ
  pub parts : text ≡ c ∷ cs
  pub solid : is_blank c ≡ false
  pub brace : eqb c 125 ≡ false
  pub angle : eqb c 60 ≡ false

identifier_begins : (text : List ℕ) → is_identifier text ≡ true → (c : ℕ) × (cs : List ℕ) × (text ≡ c ∷ cs) × (is_word c ≡ true)
identifier_begins [] is = absurd cc
identifier_begins (c ∷ cs) is =
    let p = and_parts (begins_name (c ∷ cs) && list_all is_word (c ∷ cs)) (leb (length (c ∷ cs)) 254) is in
    let q = and_parts (begins_name (c ∷ cs)) (list_all is_word (c ∷ cs)) p.0 in
    (c, cs, refl, (and_parts (is_word c) (list_all is_word cs) q.1).0)

pub name_begins : (text name : List ℕ) → Name text name → Begins text
name_begins text _ (Name.identifier is) =
    let b = identifier_begins text is in
    record { c = b.0; cs = b.1; parts = b.2; solid = word_solid b.0 b.3; brace = word_other b.0 125 b.3 refl; angle = word_other b.0 60 b.3 refl }
name_begins _ name (Name.barred {text = text} is some few) = record { c = 124; cs = text ++ 124 ∷ []; parts = refl; solid = refl; brace = refl; angle = refl }

identifier_again : (text : List ℕ) → is_identifier text ≡ true → (rest : List ℕ) → Ends rest → name_at (text ++ rest) ≡ Some (text, rest)
unfolding name_at
identifier_again text is rest ends =
    let b = identifier_begins text is in
    let p = and_parts (begins_name text && list_all is_word text) (leb (length text) 254) is in
    let q = and_parts (begins_name text) (list_all is_word text) p.0 in
    let front : text ++ rest ≡ b.0 ∷ (b.1 ++ rest) = ap (λ (x : List ℕ). x ++ rest) b.2 in
    let read : identifier_at (text ++ rest) ≡ Some (text, rest) = ap (λ (p : List ℕ × List ℕ). cond (is_identifier p.0) (Some p) None) (word_again text rest q.1 ends) ∙ rw is refl in
    let one : name_at (b.0 ∷ (b.1 ++ rest)) ≡ identifier_at (b.0 ∷ (b.1 ++ rest)) = rw (word_other b.0 124 b.3 refl) refl in
    ap name_at front ∙ one ∙ sym (ap identifier_at front) ∙ read

pub name_again : (text name : List ℕ) → Name text name → (rest : List ℕ) → Ends rest → name_at (text ++ rest) ≡ Some (name, rest)
unfolding name_at barred_at
name_again text _ (Name.identifier is) rest ends = identifier_again text is rest ends
name_again _ name (Name.barred {text = text} is some few) rest ends =
    rw (append_assoc text (124 ∷ []) rest, all_again InName single 124 next_in_name name_pieces text name is rest, lt-ltb _ _ some, lt-ltb _ _ few) refl

skip_begun : (text rest : List ℕ) → Begins text → skip (text ++ rest) ≡ text ++ rest
skip_begun text rest is =
    let front : text ++ rest ≡ is.c ∷ (is.cs ++ rest) = ap (λ (x : List ℕ). x ++ rest) is.parts in
    rw front (rw (is.solid) refl)

pub tag_again : (text name : List ℕ) → Tag text name → (rest : List ℕ) → tag_at (text ++ rest) ≡ Some (name, rest)
unfolding tag_at
tag_again _ name (Tag.blank {c = c} {text = text} is tag) rest = rw is (tag_again text name tag rest)
tag_again _ name (Tag.name {text = text} {mark = mark} is colon) rest =
    rw (append_assoc text mark rest, skip_begun text (mark ++ rest) (name_begins text name is), name_again text name is (mark ++ rest) (mark_ends 58 mark refl colon rest), mark_again 58 mark refl colon rest) refl

pub label_again : (text : List ℕ) (n : ℕ) → Label text n → (m : ℕ) (rest : List ℕ) → is_word m ≡ false → label_at (text ++ m ∷ rest) ≡ Some (n, m, rest)
unfolding label_at
label_again text _ (Label.label is) m rest ends =
    ap (λ (p : List ℕ × List ℕ). cond (is_label p.0) (first_of p.1 >>= λ m. Some (number p.0, m.0, m.1)) None) (word_again text (m ∷ rest) (digits_word 5 text is) ends) ∙ rw is refl

-- ---- the bytes of a large binary

-- hexadecimal bytes begin with no '*'
bytes_begin : (text bytes : List ℕ) → Pieces HexByte text bytes → (rest : List ℕ) → (c : ℕ) × (cs : List ℕ) × (text ++ 62 ∷ rest ≡ c ∷ cs) × (eqb c 42 ≡ false)
bytes_begin _ _ Pieces.none rest = (62, rest, refl, refl)
bytes_begin _ _ (Pieces.more {text = text} {texts = texts} (HexByte.byte {n = n} is) others) rest = by text n is
  where
    by : (text : List ℕ) (n : ℕ) → Hex 2 text n → (c : ℕ) × (cs : List ℕ) × ((text ++ texts) ++ 62 ∷ rest ≡ c ∷ cs) × (eqb c 42 ≡ false)
    by [] _ (Hex.hex long is) = absurd (omega (arith, long))
    by (c ∷ cs) _ (Hex.hex long is) = (c, (cs ++ texts) ++ 62 ∷ rest, refl, hex_no_star c (and_parts (is_ascii_hexdigit c) (list_all is_ascii_hexdigit cs) is).0)

pub large_bytes_again : (text bytes : List ℕ) → LargeBytes text bytes → (rest : List ℕ) → large_bytes_at (text ++ 62 ∷ rest) ≡ Some (bytes, rest)
unfolding large_bytes_at zeros_at
large_bytes_again text bytes (LargeBytes.each is) rest = each text bytes is rest
  where
    each : (text bytes : List ℕ) → Pieces HexByte text bytes → (rest : List ℕ) → large_bytes_at (text ++ 62 ∷ rest) ≡ Some (bytes, rest)
    each text bytes is rest = by (text ++ 62 ∷ rest) (bytes_begin text bytes is rest) (bytes_again text bytes is rest)
      where
        by : (whole : List ℕ) → (c : ℕ) × (cs : List ℕ) × (whole ≡ c ∷ cs) × (eqb c 42 ≡ false) → bytes_at whole ≡ Some (bytes, rest) → large_bytes_at whole ≡ Some (bytes, rest)
        by [] b e = absurd cc
        by (c ∷ cs) b e = let same : c ≡ b.0 = cc in rw (ap (λ (x : ℕ). eqb x 42) same ∙ b.3) e
large_bytes_again _ _ (LargeBytes.zeros {digits = digits} is le) rest =
    ap (λ (p : List ℕ × List ℕ). cond (is_count p.0 && leb (number p.0) 1_000_000) (after_mark 62 (first_of p.1) >>= λ rest. Some (replicate (number p.0) 0, rest)) None) (word_again digits (62 ∷ rest) (digits_word 7 digits is) refl)
    ∙ rw (is, le-leb _ _ le) refl

-- ---- immediates

-- an immediate after its first character, or a word
pub negative_again : (digits : List ℕ) → is_number digits ≡ true → number digits ≤ 536_870_912 → (rest : List ℕ) → Ends rest → negative_at (digits ++ rest) ≡ Some (neg_ℤ (pos (4 * number digits)), rest)
unfolding negative_at
negative_again digits is le rest ends =
    ap (λ (p : List ℕ × List ℕ). cond (is_number p.0 && leb (number p.0) 536_870_912) (Some (neg_ℤ (pos (4 * number p.0)), p.1)) None) (word_again digits rest (digits_word 10 digits is) ends) ∙ rw (is, le-leb _ _ le) refl

pub shown_again : (c : ℕ) → is_shown c ≡ true → (rest : List ℕ) → character_at (c ∷ rest) ≡ Some (pos (16 * c + 6), rest)
unfolding character_at
shown_again c is rest =
    let p = and_parts (leb 33 c && leb c 126) (not (c == 92)) is in
    rw (not-true (c == 92) p.1, p.0) refl

pub coded_again : (digits : List ℕ) (n : ℕ) → Hex 4 digits n → (rest : List ℕ) → character_at (92 ∷ (digits ++ rest)) ≡ Some (pos (16 * n + 6), rest)
unfolding character_at
coded_again digits n is rest = rw (hex_again 4 digits n is rest) refl

pub code_word_again : (digits : List ℕ) (n : ℕ) → Hex 8 digits n → n % 4 ≢ 1 → (rest : List ℕ) → code_word_at (digits ++ rest) ≡ Some (cast_signed w32 n, rest)
unfolding code_word_at
code_word_again digits n is low rest = rw (hex_again 8 digits n is rest, ne_eqb (n % 4) 1 low) refl

-- the words that are immediates
pub record IsWordOf (word : List ℕ) (w : ℤ) : Type 0 where
  pub plain : IsPlain word
  pub value : word_value word ≡ Some w

pub nil_word : IsWordOf (codes "nil") (pos 2)
unfolding start_of word_value
nil_word = record { plain = record { c = 110; cs = 105 ∷ 108 ∷ []; parts = refl; solid = refl; plain = refl; bracket = refl; bar = refl; letters = refl }; value = refl }

pub truth_word : IsWordOf (codes "true") (pos 26)
unfolding start_of word_value
truth_word = record { plain = record { c = 116; cs = 114 ∷ 117 ∷ 101 ∷ []; parts = refl; solid = refl; plain = refl; bracket = refl; bar = refl; letters = refl }; value = refl }

pub integer_word : (digits : List ℕ) → is_number digits ≡ true → number digits ≤ 536_870_911 → IsWordOf digits (pos (4 * number digits))
integer_word digits is le = record { plain = digits_plain 10 digits is; value = integer_value digits is le }
