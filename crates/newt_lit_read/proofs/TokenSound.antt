-- A token that is read is written so.
use Rattle.std.proofs.Common.{◌≡◌, ℕ, zero, suc, ◌*◌, Bool, true, false, cond, ltb, leb, eqb, List, [], ◌∷◌, ◌++◌, length, take, Option, Some, None, refl, sym, ap, subst, ◌∙◌, append_assoc, inl, inr, codes}
use Rattle.std.specs.Prelude.{ℤ, pos, neg_ℤ, ◌&&◌, ◌||◌, ◌==◌, ◌%◌, bytes_eq}
use Rattle.std.specs.List.{list_all}
use Rattle.std.specs.Char.{is_ascii_hexdigit}
use Rattle.std.proofs.lemmas.Bool.{leb-true, le-leb, ltb-true, ltb-false, eqb-true, eqb-false, and_parts}
use Rattle.std.proofs.lemmas.List.{take-append-drop, length-take-le}
use Rattle.std.proofs.lemmas.Slice.Eq.{bytes_eq-Decides}
use Rattle.newt_base.specs.Names.{is_identifier}
use Rattle.newt_graph.specs.Steps.{◌>>=◌}
use Rattle.newt_spec_literal.specs.Words.{is_blank, skip, word_len, is_number, number, is_shown, is_barred, is_quoted, is_label, is_count, units_of}
use Rattle.newt_spec_literal.specs.Grammar.{Mark, Pieces, Hex, HexByte, InName, InString, Name, Immediate, Label, Tag, LargeBytes}
use Rattle.newt_lit_read.specs.Tokens.{first_of, after_mark, mark_at, word_at, word_value, plain_at, negative_at, label_at, hex_at, code_word_at, character_at, Next, after_next, pieces_at, single, piece, escaped_in_name, next_in_name, escaped_in_string, next_in_string, next_byte, barred_at, name_at, if_colon, tag_at, bytes_at, zeros_at, large_bytes_at}
use Rattle.newt_graph.proofs.Options.{bind_some, chosen, provided, some_is}
use Rattle.newt_lit_read.proofs.Characters.{one_of, small_units}

-- a text of this kind in front
pub record Takes (P : List ℕ → Type 0) (whole rest : List ℕ) : Type 0 where
  pub text : List ℕ
  pub parts : whole ≡ text ++ rest
  pub is : P text

-- blanks in front do not matter
pub after_blanks : (P : List ℕ → Type 0) → ((c : ℕ) (text : List ℕ) → is_blank c ≡ true → P text → P (c ∷ text)) → (whole rest : List ℕ) → Takes P (skip whole) rest → Takes P whole rest
after_blanks P blank [] rest t = t
after_blanks P blank (c ∷ cs) rest t = go (λ u. after_blanks P blank cs rest u) (is_blank c) refl t
  where
    go : (Takes P (skip cs) rest → Takes P cs rest) → (b : Bool) → is_blank c ≡ b → Takes P (cond b (skip cs) (c ∷ cs)) rest → Takes P (c ∷ cs) rest
    go others true is t =
        let u = others t in
        record { text = c ∷ u.text; parts = ap (λ (x : List ℕ). c ∷ x) u.parts; is = blank c u.text is u.is }
    go others false is t = t

-- several texts in a row
pub joined : (P Q R : List ℕ → Type 0) (whole middle rest : List ℕ) → ((x y : List ℕ) → P x → Q y → R (x ++ y)) → Takes P whole middle → Takes Q middle rest → Takes R whole rest
joined P Q R whole middle rest both p q = record {
  text = p.text ++ q.text;
  parts = p.parts ∙ ap (λ (x : List ℕ). p.text ++ x) q.parts ∙ sym (append_assoc p.text q.text rest);
  is = both p.text q.text p.is q.is;
}

-- one character in front
pub fronted : (P Q : List ℕ → Type 0) (c : ℕ) (whole rest : List ℕ) → ((x : List ℕ) → P x → Q (c ∷ x)) → Takes P whole rest → Takes Q (c ∷ whole) rest
fronted P Q c whole rest more p = record { text = c ∷ p.text; parts = ap (λ (x : List ℕ). c ∷ x) p.parts; is = more p.text p.is }

-- ---- marks and words

pub mark_takes : (whole : List ℕ) (m : ℕ × List ℕ) → mark_at whole ≡ Some m → Takes (Mark m.0) whole m.1
mark_takes whole m e = after_blanks (Mark m.0) (λ c text is mark. Mark.blank is mark) whole m.1 (go (skip whole) e)
  where
    go : (text : List ℕ) → first_of text ≡ Some m → Takes (Mark m.0) text m.1
    go [] e = absurd cc
    go (c ∷ rest) e = subst (λ (x : ℕ × List ℕ). Takes (Mark x.0) (c ∷ rest) x.1) (some_is {x = (c, rest)} {y = m} e) (record { text = c ∷ []; parts = refl; is = Mark.here })

pub first_tells : (text : List ℕ) (m : ℕ × List ℕ) → first_of text ≡ Some m → text ≡ m.0 ∷ m.1
first_tells [] m e = absurd cc
first_tells (c ∷ rest) m e = ap (λ (x : ℕ × List ℕ). x.0 ∷ x.1) (some_is {x = (c, rest)} {y = m} e)

pub after_tells : (c : ℕ) (text rest : List ℕ) → after_mark c (first_of text) ≡ Some rest → text ≡ c ∷ rest
after_tells c [] rest e = absurd cc
after_tells c (d ∷ ds) rest e =
    let p = provided (eqb d c) (Some ds) rest e in
    ap (λ (x : ℕ). x ∷ ds) (eqb-true d c p.0) ∙ ap (λ (x : List ℕ). c ∷ x) (some_is {x = ds} {y = rest} p.1)

word_takes : (P : List ℕ → Type 0) (whole : List ℕ) → P (word_at whole).0 → Takes P whole (word_at whole).1
word_takes P whole is = record { text = (word_at whole).0; parts = sym (take-append-drop (word_len whole) whole); is = is }

-- a label's digits, and the mark after them
pub label_takes : (whole : List ℕ) (l : ℕ × ℕ × List ℕ) → label_at whole ≡ Some l → (digits : List ℕ) × Label digits l.0 × (whole ≡ digits ++ l.1 ∷ l.2)
unfolding label_at
label_takes whole l e =
    let p = provided (is_label (word_at whole).0) _ l e in
    let m = bind_some (first_of (word_at whole).1) _ l p.1 in
    let front : (word_at whole).1 ≡ m.0.0 ∷ m.0.1 = first_tells (word_at whole).1 m.0 m.1 in
    subst (λ (l : ℕ × ℕ × List ℕ). (digits : List ℕ) × Label digits l.0 × (whole ≡ digits ++ l.1 ∷ l.2)) (some_is m.2)
    ((word_at whole).0, Label.label p.0, sym (take-append-drop (word_len whole) whole) ∙ ap (λ (x : List ℕ). (word_at whole).0 ++ x) front)

-- ---- hexadecimal digits

pub hex_takes : (count : ℕ) (whole : List ℕ) (n : ℕ × List ℕ) → hex_at count whole ≡ Some n → Takes (λ text. Hex count text n.0) whole n.1
unfolding hex_at
hex_takes count whole n e =
    elim (chosen (ltb (length whole) count) _ _ _ e) [
      | inl p ↦ absurd cc
      | inr p ↦
          let q = provided (list_all is_ascii_hexdigit (take count whole)) _ n p.1 in
          let long : length (take count whole) ≡ count = length-take-le count whole (ltb-false (length whole) count p.0) in
          subst (λ (n : ℕ × List ℕ). Takes (λ text. Hex count text n.0) whole n.1) (some_is q.1)
          (record { text = take count whole; parts = sym (take-append-drop count whole); is = Hex.hex long q.0 })
    ]

-- ---- pieces

-- what is told of the next piece
abbrev pub Told : (List ℕ → List ℕ → Type 0) → (ℕ → List ℕ) → ℕ → List ℕ → Option ℕ → List ℕ → Type 0
Told piece value close whole None rest = whole ≡ close ∷ rest
Told piece value close whole (Some code) rest = Takes (λ text. piece text (value code)) whole rest

abbrev pub Tells : (List ℕ → List ℕ → Type 0) → (ℕ → List ℕ) → ℕ → Next → Type 0
Tells piece value close next = (whole : List ℕ) (found : Option ℕ × List ℕ) → next whole ≡ Some found → Told piece value close whole found.0 found.1

-- pieces and the closing mark
abbrev pub TakesAll : (List ℕ → List ℕ → Type 0) → ℕ → List ℕ → List ℕ × List ℕ → Type 0
TakesAll piece close whole found = (text : List ℕ) × (whole ≡ text ++ close ∷ found.1) × Pieces piece text found.0

pub pieces_take : (piece : List ℕ → List ℕ → Type 0) (value : ℕ → List ℕ) (close : ℕ) (next : Next) → Tells piece value close next → (turns : ℕ) (whole : List ℕ) (found : List ℕ × List ℕ) → pieces_at value next turns whole ≡ Some found → TakesAll piece close whole found
unfolding pieces_at
pieces_take piece value close next tells zero whole found e = absurd cc
pieces_take piece value close next tells (suc turns) whole found e =
    let a = bind_some (next whole) _ found e in
    by (λ rest f e. pieces_take piece value close next tells turns rest f e) a.0.0 a.0.1 a.1 a.2
  where
    by : ((rest : List ℕ) (f : List ℕ × List ℕ) → pieces_at value next turns rest ≡ Some f → TakesAll piece close rest f)
        → (o : Option ℕ) (rest : List ℕ) → next whole ≡ Some (o, rest) → after_next value (pieces_at value next turns) (o, rest) ≡ Some found → TakesAll piece close whole found
    by again None rest is e = subst (λ (f : List ℕ × List ℕ). TakesAll piece close whole f) (some_is e) ([], tells whole (None, rest) is, Pieces.none)
    by again (Some code) rest is e =
        let t : Takes (λ text. piece text (value code)) whole rest = tells whole (Some code, rest) is in
        let b = bind_some (pieces_at value next turns rest) _ found e in
        let others = again rest b.0 b.1 in
        subst (λ (f : List ℕ × List ℕ). TakesAll piece close whole f) (some_is b.2)
        (t.text ++ others.0, t.parts ∙ ap (λ (x : List ℕ). t.text ++ x) others.1 ∙ sym (append_assoc t.text others.0 (close ∷ b.0.1)), Pieces.more t.is others.2)

name_escape : (c : ℕ) (cs : List ℕ) (f : ℕ × List ℕ) → c ≡ 92 → escaped_in_name cs ≡ Some f → Takes (λ text. InName text (single f.0)) (c ∷ cs) f.1
name_escape c [] f is e = absurd cc
name_escape c (d ∷ ds) f is e =
    let r = provided ((d == 124) || (d == 92)) (Some (d, ds)) f e in
    subst (λ (f : ℕ × List ℕ). Takes (λ text. InName text (single f.0)) (c ∷ d ∷ ds) f.1) (some_is r.1)
    (elim (one_of (d == 124) (d == 92) r.0) [
      | inl h ↦ record {
        text = 92 ∷ 124 ∷ [];
        parts = ap (λ (x : ℕ). x ∷ d ∷ ds) is ∙ ap (λ (x : ℕ). 92 ∷ x ∷ ds) (eqb-true d 124 h);
        is = subst (λ (n : ℕ). InName (92 ∷ 124 ∷ []) (n ∷ [])) (sym (eqb-true d 124 h)) InName.bar;
      }
      | inr h ↦ record {
        text = 92 ∷ 92 ∷ [];
        parts = ap (λ (x : ℕ). x ∷ d ∷ ds) is ∙ ap (λ (x : ℕ). 92 ∷ x ∷ ds) (eqb-true d 92 h);
        is = subst (λ (n : ℕ). InName (92 ∷ 92 ∷ []) (n ∷ [])) (sym (eqb-true d 92 h)) InName.backslash;
      }
    ])

name_told : Tells InName single 124 next_in_name
unfolding next_in_name
name_told [] found e = absurd cc
name_told (c ∷ cs) found e =
    elim (chosen (eqb c 124) _ _ _ e) [
      | inl p ↦ subst (λ (f : Option ℕ × List ℕ). Told InName single 124 (c ∷ cs) f.0 f.1) (some_is p.1) (ap (λ (x : ℕ). x ∷ cs) (eqb-true c 124 p.0))
      | inr p ↦ elim (chosen (eqb c 92) _ _ _ p.1) [
        | inl q ↦
            let r = bind_some (escaped_in_name cs) _ found q.1 in
            subst (λ (f : Option ℕ × List ℕ). Told InName single 124 (c ∷ cs) f.0 f.1) (some_is r.2) (name_escape c cs r.0 (eqb-true c 92 q.0) r.1)
        | inr q ↦
            let r = provided (is_barred c) _ found q.1 in
            subst (λ (f : Option ℕ × List ℕ). Told InName single 124 (c ∷ cs) f.0 f.1) (some_is r.1) (record { text = c ∷ []; parts = refl; is = InName.plain r.0 })
      ]
    ]

string_escape : (c : ℕ) (cs : List ℕ) (f : ℕ × List ℕ) → c ≡ 92 → escaped_in_string cs ≡ Some f → Takes (λ text. InString text (units_of f.0)) (c ∷ cs) f.1
string_escape c [] f is e = absurd cc
string_escape c (d ∷ ds) f is e =
    elim (chosen ((d == 34) || (d == 92)) _ _ _ e) [
      | inl r ↦
          subst (λ (f : ℕ × List ℕ). Takes (λ text. InString text (units_of f.0)) (c ∷ d ∷ ds) f.1) (some_is r.1)
          (elim (one_of (d == 34) (d == 92) r.0) [
            | inl h ↦ record {
              text = 92 ∷ 34 ∷ [];
              parts = ap (λ (x : ℕ). x ∷ d ∷ ds) is ∙ ap (λ (x : ℕ). 92 ∷ x ∷ ds) (eqb-true d 34 h);
              is = subst (λ (n : ℕ). InString (92 ∷ 34 ∷ []) (units_of n)) (sym (eqb-true d 34 h)) InString.quote;
            }
            | inr h ↦ record {
              text = 92 ∷ 92 ∷ [];
              parts = ap (λ (x : ℕ). x ∷ d ∷ ds) is ∙ ap (λ (x : ℕ). 92 ∷ x ∷ ds) (eqb-true d 92 h);
              is = subst (λ (n : ℕ). InString (92 ∷ 92 ∷ []) (units_of n)) (sym (eqb-true d 92 h)) InString.backslash;
            }
          ])
      | inr r ↦
          let q = provided (d == 117) (hex_at 4 ds) f r.1 in
          let t = hex_takes 4 ds f q.1 in
          record {
            text = 92 ∷ 117 ∷ t.text;
            parts = ap (λ (x : ℕ). x ∷ d ∷ ds) is ∙ ap (λ (x : ℕ). 92 ∷ x ∷ ds) (eqb-true d 117 q.0) ∙ ap (λ (x : List ℕ). 92 ∷ 117 ∷ x) t.parts;
            is = subst (λ (us : List ℕ). InString (92 ∷ 117 ∷ t.text) us) (sym (small_units t.text f.0 t.is)) (InString.unit t.is);
          }
    ]

string_told : Tells InString units_of 34 next_in_string
unfolding next_in_string
string_told [] found e = absurd cc
string_told (c ∷ cs) found e =
    elim (chosen (eqb c 34) _ _ _ e) [
      | inl p ↦ subst (λ (f : Option ℕ × List ℕ). Told InString units_of 34 (c ∷ cs) f.0 f.1) (some_is p.1) (ap (λ (x : ℕ). x ∷ cs) (eqb-true c 34 p.0))
      | inr p ↦ elim (chosen (eqb c 92) _ _ _ p.1) [
        | inl q ↦
            let r = bind_some (escaped_in_string cs) _ found q.1 in
            subst (λ (f : Option ℕ × List ℕ). Told InString units_of 34 (c ∷ cs) f.0 f.1) (some_is r.2) (string_escape c cs r.0 (eqb-true c 92 q.0) r.1)
        | inr q ↦ elim (chosen (ltb c 32) _ _ _ q.1) [
          | inl r ↦ absurd cc
          | inr r ↦
              let s = provided (leb c 1_114_111) _ found r.1 in
              let quoted : is_quoted c ≡ true = rw (le-leb 32 c (ltb-false c 32 r.0), s.0, p.0, q.0) refl in
              subst (λ (f : Option ℕ × List ℕ). Told InString units_of 34 (c ∷ cs) f.0 f.1) (some_is s.1) (record { text = c ∷ []; parts = refl; is = InString.plain quoted })
        ]
      ]
    ]

byte_told : Tells HexByte single 62 next_byte
unfolding next_byte
byte_told [] found e = absurd cc
byte_told (c ∷ cs) found e =
    elim (chosen (eqb c 62) _ _ _ e) [
      | inl p ↦ subst (λ (f : Option ℕ × List ℕ). Told HexByte single 62 (c ∷ cs) f.0 f.1) (some_is p.1) (ap (λ (x : ℕ). x ∷ cs) (eqb-true c 62 p.0))
      | inr p ↦
          let r = bind_some (hex_at 2 (c ∷ cs)) _ found p.1 in
          let t = hex_takes 2 (c ∷ cs) r.0 r.1 in
          subst (λ (f : Option ℕ × List ℕ). Told HexByte single 62 (c ∷ cs) f.0 f.1) (some_is r.2) (record { text = t.text; parts = t.parts; is = HexByte.byte t.is })
    ]

pub string_takes : (whole : List ℕ) (found : List ℕ × List ℕ) → pieces_at units_of next_in_string (length whole) whole ≡ Some found → TakesAll InString 34 whole found
string_takes whole found e = pieces_take InString units_of 34 next_in_string string_told (length whole) whole found e

pub bytes_take : (whole : List ℕ) (found : List ℕ × List ℕ) → bytes_at whole ≡ Some found → TakesAll HexByte 62 whole found
bytes_take whole found e = pieces_take HexByte single 62 next_byte byte_told (length whole) whole found e

-- ---- names and tags

barred_takes : (whole : List ℕ) (n : List ℕ × List ℕ) → barred_at whole ≡ Some n → Takes (λ text. Name text n.0) (124 ∷ whole) n.1
unfolding barred_at
barred_takes whole n e =
    let a = bind_some (pieces_at single next_in_name (length whole) whole) _ n e in
    let p = provided (ltb 0 (length a.0.0) && ltb (length a.0.0) 255) (Some a.0) n a.2 in
    let q = and_parts (ltb 0 (length a.0.0)) (ltb (length a.0.0) 255) p.0 in
    let t = pieces_take InName single 124 next_in_name name_told (length whole) whole a.0 a.1 in
    subst (λ (n : List ℕ × List ℕ). Takes (λ text. Name text n.0) (124 ∷ whole) n.1) (some_is p.1) (record {
      text = 124 ∷ (t.0 ++ 124 ∷ []);
      parts = ap (λ (x : List ℕ). 124 ∷ x) (t.1 ∙ sym (append_assoc t.0 (124 ∷ []) a.0.1));
      is = Name.barred t.2 (ltb-true 0 (length a.0.0) q.0) (ltb-true (length a.0.0) 255 q.1);
    })

pub name_takes : (whole : List ℕ) (n : List ℕ × List ℕ) → name_at whole ≡ Some n → Takes (λ text. Name text n.0) whole n.1
unfolding name_at
name_takes [] n e = absurd cc
name_takes (c ∷ cs) n e =
    elim (chosen (eqb c 124) _ _ _ e) [
      | inl p ↦ subst (λ (c : ℕ). Takes (λ text. Name text n.0) (c ∷ cs) n.1) (sym (eqb-true c 124 p.0)) (barred_takes cs n p.1)
      | inr p ↦
          let q = provided (is_identifier (word_at (c ∷ cs)).0) _ n p.1 in
          subst (λ (n : List ℕ × List ℕ). Takes (λ text. Name text n.0) (c ∷ cs) n.1) (some_is q.1) (word_takes (λ text. Name text (word_at (c ∷ cs)).0) (c ∷ cs) (Name.identifier q.0))
    ]

pub tag_takes : (whole : List ℕ) (n : List ℕ × List ℕ) → tag_at whole ≡ Some n → Takes (λ text. Tag text n.0) whole n.1
unfolding tag_at
tag_takes whole n e = after_blanks (λ text. Tag text n.0) (λ c text is tag. Tag.blank is tag) whole n.1 (go (skip whole) e)
  where
    go : (text : List ℕ) → (name_at text >>= λ name. if_colon name.0 (mark_at name.1)) ≡ Some n → Takes (λ text. Tag text n.0) text n.1
    go text e =
        let a = bind_some (name_at text) _ n e in
        colon a.0 a.1 (mark_at a.0.1) refl a.2
      where
        colon : (name : List ℕ × List ℕ) → name_at text ≡ Some name → (o : Option (ℕ × List ℕ)) → mark_at name.1 ≡ o → if_colon name.0 o ≡ Some n → Takes (λ text. Tag text n.0) text n.1
        colon name is None marked e = absurd cc
        colon name is (Some m) marked e =
            let p = provided (eqb m.0 58) (Some (name.0, m.1)) n e in
            let mark = subst (λ (c : ℕ). Takes (Mark c) name.1 m.1) (eqb-true m.0 58 p.0) (mark_takes name.1 m marked) in
            subst (λ (n : List ℕ × List ℕ). Takes (λ text. Tag text n.0) text n.1) (some_is p.1)
            (joined (λ text. Name text name.0) (Mark 58) (λ text. Tag text name.0) text name.1 m.1 (λ x y name mark. Tag.name name mark) (name_takes text name is) mark)

-- ---- immediates

word_tells : (word : List ℕ) (w : ℤ) → word_value word ≡ Some w → Immediate word w
unfolding word_value
word_tells word w e =
    elim (chosen (bytes_eq word (codes "nil")) _ _ _ e) [
      | inl p ↦ subst (λ (x : List ℕ). Immediate x w) (sym ((bytes_eq-Decides word (codes "nil")).0 p.0)) (subst (Immediate (codes "nil")) (some_is p.1) Immediate.nil)
      | inr p ↦ elim (chosen (bytes_eq word (codes "true")) _ _ _ p.1) [
        | inl q ↦ subst (λ (x : List ℕ). Immediate x w) (sym ((bytes_eq-Decides word (codes "true")).0 q.0)) (subst (Immediate (codes "true")) (some_is q.1) Immediate.truth)
        | inr q ↦
            let r = provided (is_number word && leb (number word) 536_870_911) _ w q.1 in
            let s = and_parts (is_number word) (leb (number word) 536_870_911) r.0 in
            subst (Immediate word) (some_is r.1) (Immediate.integer s.0 (leb-true _ _ s.1))
      ]
    ]

pub plain_takes : (whole : List ℕ) (w : ℤ × List ℕ) → plain_at whole ≡ Some w → Takes (λ text. Immediate text w.0) whole w.1
plain_takes whole w e =
    let a = bind_some (word_value (word_at whole).0) _ w e in
    subst (λ (w : ℤ × List ℕ). Takes (λ text. Immediate text w.0) whole w.1) (some_is a.2) (word_takes (λ text. Immediate text a.0) whole (word_tells (word_at whole).0 a.0 a.1))

pub negative_takes : (whole : List ℕ) (w : ℤ × List ℕ) → negative_at whole ≡ Some w → Takes (λ text. Immediate text w.0) (45 ∷ whole) w.1
unfolding negative_at
negative_takes whole w e =
    let word = (word_at whole).0 in
    let p = provided (is_number word && leb (number word) 536_870_912) _ w e in
    let q = and_parts (is_number word) (leb (number word) 536_870_912) p.0 in
    subst (λ (w : ℤ × List ℕ). Takes (λ text. Immediate text w.0) (45 ∷ whole) w.1) (some_is p.1)
    (fronted (λ text. text ≡ word) (λ text. Immediate text (neg_ℤ (pos (4 * number word)))) 45 whole (word_at whole).1
    (λ x same. subst (λ (x : List ℕ). Immediate (45 ∷ x) (neg_ℤ (pos (4 * number word)))) (sym same) (Immediate.negative q.0 (leb-true _ _ q.1)))
    (word_takes (λ text. text ≡ word) whole refl))

pub code_word_takes : (whole : List ℕ) (w : ℤ × List ℕ) → code_word_at whole ≡ Some w → Takes (λ text. Immediate text w.0) (38 ∷ whole) w.1
unfolding code_word_at
code_word_takes whole w e =
    let a = bind_some (hex_at 8 whole) _ w e in
    let t = hex_takes 8 whole a.0 a.1 in
    elim (chosen (a.0.0 % 4 == 1) _ _ _ a.2) [
      | inl p ↦ absurd cc
      | inr p ↦
          subst (λ (w : ℤ × List ℕ). Takes (λ text. Immediate text w.0) (38 ∷ whole) w.1) (some_is p.1)
          (record { text = 38 ∷ t.text; parts = ap (λ (x : List ℕ). 38 ∷ x) t.parts; is = Immediate.word t.is (eqb-false (a.0.0 % 4) 1 p.0) })
    ]

pub character_takes : (whole : List ℕ) (w : ℤ × List ℕ) → character_at whole ≡ Some w → Takes (λ text. Immediate text w.0) (36 ∷ whole) w.1
unfolding character_at
character_takes [] w e = absurd cc
character_takes (c ∷ rest) w e =
    elim (chosen (eqb c 92) _ _ _ e) [
      | inl p ↦
          let a = bind_some (hex_at 4 rest) _ w p.1 in
          let t = hex_takes 4 rest a.0 a.1 in
          subst (λ (w : ℤ × List ℕ). Takes (λ text. Immediate text w.0) (36 ∷ c ∷ rest) w.1) (some_is a.2) (record {
            text = 36 ∷ 92 ∷ t.text;
            parts = ap (λ (x : ℕ). 36 ∷ x ∷ rest) (eqb-true c 92 p.0) ∙ ap (λ (x : List ℕ). 36 ∷ 92 ∷ x) t.parts;
            is = Immediate.coded t.is;
          })
      | inr p ↦
          let q = provided (is_shown c) _ w p.1 in
          subst (λ (w : ℤ × List ℕ). Takes (λ text. Immediate text w.0) (36 ∷ c ∷ rest) w.1) (some_is q.1) (record { text = 36 ∷ c ∷ []; parts = refl; is = Immediate.character q.0 })
    ]

-- ---- the bytes of a large binary, with the closing mark

abbrev pub TakesLarge : List ℕ → List ℕ × List ℕ → Type 0
TakesLarge whole found = (text : List ℕ) × (whole ≡ text ++ 62 ∷ found.1) × LargeBytes text found.0

zeros_take : (whole : List ℕ) (found : List ℕ × List ℕ) → zeros_at whole ≡ Some found → TakesLarge (42 ∷ whole) found
unfolding zeros_at
zeros_take whole found e =
    let word = (word_at whole).0 in
    let p = provided (is_count word && leb (number word) 1_000_000) _ found e in
    let q = and_parts (is_count word) (leb (number word) 1_000_000) p.0 in
    let r = bind_some (after_mark 62 (first_of (word_at whole).1)) _ found p.1 in
    let parts : whole ≡ word ++ 62 ∷ r.0 = sym (take-append-drop (word_len whole) whole) ∙ ap (λ (x : List ℕ). word ++ x) (after_tells 62 (word_at whole).1 r.0 r.1) in
    subst (λ (f : List ℕ × List ℕ). (text : List ℕ) × (42 ∷ whole ≡ text ++ 62 ∷ f.1) × LargeBytes text f.0) (some_is r.2)
    (42 ∷ word, ap (λ (x : List ℕ). 42 ∷ x) parts, LargeBytes.zeros q.0 (leb-true _ _ q.1))

pub large_bytes_take : (whole : List ℕ) (found : List ℕ × List ℕ) → large_bytes_at whole ≡ Some found → TakesLarge whole found
unfolding large_bytes_at
large_bytes_take [] found e = absurd cc
large_bytes_take (c ∷ rest) found e =
    elim (chosen (eqb c 42) _ _ _ e) [
      | inl p ↦ subst (λ (c : ℕ). TakesLarge (c ∷ rest) found) (sym (eqb-true c 42 p.0)) (zeros_take rest found p.1)
      | inr p ↦ let t = bytes_take (c ∷ rest) found p.1 in (t.0, t.1, LargeBytes.each t.2)
    ]
