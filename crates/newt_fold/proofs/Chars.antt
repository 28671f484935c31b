-- A text's bytes begin with those of another, or have them inside, just where its characters do.
use Rattle.std.proofs.Common.{◌≡◌, ◌≢◌, ◌<◌, ◌≤◌, ℕ, Bool, true, false, List, [], ◌∷◌, ◌++◌, refl, sym, ◌∙◌, ap, subst, length, drop, take, nat_eq, arith, length-append}
use Rattle.std.specs.Prelude.{chars, encode_utf8_all}
use Rattle.std.specs.Str.{IsUtf8, IsCharBoundary}
use Rattle.std.specs.List.{starts_with, slice_index}
use Rattle.std.specs.Str.Iter.{HasSubslice}
use Rattle.std.specs.Str.Pattern.{StripsPrefix, FindsTextPrefix}
use Rattle.std.proofs.lemmas.Bool.Decides.{Decides-eqb}
use Rattle.std.proofs.lemmas.Slice.Eq.{starts_is}
use Rattle.std.proofs.lemmas.Str.{chars-nil, chars-append, encodes-chars, encodes-append, IsUtf8-take, IsCharBoundary-start}

-- the bytes of a list of characters in a text
again : (bs : List ℕ) (u : IsUtf8 bs) → encode_utf8_all (chars bs) ≡ bs
again bs u = encodes-chars bs u

-- ---- the two parts of a list

pub dropped : (a b : List ℕ) → drop (length a) (a ++ b) ≡ b
dropped [] b = refl
dropped (x ∷ a) b = dropped a b

pub taken : (a b : List ℕ) → take (length a) (a ++ b) ≡ a
taken [] b = refl
taken (y ∷ a) b = ap (λ l. y ∷ l) (taken a b)

-- ---- a text that begins with a word

pub front_chars : (s n x : List ℕ) → IsUtf8 n → s ≡ n ++ x → chars s ≡ chars n ++ chars x
front_chars s n x u e = ap chars e ∙ chars-append n x u

pub begins : (s n x : List ℕ) → IsUtf8 n → s ≡ n ++ x → starts_with nat_eq (chars s) (chars n) ≡ true
begins s n x u e = (starts_is Decides-eqb (chars s) (chars n) (starts_with nat_eq (chars s) (chars n)) refl).1 (chars x) (front_chars s n x u e)

pub after : (s n x : List ℕ) → IsUtf8 n → s ≡ n ++ x → drop (length (chars n)) (chars s) ≡ chars x
after s n x u e = ap (drop (length (chars n))) (front_chars s n x u e) ∙ dropped (chars n) (chars x)

pub begins_not : (s n : List ℕ) → IsUtf8 s → IsUtf8 n → ((rest : List ℕ) → s ≢ n ++ rest) → starts_with nat_eq (chars s) (chars n) ≡ false
begins_not s n us un none = by (starts_with nat_eq (chars s) (chars n)) refl
  where
    by : (b : Bool) → starts_with nat_eq (chars s) (chars n) ≡ b → b ≡ false
    by false e = refl
    by true e =
        let whole = (starts_is Decides-eqb (chars s) (chars n) (starts_with nat_eq (chars s) (chars n)) refl).0 e in
        let rest = drop (length (chars n)) (chars s) in
        absurd (none (encode_utf8_all rest)
        (sym (again s us) ∙ ap encode_utf8_all whole ∙ encodes-append (chars n) rest ∙ ap (λ bs. bs ++ encode_utf8_all rest) (again n un)))

-- ---- a text that has a part inside

seam : (a r : List ℕ) (x : ℕ) → slice_index (a ++ (x ∷ r)) (length a) ≡ x
seam [] r x = refl
seam (y ∷ a) r x = seam a r x

-- a text may be cut where another text stands in it
boundary : (s a b n : List ℕ) → IsUtf8 n → 0 < length n → s ≡ a ++ (n ++ b) → IsCharBoundary s (length a)
boundary s a b [] u some e = absurd (omega (arith, some))
boundary s a b (x ∷ n) u some e =
    let P : List ℕ → Type 0 = λ l. IsCharBoundary l (length a) in
    let start = (IsCharBoundary-start (x ∷ n) u).1 (omega arith) in
    let Q : ℕ → Type 0 = λ y. 128 ≤ y → 192 ≤ y in
    subst P (sym e) (omega (arith, length-append a ((x ∷ n) ++ b)), λ _. subst Q (sym (seam a (n ++ b) x)) start)

pub part_chars : (s n : List ℕ) → IsUtf8 s → IsUtf8 n → HasSubslice s n → HasSubslice (chars s) (chars n)
part_chars s [] us un h = ([], chars s, ap (λ l. l ++ chars s) (sym chars-nil))
part_chars s (x ∷ n) us un h =
    let cut = boundary s h.0 h.1 (x ∷ n) un (omega arith) h.2 in
    let front : IsUtf8 h.0 = subst IsUtf8 (ap (take (length h.0)) h.2 ∙ taken h.0 ((x ∷ n) ++ h.1)) (IsUtf8-take s (length h.0) us cut) in
    (chars h.0, chars h.1, ap chars h.2 ∙ chars-append h.0 ((x ∷ n) ++ h.1) front ∙ ap (λ l. chars h.0 ++ l) (chars-append (x ∷ n) h.1 un))

pub chars_part : (s n : List ℕ) → IsUtf8 s → IsUtf8 n → HasSubslice (chars s) (chars n) → HasSubslice s n
chars_part s n us un h = (
  encode_utf8_all h.0,
  encode_utf8_all h.1,
  sym (again s us) ∙ ap encode_utf8_all h.2 ∙ encodes-append h.0 (chars n ++ h.1)
      ∙ ap (λ l. encode_utf8_all h.0 ++ l) (encodes-append (chars n) h.1 ∙ ap (λ l. l ++ encode_utf8_all h.1) (again n un)),
)

-- ---- the answers of strip_prefix

pub stripped : (s n x : List ℕ) → StripsPrefix (FindsTextPrefix n) s x → s ≡ n ++ x
stripped s n x h = h.1.1 ∙ ap (λ l. n ++ l) (sym h.2)
