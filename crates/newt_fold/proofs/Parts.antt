-- A text has a part just where the part's characters stand in it, and where a search of its bytes finds them.
use Rattle.std.proofs.Common.{◌≡◌, ◌↔◌, ◌+◌, ℕ, Bool, true, false, ◌||◌, List, [], ◌∷◌, ◌++◌, refl, sym, ◌∙◌, ap, subst, length, drop, take, nat_eq, arith, inl, inr, ◌⊎◌, Option, Some, None, length-append, take-append-drop}
use Rattle.std.specs.Prelude.{chars, is_some}
use Rattle.std.specs.Str.{IsUtf8}
use Rattle.memchr.specs.Find.{FindsNeedle, OccursAt}
use Rattle.memchr.proofs.lemmas.MatchLemmas.{OccursAt-split, OccursAt-from_part}
use Rattle.newt_fold.proofs.Chars.{part_chars, chars_part, dropped, taken}
use Rattle.std.proofs.lemmas.Bool.Decides.{Decides-eqb}
use Rattle.std.specs.Bool.{one_answer}
use Rattle.std.specs.List.{list_any, starts_with}
use Rattle.std.specs.Str.Iter.{HasSubslice}
use Rattle.std.proofs.lemmas.Slice.Eq.{starts_is}
use Rattle.newt_base.specs.Words.{has_text, places, is_word_char}

or_cases : (a b : Bool) → (a || b) ≡ true → (a ≡ true) ⊎ (b ≡ true)
or_cases true b h = inl refl
or_cases false b h = inr h

or_left : (a b : Bool) → a ≡ true → (a || b) ≡ true
or_left true b h = refl
or_left false b h = cc

or_right : (a b : Bool) → b ≡ true → (a || b) ≡ true
or_right true b h = refl
or_right false b h = h

-- the part stands in the text from its first byte on
stands : (text part : List ℕ) → starts_with nat_eq text part ≡ true → HasSubslice text part
stands text part h = ([], drop (length part) text, (starts_is Decides-eqb text part (starts_with nat_eq text part) refl).0 h)

later : (c : ℕ) (cs part : List ℕ) → HasSubslice cs part → HasSubslice (c ∷ cs) part
later c cs part h = (c ∷ h.0, h.1, ap (λ xs. c ∷ xs) h.2)

has_from : (before : Bool) (text part : List ℕ) → list_any (λ p. starts_with nat_eq p.1 part) (places before text) ≡ true → HasSubslice text part
has_from before [] part h = elim (or_cases (starts_with nat_eq [] part) false h) [ inl e ↦ stands [] part e | inr e ↦ cc ]
has_from before (c ∷ cs) part h =
    elim (or_cases (starts_with nat_eq (c ∷ cs) part) (list_any (λ p. starts_with nat_eq p.1 part) (places (is_word_char c) cs)) h) [
      | inl e ↦ stands (c ∷ cs) part e
      | inr e ↦ later c cs part (has_from (is_word_char c) cs part e)
    ]

from_has : (before : Bool) (text part a b : List ℕ) → text ≡ a ++ (part ++ b) → list_any (λ p. starts_with nat_eq p.1 part) (places before text) ≡ true
from_has before [] part [] b e = or_left _ _ ((starts_is Decides-eqb [] part (starts_with nat_eq [] part) refl).1 b e)
from_has before [] part (x ∷ a) b e = cc
from_has before (c ∷ cs) part [] b e = or_left _ _ ((starts_is Decides-eqb (c ∷ cs) part (starts_with nat_eq (c ∷ cs) part) refl).1 b e)
from_has before (c ∷ cs) part (x ∷ a) b e = or_right _ _ (from_has (is_word_char c) cs part a b (cc))

pub contains_is : (text part : List ℕ) (r : Bool) → (r ≡ true) ↔ HasSubslice text part → r ≡ has_text text part
contains_is text part r h =
    one_answer r (has_text text part) (h.0, h.1) (λ e. has_from false text part e, λ s. from_has false text part s.0 s.1 s.2)

occurs : (s n : List ℕ) (p : HasSubslice s n) → OccursAt s n (length p.0)
occurs s n p =
    OccursAt-from_part s n (length p.0) (omega (arith, ap length p.2, length-append p.0 (n ++ p.1), length-append n p.1))
    (ap (λ l. take (length n) (drop (length p.0) l)) p.2 ∙ ap (take (length n)) (dropped p.0 (n ++ p.1)) ∙ taken n p.1)

-- a search that finds a first place, or none
pub found : (s n : List ℕ) (r : Option ℕ) → FindsNeedle s n 0 r → (is_some r ≡ true) ↔ HasSubslice s n
found s n (Some k) h = (
  λ _. (take k s, drop (k + length n) s, sym (take-append-drop k s) ∙ ap (λ l. take k s ++ l) (OccursAt-split s n k h.1)),
  λ _. refl,
)
found s n None h = (
  λ e. cc,
  λ p. absurd (h (length p.0) (omega arith) (omega (arith, ap length p.2, length-append p.0 (n ++ p.1))) (occurs s n p)),
)

pub found_text : (s n t m : List ℕ) (r : Option ℕ) → s ≡ t → n ≡ m → IsUtf8 t → IsUtf8 m → FindsNeedle s n 0 r
    → is_some r ≡ has_text (chars t) (chars m)
found_text s n t m r e f ut um h =
    let P : List ℕ → Type 0 = λ l. FindsNeedle l m 0 r in
    let Q : List ℕ → Type 0 = λ l. FindsNeedle s l 0 r in
    let is = found t m r (subst P e (subst Q f h)) in
    contains_is (chars t) (chars m) (is_some r) (λ e. part_chars t m ut um (is.0 e), λ p. is.1 (chars_part t m ut um p))
