-- The words of a text one after another, and their values.
use Rattle.std.proofs.Common.{◌≡◌, ℕ, zero, suc, ◌+◌, ◌<◌, ◌≤◌, Bool, true, false, not, ◌||◌, ◌==◌, List, [], ◌∷◌, ◌++◌, length, take, drop, filter, map, get_or, Option, Some, None, Result, Ok, Err, Bor, option_map, option_and_then, if◌then◌else◌, refl, sym, ◌∙◌, ap, subst, append_assoc, arith}
use Rattle.std.proofs.lemmas.List.{take_more, take_all, length-drop, map-append}
use Rattle.std.proofs.lemmas.Bool.{ne_eqb}
use Rattle.std.specs.List.{prefix_len}
use Rattle.newt_spec_script.specs.Words.{is_blank, split_at, words, all_words}
use Rattle.newt_spec_script.specs.Line.{first_word}
use Rattle.newt_script_words.specs.Listed.{of_form}
use Rattle.newt_script_words.specs.declared.fault.WordFault.{WordFault}
use Rattle.newt_script_words.specs.declared.fault.WordFault.TheVariants.{Form}
use Rattle.newt_script_words.proofs.Trimming.{skip_blank, skip_other}

-- ---- the pieces between blanks

-- a blank of any kind is a space
abbrev as_space : ℕ → ℕ
as_space c = if c == 9 then 32 else c

abbrev pieces : List ℕ → List (List ℕ)
pieces cs = split_at 32 (map as_space cs)

abbrev is_some : List ℕ → Bool
is_some w = not (length w == 0)

abbrev no_blank : ℕ → Bool
no_blank c = not (is_blank c)

abbrev len : List ℕ → ℕ
len = prefix_len no_blank

add-one : (n : ℕ) → 1 + n ≡ suc n
add-one n = omega arith

space_is_blank : (c : ℕ) → (as_space c == 32) ≡ is_blank c
space_is_blank c = go (c == 9) refl
  where
    go : (b : Bool) → (c == 9) ≡ b → (as_space c == 32) ≡ is_blank c
    go true is = rw is (or-true (c == 32))
      where
        or-true : (b : Bool) → true ≡ (b || true)
        or-true true = refl
        or-true false = refl
    go false is = rw is (or-false (c == 32))
      where
        or-false : (b : Bool) → b ≡ (b || false)
        or-false true = refl
        or-false false = refl

not_space : (c : ℕ) → is_blank c ≡ false → as_space c ≡ c
not_space c is = go (c == 9) refl
  where
    go : (b : Bool) → (c == 9) ≡ b → as_space c ≡ c
    go false found = rw found refl
    go true found = no (c == 32) (ap (λ (b : Bool). (c == 32) || b) (sym found) ∙ is)
      where
        no : (b : Bool) → (b || true) ≡ false → as_space c ≡ c
        no true e = cc
        no false e = cc

-- what the pieces are after the first word
abbrev next_pieces : List ℕ → List (List ℕ)
next_pieces [] = []
next_pieces (c ∷ cs) = pieces cs

pieces_blank : (c : ℕ) (cs : List ℕ) → is_blank c ≡ true → pieces (c ∷ cs) ≡ [] ∷ pieces cs
pieces_blank c cs is = rw (space_is_blank c ∙ is, split_at) refl

pieces_are : (cs : List ℕ) → pieces cs ≡ take (len cs) cs ∷ next_pieces (drop (len cs) cs)
pieces_are [] = refl
pieces_are (c ∷ cs) = go (pieces_are cs) (is_blank c) refl
  where
    go : pieces cs ≡ take (len cs) cs ∷ next_pieces (drop (len cs) cs) → (b : Bool) → is_blank c ≡ b
        → pieces (c ∷ cs) ≡ take (len (c ∷ cs)) (c ∷ cs) ∷ next_pieces (drop (len (c ∷ cs)) (c ∷ cs))
    go rest true is = rw is (pieces_blank c cs is)
    go rest false is = rw (is, add-one (len cs)) (rw (space_is_blank c ∙ is, split_at, rest, not_space c is) refl)

-- ---- the words

words_blank : (c : ℕ) (cs : List ℕ) → is_blank c ≡ true → words (c ∷ cs) ≡ words cs
words_blank c cs is = ap (filter is_some) (pieces_blank c cs is)

words_after : (cs : List ℕ) → filter is_some (next_pieces (drop (len cs) cs)) ≡ words (drop (len cs) cs)
words_after [] = refl
words_after (c ∷ cs) = go (words_after cs) (is_blank c) refl
  where
    go : filter is_some (next_pieces (drop (len cs) cs)) ≡ words (drop (len cs) cs) → (b : Bool) → is_blank c ≡ b
        → filter is_some (next_pieces (drop (len (c ∷ cs)) (c ∷ cs))) ≡ words (drop (len (c ∷ cs)) (c ∷ cs))
    go rest true is = rw is (sym (words_blank c cs is))
    go rest false is = rw (is, add-one (len cs)) rest

first_blank : (c : ℕ) (cs : List ℕ) → is_blank c ≡ true → first_word (c ∷ cs) ≡ first_word cs
first_blank c cs is = ap (λ text. (take (len text) text, drop (len text) text)) (skip_blank c cs is)

first_other : (c : ℕ) (cs : List ℕ) → is_blank c ≡ false → first_word (c ∷ cs) ≡ (c ∷ take (len cs) cs, drop (len cs) cs)
first_other c cs is = ap (λ text. (take (len text) text, drop (len text) text)) (skip_other c cs is) ∙ rw (is, add-one (len cs)) refl

some_word : (c : ℕ) (w : List ℕ) → is_some (c ∷ w) ≡ true
some_word c w = ap not (ne_eqb (length (c ∷ w)) 0 (λ e. absurd (omega arith)))

words_other : (c : ℕ) (cs : List ℕ) → is_blank c ≡ false → words (c ∷ cs) ≡ (c ∷ take (len cs) cs) ∷ words (drop (len cs) cs)
words_other c cs is =
    ap (filter is_some) (pieces_are (c ∷ cs)) ∙ rw (is, add-one (len cs), some_word c (take (len cs) cs)) (ap (λ ws. (c ∷ take (len cs) cs) ∷ ws) (words_after cs))

-- no word is left
pub no_words : (cs : List ℕ) → length (first_word cs).0 ≡ 0 → words cs ≡ []
no_words [] none = refl
no_words (c ∷ cs) none = go (no_words cs) (is_blank c) refl
  where
    go : (length (first_word cs).0 ≡ 0 → words cs ≡ []) → (b : Bool) → is_blank c ≡ b → words (c ∷ cs) ≡ []
    go rest true is = words_blank c cs is ∙ rest (ap (λ w. length w.0) (sym (first_blank c cs is)) ∙ none)
    go rest false is = absurd (omega (arith, ap (λ w. length w.0) (first_other c cs is), none))

-- the next word is the first
pub next_word : (cs : List ℕ) → 1 ≤ length (first_word cs).0 → (words cs ≡ (first_word cs).0 ∷ words (first_word cs).1) × (length (first_word cs).1 < length cs)
next_word [] some = absurd (omega (arith, some))
next_word (c ∷ cs) some = go (next_word cs) (is_blank c) refl
  where
    go : (1 ≤ length (first_word cs).0 → (words cs ≡ (first_word cs).0 ∷ words (first_word cs).1) × (length (first_word cs).1 < length cs))
        → (b : Bool) → is_blank c ≡ b
        → (words (c ∷ cs) ≡ (first_word (c ∷ cs)).0 ∷ words (first_word (c ∷ cs)).1) × (length (first_word (c ∷ cs)).1 < length (c ∷ cs))
    go rest true is =
        let same = first_blank c cs is in
        let next = rest (subst (λ (w : List ℕ × List ℕ). 1 ≤ length w.0) same some) in
        (words_blank c cs is ∙ (next.0 ∙ ap (λ w. w.0 ∷ words w.1) (sym same)), omega (arith, ap (λ w. length w.1) same, next.1))
    go rest false is =
        let same = first_other c cs is in
        (words_other c cs is ∙ ap (λ w. w.0 ∷ words w.1) (sym same), omega (arith, ap (λ w. length w.1) same, length-drop (len cs) cs))

-- ---- their values

abbrev texts : List (Bor (List ℕ)) → List (List ℕ)
texts = map (λ word. word.now)

module _ {A : Type 0} (form : List ℕ → Option A) where
  longer : (ws : List (List ℕ)) (w : List ℕ) (xs : List A) (x : A) → all_words form ws ≡ Some xs → form w ≡ Some x → all_words form (ws ++ w ∷ []) ≡ Some (xs ++ x ∷ [])
  longer [] w xs x all is = rw is (ap (option_map (λ ys. ys ++ x ∷ [])) all)
  longer (v ∷ ws) w xs x all is = go (λ ys is_ys. longer ws w ys x is_ys is) (form v) refl (all_words form ws) refl all
    where
      go : ((ys : List A) → all_words form ws ≡ Some ys → all_words form (ws ++ w ∷ []) ≡ Some (ys ++ x ∷ [])) → (o : Option A) → form v ≡ o
          → (r : Option (List A)) → all_words form ws ≡ r → option_and_then (λ a. option_map (λ as'. a ∷ as') r) o ≡ Some xs
          → all_words form (v ∷ ws ++ w ∷ []) ≡ Some (xs ++ x ∷ [])
      go rest None found r values_are given = cc
      go rest (Some a) found None values_are given = cc
      go rest (Some a) found (Some ys) values_are given = rw (found, rest ys values_are) (ap (option_map (λ zs. zs ++ x ∷ [])) given)

  -- one word more
  pub one_more : (ws : List (Bor (List ℕ))) (i : ℕ) (d : Bor (List ℕ)) (xs new : List A) (x : A) → i < length ws
      → all_words form (texts (take i ws)) ≡ Some xs → Ok x ≡ of_form (form (get_or ws i d).now) → new ≡ xs ++ x ∷ [] → all_words form (texts (take (i + 1) ws)) ≡ Some new
  one_more ws i d xs new x within all is new_is =
      ap (λ vs. all_words form (texts vs)) (take_more ws i d within)
      ∙ (ap (all_words form) (map-append (λ v. v.now) (take i ws) (get_or ws i d ∷ []))
      ∙ (longer (texts (take i ws)) (get_or ws i d).now xs x all (value (form (get_or ws i d).now) refl is) ∙ ap Some (sym new_is)))
    where
      value : (o : Option A) → form (get_or ws i d).now ≡ o → Ok x ≡ of_form o → form (get_or ws i d).now ≡ Some x
      value None found e = cc
      value (Some y) found e = cc

  -- all words
  pub whole : (ws : List (Bor (List ℕ))) (i : ℕ) (xs : List A) → length ws ≤ i → all_words form (texts (take i ws)) ≡ Some xs → Ok xs ≡ of_form (all_words form (texts ws))
  whole ws i xs all is = ap of_form (sym is ∙ ap (λ vs. all_words form (texts vs)) (take_all i ws all))

  none_at : (ws : List (Bor (List ℕ))) (i : ℕ) (d : Bor (List ℕ)) → i < length ws → form (get_or ws i d).now ≡ None → all_words form (texts ws) ≡ None
  none_at [] i d within is = absurd (omega (arith, within))
  none_at (w ∷ ws) zero d within is = rw is refl
  none_at (w ∷ ws) (suc i) d within is = go (none_at ws i d (omega (arith, within)) is) (form w.now)
    where
      go : all_words form (texts ws) ≡ None → (o : Option A) → option_and_then (λ a. option_map (λ as'. a ∷ as') (all_words form (texts ws))) o ≡ None
      go rest None = refl
      go rest (Some a) = rw rest refl

  -- a word that has not the form
  pub refused : (ws : List (Bor (List ℕ))) (i : ℕ) (d : Bor (List ℕ)) (fault : WordFault) → i < length ws
      → ◌≡◌ {A = Result A WordFault} (Err fault) (of_form (form (get_or ws i d).now)) → ◌≡◌ {A = Result (List A) WordFault} (Err fault) (of_form (all_words form (texts ws)))
  refused ws i d fault within is = go (form (get_or ws i d).now) refl is
    where
      go : (o : Option A) → form (get_or ws i d).now ≡ o → ◌≡◌ {A = Result A WordFault} (Err fault) (of_form o) → ◌≡◌ {A = Result (List A) WordFault} (Err fault) (of_form (all_words form (texts ws)))
      go None found e =
          let none : all_words form (texts ws) ≡ None = none_at ws i d within found in
          let same : fault ≡ Form = cc in
          rw (none, same) refl
      go (Some y) found e = cc

-- ---- reading the words one by one

append_nil : {A : Type 0} (xs : List A) → xs ++ [] ≡ xs
append_nil [] = refl
append_nil (x ∷ xs) = ap (λ ys. x ∷ ys) (append_nil xs)

-- the last word was read
pub all_read : (list : List (Bor (List ℕ))) (w rest text : List ℕ) → length w ≡ 0 → w ≡ (first_word rest).0 → texts list ++ words rest ≡ words text → texts list ≡ words text
all_read list w rest text none word_is so_far =
    sym (append_nil (texts list)) ∙ (ap (λ ws. texts list ++ ws) (sym (no_words rest (ap length (sym word_is) ∙ none))) ∙ so_far)

-- one word was read
pub one_read : (list new : List (Bor (List ℕ))) (w : Bor (List ℕ)) (rest after text : List ℕ) → 1 ≤ length w.now → w.now ≡ (first_word rest).0 → after ≡ (first_word rest).1
    → new ≡ list ++ w ∷ [] → texts list ++ words rest ≡ words text → texts new ++ words after ≡ words text
one_read list new w rest after text some word_is after_is new_is so_far =
    let next = next_word rest (subst (λ (v : List ℕ). 1 ≤ length v) word_is some) in
    let step : words rest ≡ w.now ∷ words after = next.0 ∙ (ap (λ v. v ∷ words (first_word rest).1) (sym word_is) ∙ ap (λ v. w.now ∷ words v) (sym after_is)) in
    ap (λ l. texts l ++ words after) new_is
    ∙ (ap (λ l. l ++ words after) (map-append (λ v. v.now) list (w ∷ []))
    ∙ (append_assoc (texts list) (w.now ∷ []) (words after) ∙ (ap (λ ws. texts list ++ ws) (sym step) ∙ so_far)))

-- what is left is shorter after a word
pub shorter : (w rest after : List ℕ) → 1 ≤ length w → w ≡ (first_word rest).0 → after ≡ (first_word rest).1 → length after < length rest
shorter w rest after some word_is after_is =
    let next = next_word rest (subst (λ (v : List ℕ). 1 ≤ length v) word_is some) in
    subst (λ (v : List ℕ). length v < length rest) (sym after_is) next.1

-- what the loops over words are proved by
pub ruleset words_read = (all_read, one_read, shorter)

pub ruleset values_read = (one_more, whole, refused)
