-- The byte 13 at the end of a line.
use Rattle.std.proofs.Common.{◌≡◌, ◌≢◌, ℕ, ◌-◌, ◌<◌, ◌≤◌, Bool, true, false, ◌==◌, cond, List, [], ◌∷◌, ◌++◌, length, take, get_or, refl, sym, ◌∙◌, ap, arith}
use Rattle.std.proofs.lemmas.Bool.{ne_eqb, eq-eqb}
use Rattle.newt_spec_script.specs.Script.{without_return}
use Rattle.newt_script_words.proofs.Trimming.{front_and_last}

-- a text and one byte more
ends_in : (xs : List ℕ) (x : ℕ) → without_return (xs ++ x ∷ []) ≡ cond (x == 13) xs (xs ++ x ∷ [])
ends_in [] x = go (x == 13) refl
  where
    go : (b : Bool) → (x == 13) ≡ b → without_return (x ∷ []) ≡ cond (x == 13) [] (x ∷ [])
    go true is = rw (is, without_return) refl
    go false is = rw (is, without_return) refl
ends_in (c ∷ []) x = ap (λ text. c ∷ text) (ends_in [] x) ∙ go (x == 13)
  where
    go : (b : Bool) → (c ∷ cond b [] (x ∷ [])) ≡ cond b (c ∷ []) (c ∷ x ∷ [])
    go true = refl
    go false = refl
ends_in (c ∷ d ∷ cs) x = ap (λ text. c ∷ text) (ends_in (d ∷ cs) x) ∙ go (x == 13)
  where
    go : (b : Bool) → (c ∷ cond b (d ∷ cs) (d ∷ cs ++ x ∷ [])) ≡ cond b (c ∷ d ∷ cs) (c ∷ d ∷ cs ++ x ∷ [])
    go true = refl
    go false = refl

last_of : (text : List ℕ) → 1 ≤ length text → without_return text ≡ cond (get_or text (length text - 1) 0 == 13) (take (length text - 1) text) text
last_of text some =
    let front = take (length text - 1) text in
    let last = get_or text (length text - 1) 0 in
    ap without_return (front_and_last text some) ∙ (ends_in front last ∙ ap (λ rest. cond (last == 13) front rest) (sym (front_and_last text some)))

pub cut : (text : List ℕ) → 1 ≤ length text → get_or text (length text - 1) 0 ≡ 13 → take (length text - 1) text ≡ without_return text
cut text some is = sym (last_of text some ∙ ap (λ b. cond b (take (length text - 1) text) text) (eq-eqb (get_or text (length text - 1) 0) 13 is))

pub uncut : (text : List ℕ) → 1 ≤ length text → get_or text (length text - 1) 0 ≢ 13 → text ≡ without_return text
uncut text some not = sym (last_of text some ∙ ap (λ b. cond b (take (length text - 1) text) text) (ne_eqb (get_or text (length text - 1) 0) 13 not))

pub empty : (text : List ℕ) → length text < 1 → text ≡ without_return text
empty [] none = refl
empty (c ∷ cs) none = absurd (omega arith)

-- what a line without its return is proved by
pub ruleset returns = (cut, uncut, empty)
