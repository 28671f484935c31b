-- Blanks at the ends of a text.
use Rattle.std.proofs.Common.{◌≡◌, ℕ, suc, ◌-◌, ◌+◌, ◌<◌, ◌≤◌, true, false, List, [], ◌∷◌, ◌++◌, length, take, get_or, reverse, refl, sym, ◌∙◌, ap, arith}
use Rattle.std.proofs.Math.Seq.{take-length}
use Rattle.std.proofs.lemmas.List.{reverse-append, reverse-reverse, take_more}
use Rattle.std.specs.List.{prefix_len}
use Rattle.newt_spec_script.specs.Words.{is_blank, skip_blanks}

-- ---- the first byte

pub skip_blank : (byte : ℕ) (rest : List ℕ) → is_blank byte ≡ true → skip_blanks (byte ∷ rest) ≡ skip_blanks rest
skip_blank byte rest blank = rw (blank, add_comm-one (prefix_len is_blank rest)) refl
  where
    add_comm-one : (n : ℕ) → 1 + n ≡ suc n
    add_comm-one n = omega arith

pub skip_other : (byte : ℕ) (rest : List ℕ) → is_blank byte ≡ false → skip_blanks (byte ∷ rest) ≡ byte ∷ rest
skip_other byte rest other = rw other refl

-- ---- the last byte

-- a text that is not empty is its front and its last byte
pub front_and_last : (text : List ℕ) → 1 ≤ length text → text ≡ take (length text - 1) text ++ get_or text (length text - 1) 0 ∷ []
front_and_last text some =
    let last : length text - 1 < length text = omega arith in
    let all : length text - 1 + 1 ≡ length text = omega arith in
    sym (take-length text) ∙ (ap (λ n. take n text) (sym all) ∙ take_more text (length text - 1) 0 last)

backwards : (text : List ℕ) → 1 ≤ length text → reverse text ≡ get_or text (length text - 1) 0 ∷ reverse (take (length text - 1) text)
backwards text some =
    ap reverse (front_and_last text some) ∙ reverse-append (take (length text - 1) text) (get_or text (length text - 1) 0 ∷ [])

-- a text without the blanks at its end
abbrev pub last_cut : List ℕ → List ℕ
last_cut text = reverse (skip_blanks (reverse text))

-- a blank at the end is left out
pub without_blank : (text : List ℕ) → 1 ≤ length text → is_blank (get_or text (length text - 1) 0) ≡ true → last_cut (take (length text - 1) text) ≡ last_cut text
without_blank text some blank =
    ap reverse (sym (ap skip_blanks (backwards text some) ∙ skip_blank (get_or text (length text - 1) 0) (reverse (take (length text - 1) text)) blank))

-- a text that ends with another byte is left as it is
pub without_none : (text : List ℕ) → 1 ≤ length text → is_blank (get_or text (length text - 1) 0) ≡ false → text ≡ last_cut text
without_none text some other =
    sym (ap reverse (ap skip_blanks (backwards text some) ∙ (skip_other (get_or text (length text - 1) 0) (reverse (take (length text - 1) text)) other ∙ sym (backwards text some)))
    ∙ reverse-reverse text)

pub without_empty : (text : List ℕ) → length text < 1 → text ≡ last_cut text
without_empty [] none = refl
without_empty (byte ∷ rest) none = absurd (omega arith)
