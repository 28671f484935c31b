-- The pieces of a part of an index between its colons.
use Rattle.std.proofs.Common.{◌≡◌, ℕ, suc, ◌+◌, ◌-◌, ◌<◌, ◌≤◌, Bool, true, false, ◌==◌, List, [], ◌∷◌, length, take, drop, Option, Some, None, cond, refl, sym, ◌∙◌, ap, arith}
use Rattle.std.specs.Prelude.{nat_lt}
use Rattle.std.specs.List.{position_or_len, position}
use Rattle.std.proofs.lemmas.Bool.{ltb-true, ltb-false}
use Rattle.std.proofs.lemmas.List.{take_all, length-drop}
use Rattle.newt_spec_script.specs.Words.{split_at, part_of, part}

abbrev pub is_colon : ℕ → Bool
is_colon c = c == 58

abbrev place : List ℕ → ℕ
place = position_or_len is_colon

add-one : (n : ℕ) → 1 + n ≡ suc n
add-one n = omega arith

suc-one : (n : ℕ) → suc n + 1 ≡ suc (n + 1)
suc-one n = omega arith

-- at the first colon
pub cut : (text : List ℕ) → place text < length text → split_at 58 text ≡ take (place text) text ∷ split_at 58 (drop (place text + 1) text)
cut [] within = absurd (omega (arith, within))
cut (c ∷ cs) within = go (cut cs) (is_colon c) refl
  where
    go : (place cs < length cs → split_at 58 cs ≡ take (place cs) cs ∷ split_at 58 (drop (place cs + 1) cs)) → (b : Bool) → is_colon c ≡ b
        → split_at 58 (c ∷ cs) ≡ take (place (c ∷ cs)) (c ∷ cs) ∷ split_at 58 (drop (place (c ∷ cs) + 1) (c ∷ cs))
    go rest true is = rw (is, split_at) refl
    go rest false is =
        let is_at : place (c ∷ cs) ≡ suc (place cs) = rw is (add-one (place cs)) in
        rw (is_at, is, split_at, suc-one (place cs), rest (omega (arith, is_at, within))) refl

-- where there is none
pub uncut : (text : List ℕ) → length text ≤ place text → split_at 58 text ≡ text ∷ []
uncut [] none = refl
uncut (c ∷ cs) none = go (uncut cs) (is_colon c) refl
  where
    zero_at : is_colon c ≡ true → place (c ∷ cs) ≡ 0
    zero_at e = rw e refl

    go : (length cs ≤ place cs → split_at 58 cs ≡ cs ∷ []) → (b : Bool) → is_colon c ≡ b → split_at 58 (c ∷ cs) ≡ (c ∷ cs) ∷ []
    go rest true is = absurd (omega (arith, zero_at is, none))
    go rest false is =
        let is_at : place (c ∷ cs) ≡ suc (place cs) = rw is (add-one (place cs)) in
        rw (is, split_at, rest (omega (arith, is_at, none))) refl

-- ---- as `position` finds it

found : (text : List ℕ) (at : ℕ) → Some at ≡ position is_colon text → (place text < length text) × (at ≡ place text)
found text at is = go (nat_lt (place text) (length text)) refl is
  where
    go : (l : Bool) → nat_lt (place text) (length text) ≡ l → Some at ≡ cond l (Some (place text)) None → (place text < length text) × (at ≡ place text)
    go true less e = (ltb-true (place text) (length text) less, cc)
    go false less e = cc

pub within : (text : List ℕ) (at : ℕ) → Some at ≡ position is_colon text → at < length text
within text at is = let f = found text at is in omega (arith, f.0, f.1)

pub cut_at : (text : List ℕ) (at : ℕ) → Some at ≡ position is_colon text
    → split_at 58 text ≡ take at text ∷ split_at 58 (take (length text - (at + 1)) (drop (at + 1) text))
cut_at text at is =
    let f = found text at is in
    let rest : drop (at + 1) text ≡ take (length text - (at + 1)) (drop (at + 1) text) =
    sym (take_all (length text - (at + 1)) (drop (at + 1) text) (omega (arith, length-drop (at + 1) text))) in
    cut text f.0 ∙ (ap (λ n. take n text ∷ split_at 58 (drop (n + 1) text)) (sym f.1) ∙ ap (λ r. take at text ∷ split_at 58 r) rest)

pub no_cut : (text : List ℕ) → None ≡ position is_colon text → split_at 58 text ≡ text ∷ []
no_cut text is = go (nat_lt (place text) (length text)) refl is
  where
    go : (l : Bool) → nat_lt (place text) (length text) ≡ l → ◌≡◌ {A = Option ℕ} None (cond l (Some (place text)) None) → split_at 58 text ≡ text ∷ []
    go true less e = cc
    go false less e = uncut text (ltb-false (place text) (length text) less)

-- ---- parts

pub one_piece : (text : List ℕ) → split_at 58 text ≡ text ∷ [] → part text ≡ None
one_piece text is = ap part_of is

pub two_pieces : (text a rest : List ℕ) → split_at 58 text ≡ a ∷ split_at 58 rest → split_at 58 rest ≡ rest ∷ [] → part text ≡ None
two_pieces text a rest is last = ap part_of (is ∙ ap (λ ps. a ∷ ps) last)

pub three : (text a rest b c : List ℕ) → split_at 58 text ≡ a ∷ split_at 58 rest → split_at 58 rest ≡ b ∷ split_at 58 c → split_at 58 c ≡ c ∷ [] → split_at 58 text ≡ a ∷ b ∷ c ∷ []
three text a rest b c is more last = is ∙ ap (λ ps. a ∷ ps) (more ∙ ap (λ ps. b ∷ ps) last)

four : (a b c rest : List ℕ) → part_of (a ∷ b ∷ c ∷ split_at 58 rest) ≡ None
four a b c rest = go (nat_lt (place rest) (length rest)) refl
  where
    go : (l : Bool) → nat_lt (place rest) (length rest) ≡ l → part_of (a ∷ b ∷ c ∷ split_at 58 rest) ≡ None
    go true is = ap (λ ps. part_of (a ∷ b ∷ c ∷ ps)) (cut rest (ltb-true (place rest) (length rest) is))
    go false is = ap (λ ps. part_of (a ∷ b ∷ c ∷ ps)) (uncut rest (ltb-false (place rest) (length rest) is))

pub too_many : (text a rest b rest' c more : List ℕ) → split_at 58 text ≡ a ∷ split_at 58 rest → split_at 58 rest ≡ b ∷ split_at 58 rest' → split_at 58 rest' ≡ c ∷ split_at 58 more → part text ≡ None
too_many text a rest b rest' c more is next last = ap part_of (is ∙ ap (λ ps. a ∷ ps) (next ∙ ap (λ ps. b ∷ ps) last)) ∙ four a b c more

-- a part of three pieces
pub part_is : (text a b c : List ℕ) → split_at 58 text ≡ a ∷ b ∷ c ∷ [] → part text ≡ part_of (a ∷ b ∷ c ∷ [])
part_is text a b c is = ap part_of is

-- what the pieces of a part are proved by
pub ruleset pieces = (one_piece, two_pieces, three, too_many)

pub ruleset cuts = (cut_at, within, no_cut)
