-- Lines of a text that comes piece by piece.
use Rattle.std.proofs.Common.{◌≡◌, ◌≢◌, ℕ, suc, true, false, cond, eqb, List, [], ◌∷◌, ◌++◌, refl, sym, ◌∙◌, ap, append_assoc, arith}
use Rattle.std.proofs.lemmas.List.{append-nil}
use Rattle.newt_script_session.specs.Lines.{HasNoEnd, ended_lines, unended}

no_end_first : (b : ℕ) (line : List ℕ) → HasNoEnd (b ∷ line) → eqb b 10 ≡ false
no_end_first b line h = let apart : b ≢ 10 = h 0 (omega arith) in grind arith

no_end_rest : (b : ℕ) (line : List ℕ) → HasNoEnd (b ∷ line) → HasNoEnd line
no_end_rest b line h = λ k lt. h (suc k) (omega arith)

-- the first line ends
pub cut_at : (begun line more : List ℕ) → HasNoEnd line → ended_lines begun (line ++ 10 ∷ more) ≡ (begun ++ line) ∷ ended_lines [] more
unfolding ended_lines
cut_at begun [] more h = ap (λ t. t ∷ ended_lines [] more) (sym (append-nil begun))
cut_at begun (b ∷ line) more h =
    rw (no_end_first b line h) (cut_at (begun ++ b ∷ []) line more (no_end_rest b line h) ∙ ap (λ t. t ∷ ended_lines [] more) (append_assoc begun (b ∷ []) line))

pub left_at : (begun line more : List ℕ) → HasNoEnd line → unended begun (line ++ 10 ∷ more) ≡ unended [] more
unfolding unended
left_at begun [] more h = refl
left_at begun (b ∷ line) more h = rw (no_end_first b line h) (left_at (begun ++ b ∷ []) line more (no_end_rest b line h))

-- no line ends
pub cut_none : (begun text : List ℕ) → HasNoEnd text → ended_lines begun text ≡ []
unfolding ended_lines
cut_none begun [] h = refl
cut_none begun (b ∷ text) h = rw (no_end_first b text h) (cut_none (begun ++ b ∷ []) text (no_end_rest b text h))

pub left_none : (begun text : List ℕ) → HasNoEnd text → unended begun text ≡ begun ++ text
unfolding unended
left_none begun [] h = sym (append-nil begun)
left_none begun (b ∷ text) h = rw (no_end_first b text h) (left_none (begun ++ b ∷ []) text (no_end_rest b text h) ∙ append_assoc begun (b ∷ []) text)

-- a text goes on
pub cut_append : (begun text more : List ℕ) → ended_lines begun (text ++ more) ≡ ended_lines begun text ++ ended_lines (unended begun text) more
unfolding ended_lines unended
cut_append begun [] more = refl
cut_append begun (b ∷ text) more =
    elim (eqb b 10) as (λ v. cond v (begun ∷ ended_lines [] (text ++ more)) (ended_lines (begun ++ b ∷ []) (text ++ more))
    ≡ cond v (begun ∷ ended_lines [] text) (ended_lines (begun ++ b ∷ []) text) ++ ended_lines (cond v (unended [] text) (unended (begun ++ b ∷ []) text)) more) [
      | true ↦ ap (λ t. begun ∷ t) (cut_append [] text more)
      | false ↦ cut_append (begun ++ b ∷ []) text more
    ]

pub left_append : (begun text more : List ℕ) → unended begun (text ++ more) ≡ unended (unended begun text) more
unfolding unended
left_append begun [] more = refl
left_append begun (b ∷ text) more =
    elim (eqb b 10) as (λ v. cond v (unended [] (text ++ more)) (unended (begun ++ b ∷ []) (text ++ more))
    ≡ unended (cond v (unended [] text) (unended (begun ++ b ∷ []) text)) more) [
      | true ↦ left_append [] text more
      | false ↦ left_append (begun ++ b ∷ []) text more
    ]
