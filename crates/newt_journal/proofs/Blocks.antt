-- Blocks that stay as they were.
use Rattle.std.proofs.Common.{◌≡◌, ◌≢◌, inl, inr, ℕ, ◌+◌, ◌-◌, ◌*◌, ◌≤◌, List, take, drop, sym, ◌∙◌, ap, arith}
use Rattle.std.proofs.lemmas.Bool.{cases_lt}
use Rattle.std.proofs.lemmas.List.{drop-drop}
use Rattle.newt_host.specs.Moments.{SameOutside}
use Rattle.newt_journal.specs.Turns.{IsSameBlock}
use Rattle.newt_journal.proofs.Erasing.{part-before}

pub drop-after : {at n : ℕ} {a b : List ℕ} → SameOutside at n a b → (from : ℕ) → at + n ≤ from → drop from b ≡ drop from a
drop-after {at = at} {n = n} {a = a} {b = b} s from past =
    let more = from - (at + n) in
    let there : (at + n) + more ≡ from = omega (arith, past) in
    ap (λ (i : ℕ). drop i b) (sym there) ∙ sym (drop-drop more (at + n) b) ∙ ap (λ (l : List ℕ). drop more l) s.after ∙ drop-drop more (at + n) a ∙ ap (λ (i : ℕ). drop i a) there

-- all blocks but one
pub block-same : (b block : ℕ) {a left : List ℕ} → b ≢ block → SameOutside (block * 4096) 4096 a left
    → IsSameBlock b a left
block-same b block differ s = elim (cases_lt b block) [
  | inl before ↦ part-before s (b * 4096) 4096 (omega (arith, before))
  | inr after ↦ ap (λ (l : List ℕ). take 4096 l)
      (drop-after s (b * 4096) (omega (arith, after, differ)))
]
