use Rattle.std.proofs.Common.{◌≡◌, ℕ, ◌+◌, ◌<◌, ◌≤◌, ◌==◌, ◌||◌, ◌∙◌, Bool, true, false, refl, ap, arith, ⊎_elim}
use Rattle.std.proofs.lemmas.Bool.{cases_eq}
use Rattle.newt_pagebook.specs.Batch.{names}
use Rattle.newt_pagebook.proofs.Changes.{names_put}
use Rattle.newt_pagebook.proofs.Tests.{equal_true, equal_false}
use Rattle.newt_pagebook.proofs.marks.marks_with_put.Goals as goal
use Rattle.newt_pagebook.proofs.marks.marks_with_put.Goals.{then-number-marks, else-number-marks}

first : (a b : Bool) → a ≡ true → (a || b) ≡ true
first true b e = refl
first false b e = cc

last : (a b : Bool) → b ≡ true → (a || b) ≡ true
last true b e = refl
last false b e = e

pub returns : goal.returns
returns c = λ change page is.
    let number = c.args.number in
    record {
      row = λ q low high. names_put change number page q ∙ ⊎_elim
          (λ (same : q ≡ number). last (names change q) (q == number) (equal_true q number same))
          (λ (other : q ≡ number → ⊥). elim c.if-number-marks.branch [
            | then-number-marks w ↦ first (names change q) (q == number) (is.row q (omega (arith, low, w.from-is)) (omega (arith, high, other, w.if-number-marks)))
            | else-number-marks w ↦ absurd (other (omega (arith, low, high, w.from-is)))
          ])
          (cases_eq q number);
      after = λ q low. names_put change number page q ∙ ap (λ (b : Bool). b || (q == number)) (is.after q (omega (arith, low, c.max.ensures)))
          ∙ equal_false q number (λ same. omega (arith, low, same, c.max.ensures));
      small = omega (arith, c.requires);
    }
