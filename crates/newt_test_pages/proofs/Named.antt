-- What a batch names, and how much it puts, once there is one put more in it.
use Rattle.std.proofs.Common.{◌≡◌, ℕ, ◌+◌, ◌≤◌, ◌==◌, ◌||◌, Bool, false, ◌∙◌, ◌∷◌, [], List, ap, length, length-append, arith}
use Rattle.newt_spec_image.specs.Pages.{Change}
use Rattle.newt_pagebook.specs.Batch.{names, puts_one}
use Rattle.newt_pagebook.proofs.Changes.{names_put}
use Rattle.newt_pagebook.proofs.Tests.{equal_false}

module _ (old new : Change) (m : ℕ) (page : List ℕ) (is : new ≡ puts_one old m page) where
  -- it names no number above those that it named
  pub none-above : (n : ℕ) → m + 1 ≤ n → names old n ≡ false → names new n ≡ false
  none-above n above none = ap (λ (change : Change). names change n) is ∙ names_put old m page n
      ∙ ap (λ (b : Bool). b || (n == m)) none ∙ equal_false n m (λ e. absurd (omega (arith, e, above)))

  pub one-more : length new.puts ≡ length old.puts + 1
  one-more = omega (arith, ap (λ (change : Change). length change.puts) is, length-append old.puts ((m, page) ∷ []))
