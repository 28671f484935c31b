-- What is read of a payload, number by number.
use Rattle.std.specs.Prelude.{◌≡◌, ◌⊎◌, ℕ, ◌<◌, ◌≤◌, ◌==◌, ◌||◌, Bool, true, false}
use Rattle.newt_spec_image.specs.Pages.{Change}
use Rattle.newt_pagebook.specs.Batch.{names}

-- the numbers that were seen are those that the change names
abbrev pub IsSeen : (ℕ → Bool) → Change → Type 0
IsSeen seen change = (q : ℕ) → seen q ≡ names change q

-- the number is a page number that was not seen before, and now it is
pub record IsTaken (number : ℕ) (old new : ℕ → Bool) : Type 0 where
  pub small : number < 65536
  pub fresh : old number ≡ false
  pub now : (q : ℕ) → new q ≡ ((q == number) || old q)

-- or it is none, or was seen
abbrev pub IsRefused : ℕ → (ℕ → Bool) → Type 0
IsRefused number old = (65536 ≤ number) ⊎ (old number ≡ true)
