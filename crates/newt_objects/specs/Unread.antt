-- The numbers of a book that were read already.
use Rattle.std.specs.Prelude.{◌≡◌, ℕ, ◌<◌, true, List, slice_get, Some}
use Rattle.std.specs.FinSet as set
use Rattle.newt_pagebook.specs.Book.{Numbers}

-- each is a number of the book and below this one, and none stands twice
pub record AreSomeBelow (from : ℕ) (numbers : Numbers) (read : List ℕ) : Type 0 where
  pub live : (k number : ℕ) → slice_get read k ≡ Some number → set.contains numbers number ≡ true
  pub below : (k number : ℕ) → slice_get read k ≡ Some number → number < from
  pub once : (k l number : ℕ) → slice_get read k ≡ Some number → slice_get read l ≡ Some number → k ≡ l
