-- Rows of extents, and the page numbers that they leave free.
use Rattle.std.specs.Prelude.{◌≡◌, ℕ, zero, suc, ◌<◌, ◌≤◌, ◌==◌, ◌||◌, Bool, false, if◌then◌else◌, List, [], ◌∷◌, ◌++◌, length, slice_get, Option, Some, None, IsSome}
use Rattle.std.specs.List.{list_any}
use Rattle.std.specs.Map.{values_of}
use Rattle.newt_spec_image.specs.Pages.{Change}
use Rattle.newt_spec_image.specs.Objects.{Extent, Table}
use Rattle.newt_pagebook.specs.Batch.{names}

-- What holds of each extent: no page stands in it twice, and all of them have page numbers.
pub record IsExtent (x : Extent) : Type 0 where
  pub once : (k l number : ℕ) → slice_get x.numbers k ≡ Some number → slice_get x.numbers l ≡ Some number → k ≡ l
  pub small : (k number : ℕ) → slice_get x.numbers k ≡ Some number → number < 65536

-- no page of the object is named by the change
abbrev pub IsUnnamed : Extent → Change → Type 0
IsUnnamed x change = (k number : ℕ) → slice_get x.numbers k ≡ Some number → names change number ≡ false

-- the pages of an object, if there is one
abbrev pub numbers_of : Option Extent → List ℕ
numbers_of None = []
numbers_of (Some x) = x.numbers

-- an object, or a place kept for one, has a part on this page
abbrev pub has_number : ℕ → Option Extent → Bool
has_number number object = list_any (λ n. number == n) (numbers_of object)

-- an object has the number, or the change names it
abbrev pub is_taken : List (ℕ × Option Extent) → Change → ℕ → Bool
is_taken rows change number = list_any (has_number number) (values_of rows) || names change number

-- the numbers below a bound that are not taken, rising
unfoldable pub free_below : ℕ → List (ℕ × Option Extent) → Change → List ℕ
free_below zero rows change = []
free_below (suc n) rows change = if is_taken rows change n then free_below n rows change else free_below n rows change ++ n ∷ []

-- these are page numbers that the change does not name, and none stands twice
pub record AreNew (change : Change) (numbers : List ℕ) : Type 0 where
  pub small : (k number : ℕ) → slice_get numbers k ≡ Some number → number < 65536
  pub unnamed : (k number : ℕ) → slice_get numbers k ≡ Some number → names change number ≡ false
  pub once : (k l number : ℕ) → slice_get numbers k ≡ Some number → slice_get numbers l ≡ Some number → k ≡ l

-- no object has one of these numbers
abbrev pub AreUnused : Table → List ℕ → Type 0
AreUnused table numbers = (k number id part : ℕ) (x : Extent) → slice_get numbers k ≡ Some number → table id ≡ Some x → slice_get x.numbers part ≡ Some number → ⊥

-- the least id from `from` on that has an object
pub record IsNextIn (table : Table) (from : ℕ) (next : Option ℕ) : Type 0 where
  pub found : (id : ℕ) → next ≡ Some id → IsSome (table id) × (from ≤ id)
  pub least : (id other : ℕ) → next ≡ Some id → from ≤ other → other < id → table other ≡ None
  pub none : (other : ℕ) → next ≡ None → from ≤ other → table other ≡ None

-- one flag for each number below a bound, which is what the test says of it
pub record AreFlags (bound : ℕ) (test : ℕ → Bool) (flags : List Bool) : Type 0 where
  pub size : length flags ≡ bound
  pub each : (number : ℕ) → number < bound → slice_get flags number ≡ Some (test number)

-- the flags of these numbers were set, and no other was changed
pub record MarksAlso (test : ℕ → Bool) (old new : List Bool) : Type 0 where
  pub size : length new ≡ length old
  pub each : (number : ℕ) (flag : Bool) → slice_get old number ≡ Some flag → slice_get new number ≡ Some (flag || test number)

-- each flag that is there tells whether the change names its number
abbrev pub TellNames : Change → List Bool → Type 0
TellNames change flags = (number : ℕ) (flag : Bool) → slice_get flags number ≡ Some flag → flag ≡ names change number

-- one flag for each page number: whether an object of these rows has it
abbrev pub AreFlagsOf : List (ℕ × Option Extent) → List Bool → Type 0
AreFlagsOf rows flags = AreFlags 65536 (λ q. list_any (has_number q) (values_of rows)) flags
