-- Which page numbers the objects have, as flags that are kept from one plan to the next.
use Rattle.std.specs.Prelude.{◌≡◌, ◌≢◌, ℕ, ◌/◌, ◌<◌, ◌&&◌, Bool, true, not, List, length, slice_get, Option, Some, IfSome}
use Rattle.std.specs.Option.{option_flatten}
use Rattle.newt_spec_image.specs.Objects.{Extent, Table}
use Rattle.newt_objects.specs.Extents.{has_number}
use Rattle.newt_objects.specs.Headers.{Rows, held_in}
use Rattle.newt_objects.specs.Plans.{ArePlaced}
use Rattle.newt_objects.specs.declared.objects.Plan.{Plan}
use Rattle.newt_objects.specs.declared.taken.Taken.{Taken}

-- the flags of these numbers were cleared, and no other was changed
pub record ClearsAlso (test : ℕ → Bool) (old new : List Bool) : Type 0 where
  pub size : length new ≡ length old
  pub each : (number : ℕ) (flag : Bool) → slice_get old number ≡ Some flag → slice_get new number ≡ Some (flag && not (test number))

-- one flag for each page number: whether an object has it; and no number is had by two
pub record IsLive (table : Table) (flags : List Bool) : Type 0 where
  pub size : length flags ≡ 65536
  pub marked : (id number : ℕ) → has_number number (table id) ≡ true → slice_get flags number ≡ Some true
  pub real : (number : ℕ) → slice_get flags number ≡ Some true → (id : ℕ) × (has_number number (table id) ≡ true)
  pub apart : (id other number : ℕ) → has_number number (table id) ≡ true → has_number number (table other) ≡ true → id ≡ other

-- the group of a page number, of 32 of them
abbrev pub group_of : ℕ → ℕ
group_of number = number / 32

-- all numbers of a group are had
abbrev pub IsFull : List Bool → ℕ → Type 0
IsFull flags group = (number : ℕ) → group_of number ≡ group → slice_get flags number ≡ Some true

-- each group that is said to be full is: it is below the bound, or has a flag
pub record AreFull (taken : Taken) : Type 0 where
  pub below : (group : ℕ) → group < taken.low → IsFull taken.flags.items group
  pub marked : (group : ℕ) → slice_get taken.full.items group ≡ Some true → IsFull taken.flags.items group

-- what is known of the numbers that objects have: the flags, and groups of which all are had
pub record IsTaken (table : Table) (taken : Taken) : Type 0 where
  pub live : IsLive table taken.flags.items
  pub full : AreFull taken

-- the same, where it is known
abbrev pub IsKnown : Table → Option Taken → Type 0
IsKnown table taken = IfSome taken (λ t. IsTaken table t)

-- the tables are the same but for one id
abbrev pub AreSameBut : ℕ → Table → Table → Type 0
AreSameBut id table more = (other : ℕ) → other ≢ id → more other ≡ table other

-- what is said of the objects is said of them as well when one of them is no longer there but here
abbrev pub Follows : Option Extent → Option Extent → (Table → Type 0) → (Table → Type 0) → Type 0
Follows was next Before After = (table more : Table) (id : ℕ) → table id ≡ was → more id ≡ next → AreSameBut id table more → Before table → After more

-- what holds of all objects
pub record AreSound (rows : Rows) (plans : List Plan) (taken : Option Taken) : Type 0 where
  pub placed : ArePlaced rows plans
  pub known : IsKnown (held_in rows) taken

-- the table of a list of rows, by their places
abbrev pub row_at : List (Option Extent) → Table
row_at rows i = option_flatten (slice_get rows i)
