-- The devices of names. It is this project's own that the name at a place goes to the unit of that
-- number.
use Rattle.std.specs.Prelude.{◌≡◌, ℕ, Bool, IsTrue, List, [], ◌∷◌, slice_get, Option, Some, None, option_map}
use Rattle.newt_host.specs.Moments.{Always, Attached, changes, output, taken}
use Rattle.newt_host.specs.Outside.{Outside, SameCounts}

-- no two of the names are alike
abbrev pub AreDistinct : List (List ℕ) → Type 0
AreDistinct names = (i j : ℕ) (name : List ℕ) → slice_get names i ≡ Some name → slice_get names j ≡ Some name → i ≡ j

-- the name at a place, if there is a device of it
abbrev pub if_known : Outside → Option (List ℕ) → Option (List ℕ)
if_known outside None = None
if_known outside (Some name) = option_map (λ bytes. name) (outside.devices name)

-- The names have been attached, each to the unit of its place, and nothing else has happened.
pub record AreAttached (told : Bool) (names : List (List ℕ)) (old new : Outside) : Type 0 where
  -- no unit has another device than that of the name at its place, even where the host tells no
  -- bytes
  pub own : (unit : ℕ) (name : List ℕ) → new.card unit ≡ Some name → slice_get names unit ≡ Some name
  -- what each unit has
  pub cards : IsTrue told → (unit : ℕ) → new.card unit ≡ if_known old (slice_get names unit)
  -- it reads as the device was held, and that is all that has happened to it
  pub begins : IsTrue told → (unit : ℕ) (name : List ℕ) → new.card unit ≡ Some name
      → (bytes : List ℕ) × (old.devices name ≡ Some bytes) × (changes unit new.now ≡ Attached bytes ∷ [])
  -- nothing was read of the input meanwhile, and nothing was put out
  pub unread : IsTrue told → Always (λ m. taken m ≡ taken old.now) old.now new.now
  pub quiet : IsTrue told → output new.now ≡ output old.now
  pub input : new.input ≡ old.input
  pub in_faults : new.in_faults ≡ old.in_faults
  pub out_faults : new.out_faults ≡ old.out_faults
  pub counts : SameCounts old new
