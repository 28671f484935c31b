-- The units of a host and the devices that none has yet, and what they mean.
use Rattle.std.specs.Prelude.{◌≡◌, ℕ, ◌/◌, ◌&&◌, Bool, true, false, cond, List, [], ◌∷◌, length, Option, Some, None, slice_get}
use Rattle.std.specs.Str.{bytes_eq}
use Rattle.newt_host.specs.Moments.{Change, Moment, bytes_after, changes, IsHistory}
use Rattle.newt_memhost.specs.declared.card.Card.{Card}
use Rattle.newt_memhost.specs.declared.card.Device.{Device}

-- the name of the device, where there is one
abbrev pub name_of : Option Card → Option (List ℕ)
name_of None = None
name_of (Some c) = cond c.attached (Some c.name.items) None

-- the number of its whole blocks, 0 where there is no unit
abbrev pub blocks_of : Option Card → ℕ
blocks_of None = 0
blocks_of (Some c) = length c.first.items / 4096

-- how many of its calls failed, 0 where there is no unit
abbrev pub faults_of : Option Card → ℕ
faults_of None = 0
faults_of (Some c) = c.faults

-- how many bytes of it were programmed, 0 where there is no unit
abbrev pub programmed_of : Option Card → ℕ
programmed_of None = 0
programmed_of (Some c) = c.programmed

-- how many bytes of it were fetched, 0 where there is no unit
abbrev pub fetched_of : Option Card → ℕ
fetched_of None = 0
fetched_of (Some c) = c.fetched

-- how many of its blocks were to be erased, 0 where there is no unit
abbrev pub erased_of : Option Card → ℕ
erased_of None = 0
erased_of (Some c) = c.erased

-- how often it was to be synced, 0 where there is no unit
abbrev pub synced_of : Option Card → ℕ
synced_of None = 0
synced_of (Some c) = c.synced

-- whether its last call failed
abbrev pub broken_of : Option Card → Bool
broken_of None = false
broken_of (Some c) = c.broken

-- the bytes that the device of a name had at first, where a unit has it, and where none has
abbrev pub attached_device : List ℕ → List Card → Option (List ℕ)
attached_device name [] = None
attached_device name (c ∷ cards) = cond (c.attached && bytes_eq c.name.items name) (Some c.first.items) (attached_device name cards)

-- the bytes of the device of a name, where it waits for a unit
abbrev pub free_device : List ℕ → List Device → Option (List ℕ)
free_device name [] = None
free_device name (d ∷ shelf) = cond (bytes_eq d.name.items name) (Some d.first.items) (free_device name shelf)

-- the first, where there is one, and otherwise the second
abbrev pub or_else : Option (List ℕ) → Option (List ℕ) → Option (List ℕ)
or_else None o = o
or_else (Some x) o = Some x

-- the bytes that the device of a name had at first, whether a unit has it or not
abbrev pub device_of : List Card → List Device → List ℕ → Option (List ℕ)
device_of cards shelf name = or_else (attached_device name cards) (free_device name shelf)

-- what has happened to a unit is what it holds: nothing without a device, and a history of its
-- bytes with one
abbrev pub StandsAs : Bool → Card → List Change → Type 0
StandsAs true c done = (bytes_after done ≡ c.held.items) × IsHistory (length c.first.items) done
StandsAs false c done = (length done ≡ 0) × (length c.first.items ≡ 0)

-- the same where there may be no unit: then nothing has happened
abbrev pub Stands : Option Card → List Change → Type 0
Stands None done = length done ≡ 0
Stands (Some c) done = StandsAs c.attached c done

-- Each unit holds what has happened to it.
pub record IsTold (cards : List Card) (now : Moment) : Type 0 where
  pub each : (u : ℕ) → Stands (slice_get cards u) (changes u now)

-- no device is attached, and nothing was counted
pub record IsEmpty (card : Card) : Type 0 where
  pub attached : card.attached ≡ false
  pub first : card.first.items ≡ []
  pub faults : card.faults ≡ 0
  pub programmed : card.programmed ≡ 0
  pub fetched : card.fetched ≡ 0
  pub erased : card.erased ≡ 0
  pub synced : card.synced ≡ 0
  pub broken : card.broken ≡ false
