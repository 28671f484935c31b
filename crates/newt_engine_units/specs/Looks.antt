-- What is known of the units in memory.
use Rattle.std.specs.Prelude.{◌≡◌, ℕ, ◌≤◌, nat_lt, Bool, true, false, not, ◌||◌, List, [], ◌∷◌, slice_get, Option, Some, None, is_none, option_map, option_and_then, Result, Ok, Err}
use Rattle.newt_base.specs.declared.Refusal.TheVariants.{Unit as NoUnit, Blocks, Mounted, Notmounted, Soup as NoSoup}
use Rattle.newt_base.specs.Refusals.{Checks}
use Rattle.newt_spec_store.specs.Store.{Store, soup_named}
use Rattle.newt_store_change.specs.declared.fault.StoreFault.{StoreFault}
use Rattle.newt_store_change.specs.Faults.{RefusesBy}
use Rattle.newt_engine_units.specs.declared.units.Slot.{Slot}
use Rattle.newt_engine_units.specs.declared.units.Units.{Units}
use Rattle.newt_engine_units.specs.Stands.{card_at, is_mounted, mounted_in}

-- a unit has a device
abbrev pub has_device : {C : Type 0} → Option (Slot C) → Bool
has_device None = false
has_device (Some slot) = slot.attached

abbrev pub attached_in : {C : Type 0} → List (Slot C) → ℕ → Bool
attached_in slots u = has_device (slice_get slots u)

abbrev pub is_attached : {C : Type 0} → Units C → ℕ → Bool
is_attached units u = attached_in units.slots.items u

-- whether unit and card are there
abbrev pub known_unit : {C : Type 0} → List (Slot C) → ℕ → Checks
known_unit slots u = (NoUnit, not (attached_in slots u)) ∷ (Notmounted, not (mounted_in slots u)) ∷ []

-- a card is mounted on a unit, or the first that is not there is answered
abbrev pub FindsUnit : {C T : Type 0} → Units C → ℕ → Result T StoreFault → Type 0
FindsUnit units u (Ok _) = is_mounted units u ≡ true
FindsUnit units u (Err fault) = RefusesBy (known_unit units.slots.items u) fault

-- whether the unit has a device with banks, and no card is mounted there
abbrev pub known_ready : {C : Type 0} → List (Slot C) → (blocks : ℕ) → ℕ → Checks
known_ready slots blocks u = (NoUnit, not (attached_in slots u)) ∷ (Blocks, nat_lt blocks 13 || nat_lt 4099 blocks) ∷ (Mounted, mounted_in slots u) ∷ []

-- a unit with a device that may be opened or formatted
pub record IsFree {C : Type 0} (units : Units C) (blocks u : ℕ) : Type 0 where
  pub attached : is_attached units u ≡ true
  pub enough : 13 ≤ blocks
  pub not_too_many : blocks ≤ 4099
  pub free : is_mounted units u ≡ false

abbrev pub FindsReady : {C : Type 0} → Units C → (blocks : ℕ) → ℕ → Result (Unit {0}) StoreFault → Type 0
FindsReady units blocks u (Ok _) = IsFree units blocks u
FindsReady units blocks u (Err fault) = RefusesBy (known_ready units.slots.items blocks u) fault

module _ {C : Type 0} (soups : C → Store) where
  -- the signature of a soup of the card that is mounted on a unit
  abbrev pub known_soup : List (Slot C) → ℕ → List ℕ → Option ℕ
  known_soup slots u name = option_and_then (λ card. option_map (λ p. p.sig) (soup_named name (soups card))) (card_at slots u)

  abbrev pub soup_on : Units C → ℕ → List ℕ → Option ℕ
  soup_on units u name = known_soup units.slots.items u name

  -- the id that the next entry of a soup of the card that is mounted on a unit gets
  abbrev pub known_uid : List (Slot C) → ℕ → List ℕ → Option ℕ
  known_uid slots u name = option_and_then
      (λ card. option_map (λ p. p.next_uid) (soup_named name (soups card))) (card_at slots u)

  abbrev pub next_uid_on : Units C → ℕ → List ℕ → Option ℕ
  next_uid_on units u name = known_uid units.slots.items u name

  -- whether unit, card and soup are there
  abbrev pub known_checks : List (Slot C) → ℕ → List ℕ → Checks
  known_checks slots u name = (NoUnit, not (attached_in slots u)) ∷ (Notmounted, not (mounted_in slots u)) ∷ (NoSoup, is_none (known_soup slots u name)) ∷ []

  -- the signature of a soup that is looked up, or the first that is not there
  abbrev pub LooksUp : Units C → ℕ → List ℕ → Result ℕ StoreFault → Type 0
  LooksUp units u name (Ok sig) = soup_on units u name ≡ Some sig
  LooksUp units u name (Err fault) = RefusesBy (known_checks units.slots.items u name) fault

  -- whether both units, cards and soups are there
  abbrev pub known_both : List (Slot C) → ℕ → List ℕ → ℕ → List ℕ → Checks
  known_both slots u name v target =
      (NoUnit, not (attached_in slots u) || not (attached_in slots v)) ∷ (Notmounted, not (mounted_in slots u) || not (mounted_in slots v))
      ∷ (NoSoup, is_none (known_soup slots u name) || is_none (known_soup slots v target)) ∷ []

  -- the signatures of two soups that are looked up, or the first that is not there
  abbrev pub LooksUpBoth : Units C → ℕ → List ℕ → ℕ → List ℕ → Result (ℕ × ℕ) StoreFault → Type 0
  LooksUpBoth units u name v target (Ok (a, b)) = (soup_on units u name ≡ Some a) × (soup_on units v target ≡ Some b)
  LooksUpBoth units u name v target (Err fault) = RefusesBy (known_both units.slots.items u name v target) fault
