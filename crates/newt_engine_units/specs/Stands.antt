-- What the units stand for.
use Rattle.std.specs.Prelude.{◌≡◌, ◌≢◌, ℕ, ◌+◌, ◌≤◌, Bool, true, false, IsTrue, IsSome, List, [], ◌∷◌, length, slice_get, Option, Some, None, is_some, cond}
use Rattle.newt_host.specs.Moments.{IsDurable}
use Rattle.newt_host.specs.Outside.{Outside}
use Rattle.newt_spec_store.specs.Store.{Store}
use Rattle.newt_spec_world.specs.World.{World}
use Rattle.newt_laws_answers.specs.WorldAt.{world_at}
use Rattle.newt_engine_units.specs.declared.units.Slot.{Slot}
use Rattle.newt_engine_units.specs.declared.units.Units.{Units}

-- the card that is mounted on a unit
abbrev pub card_of : {C : Type 0} → Option (Slot C) → Option C
card_of None = None
card_of (Some slot) = slot.card

abbrev pub card_at : {C : Type 0} → List (Slot C) → ℕ → Option C
card_at slots u = card_of (slice_get slots u)

-- a unit without a card, of which no sync is due
abbrev pub unmounted : {C : Type 0} → Bool → Slot C
unmounted attached = record { attached = attached; due = false; card = None }

-- a card is mounted on a unit
abbrev pub mounted_in : {C : Type 0} → List (Slot C) → ℕ → Bool
mounted_in slots u = is_some (card_at slots u)

-- a sync of a unit is due: its device has failed since the last one
abbrev pub due_of : {C : Type 0} → Option (Slot C) → Bool
due_of None = false
due_of (Some slot) = slot.due

abbrev pub due_in : {C : Type 0} → List (Slot C) → ℕ → Bool
due_in slots u = due_of (slice_get slots u)

-- the card that is mounted on a unit of these, whether one is, whether a sync is due, and the default unit
abbrev pub card_on : {C : Type 0} → Units C → ℕ → Option C
card_on units u = card_at units.slots.items u

abbrev pub is_mounted : {C : Type 0} → Units C → ℕ → Bool
is_mounted units u = mounted_in units.slots.items u

abbrev pub is_due : {C : Type 0} → Units C → ℕ → Bool
is_due units u = due_in units.slots.items u

abbrev pub default_of : {C : Type 0} → Units C → Option ℕ
default_of units = units.default

-- how many cards are mounted
abbrev pub card_count : {C : Type 0} → List (Slot C) → ℕ
card_count [] = 0
card_count (slot ∷ slots) = cond (is_some slot.card) (1 + card_count slots) (card_count slots)

-- at most four cards are mounted
abbrev pub AreFew : {C : Type 0} → Units C → Type 0
AreFew units = card_count units.slots.items ≤ 4

-- the world that units and devices stand for, by what an image is read as; of a unit of which a sync is due it is not known what it holds
abbrev pub world_of : {C : Type 0} → (List ℕ → Option Store) → Units C → Outside → World
world_of reads units outside = world_at reads (due_in units.slots.items) (mounted_in units.slots.items) units.default units.minute outside

-- what holds of every host that is told of
pub record Eight (outside : Outside) : Type 0 where
  pub eight : (u : ℕ) → 8 ≤ u → outside.card u ≡ None
  pub none : (u : ℕ) → outside.card u ≡ None → outside.blocks u ≡ 0

module _ {C : Type 0} (place : C → ℕ) (stands : Bool → C → Outside → Type 0) where
  -- The units stand for a host: there are eight, each knows whether it has a device, at most four cards are mounted, each stands on its own unit, the default
  -- one is mounted, and none is where there is no default, and where no sync is due nothing is pending. Of a unit with a card none is due.
  pub record Stands (told : Bool) (units : Units C) (outside : Outside) : Type 0 where
    pub eight : length units.slots.items ≡ 8
    pub few : AreFew units
    pub attached : (u : ℕ) (slot : Slot C) → slice_get units.slots.items u ≡ Some slot → slot.attached ≡ is_some (outside.card u)
    pub cards : (u : ℕ) (card : C) → card_at units.slots.items u ≡ Some card → stands told card outside × (place card ≡ u)
    pub default : (u : ℕ) → units.default ≡ Some u → mounted_in units.slots.items u ≡ true
    pub none : units.default ≡ None → (u : ℕ) → mounted_in units.slots.items u ≡ false
    pub sure : (u : ℕ) → due_in units.slots.items u ≡ true → mounted_in units.slots.items u ≡ false
    pub durable : IsTrue told → (u : ℕ) → IsSome (outside.card u) → due_in units.slots.items u ≡ false → IsDurable u outside.now

  -- The same but for one unit, whose device has failed: nothing is said of its card, nor of what is pending there.
  pub record StandsBut (but : ℕ) (told : Bool) (units : Units C) (outside : Outside) : Type 0 where
    pub eight : length units.slots.items ≡ 8
    pub few : AreFew units
    pub attached : (u : ℕ) (slot : Slot C) → slice_get units.slots.items u ≡ Some slot → slot.attached ≡ is_some (outside.card u)
    pub cards : (u : ℕ) (card : C) → u ≢ but → card_at units.slots.items u ≡ Some card → stands told card outside × (place card ≡ u)
    pub default : (u : ℕ) → units.default ≡ Some u → mounted_in units.slots.items u ≡ true
    pub none : units.default ≡ None → (u : ℕ) → mounted_in units.slots.items u ≡ false
    pub sure : (u : ℕ) → due_in units.slots.items u ≡ true → mounted_in units.slots.items u ≡ false
    pub durable : IsTrue told → (u : ℕ) → u ≢ but → IsSome (outside.card u) → due_in units.slots.items u ≡ false → IsDurable u outside.now
