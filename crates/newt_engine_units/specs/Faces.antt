-- What is known of the mounted stores from their cards. All of it is this project's own.
use Rattle.std.specs.Prelude.{◌≡◌, ℕ, zero, suc, nat_le, cond, ◌==◌, Bool, true, IsTrue, List, [], ◌∷◌, map, Option, Some, None, is_some, option_map, MatchOption, Result, Ok, Err}
use Rattle.newt_base.specs.Refusals.{Checks, first_of}
use Rattle.newt_base.specs.declared.Refusal.TheVariants.{Nostore, Stores as ManyStores, Signature}
use Rattle.newt_pagebook.specs.declared.book.Stop.TheVariants as stops
use Rattle.newt_spec_store.specs.Store.{Store}
use Rattle.newt_spec_world.specs.First.{unit_numbers}
use Rattle.newt_laws_answers.specs.Faces.{Face, shown_count, first_shown, first_showing}
use Rattle.newt_store_change.specs.declared.fault.StoreFault.{StoreFault}
use Rattle.newt_store_change.specs.declared.fault.StoreFault.TheVariants.{Refused, Stop as Ends}
use Rattle.newt_store_change.specs.Faults.{IsEnd}
use Rattle.newt_engine_units.specs.declared.units.Slot.{Slot}
use Rattle.newt_engine_units.specs.declared.units.Units.{Units}
use Rattle.newt_engine_units.specs.Stands.{card_at}

module _ {C : Type 0} (soups : C → Store) where
  -- the face of a card, or of none
  abbrev pub card_face : Option C → Face
  card_face card = option_map (λ card. ((soups card).sig, (soups card).name)) card

  -- the faces of the eight units
  abbrev pub card_faces : List (Slot C) → List Face
  card_faces slots = map (λ u. card_face (card_at slots u)) unit_numbers

  -- those of these units
  abbrev pub faces_of : Units C → List Face
  faces_of units = card_faces units.slots.items

-- The default after a unit is no longer mounted: the first that is mounted where it was the default, else as before.
abbrev pub default_after : List Face → Option ℕ → ℕ → Option ℕ
default_after faces None u = None
default_after faces (Some v) u = cond (u == v) (first_shown faces) (Some v)

-- whether a store of this signature may not be mounted beside those that are
abbrev pub beside_checks : List Face → ℕ → Checks
beside_checks faces sig = (ManyStores, nat_le 4 (shown_count faces)) ∷ (Signature, is_some (first_showing sig faces)) ∷ []

-- a store may be mounted, with its signature and its name, or the first test that holds
abbrev pub Admits : List Face → Store → Result (ℕ × List ℕ) StoreFault → Type 0
Admits faces s (Ok x) = (first_of (beside_checks faces s.sig) ≡ None) × (x.0 ≡ s.sig) × (x.1 ≡ s.name)
Admits faces s (Err (Refused refusal)) = first_of (beside_checks faces s.sig) ≡ Some refusal
Admits faces s (Err (Ends stop)) = stop ≡ stops.Memory

-- the slots with that of a unit changed
abbrev pub with_slot : {C : Type 0} → ℕ → (Slot C → Slot C) → List (Slot C) → List (Slot C)
with_slot u change [] = []
with_slot zero change (slot ∷ slots) = change slot ∷ slots
with_slot (suc u) change (slot ∷ slots) = slot ∷ with_slot u change slots

-- with this card, or none; with a sync that is due, or none; and thrown out: without a card, and a sync is due
abbrev pub with_card : {C : Type 0} → ℕ → Option C → List (Slot C) → List (Slot C)
with_card u card slots = with_slot u (λ slot. record slot { card = card }) slots

abbrev pub with_due : {C : Type 0} → ℕ → Bool → List (Slot C) → List (Slot C)
with_due u due slots = with_slot u (λ slot. record slot { due = due }) slots

abbrev pub without : {C : Type 0} → ℕ → List (Slot C) → List (Slot C)
without u slots = with_slot u (λ slot. record slot { due = true; card = None }) slots

-- a store is opened that is good, or none is there
abbrev pub Opens : {C : Type 0} → (C → Type 0) → Type 0 → Result C StoreFault → Type 0
Opens good gone (Ok card) = good card
Opens good gone (Err (Refused refusal)) = gone × (refusal ≡ Nostore)
Opens good gone (Err (Ends stop)) = Unit {0}

-- a store that is good is found on a unit, or none is there, or the run ends
abbrev pub FindsCard : {C : Type 0} → (C → Type 0) → Type 0 → Result (Option C) StoreFault → Type 0
FindsCard good gone (Ok found) = MatchOption found gone good
FindsCard good gone (Err fault) = IsEnd fault

-- it is told whether a unit has a store, or the run ends
abbrev pub FindsStore : (told there : Bool) → Result Bool StoreFault → Type 0
FindsStore told there (Ok has) = IsTrue told → has ≡ there
FindsStore told there (Err fault) = IsEnd fault
