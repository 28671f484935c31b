-- The slot of one unit, changed.
use Rattle.std.proofs.Common.{◌≡◌, refl, ap, sym, ◌∙◌, subst, ℕ, zero, suc, ◌<◌, ◌≤◌, List, [], ◌∷◌, ◌⊎◌, inl, inr, Bool, true, false, IsTrue, Option, Some, None, option_map, length, get_or}
use Rattle.std.specs.Prelude.{slice_get, slice_set, is_some, IsSome}
use Rattle.std.proofs.lemmas.Option.{slice_get_read, slice_get_within}
use Rattle.newt_host.specs.Moments.{changes, image, IsDurable}
use Rattle.newt_host.specs.Outside.{Outside, SameCards}
use Rattle.newt_spec_graph.proofs.Lists.{some-same, none-some, both-ways}
use Rattle.newt_laws_world.proofs.Units.{same-or-not}
use Rattle.newt_spec_store.specs.Store.{Store}
use Rattle.newt_spec_world.specs.World.{Device, change_device}
use Rattle.newt_laws_answers.proofs.Worlds.{card_device, device-here, world-changed}
use Rattle.newt_engine_units.specs.declared.units.Slot.{Slot}
use Rattle.newt_engine_units.specs.declared.units.Units.{Units}
use Rattle.newt_engine_units.specs.Faces.{with_slot}
use Rattle.newt_engine_units.specs.Looks.{IsFree, has_device, attached_in}
use Rattle.newt_engine_units.specs.Stands.{card_of, card_at, card_count, due_of, due_in, mounted_in, world_of, Stands, StandsBut}

-- ---- lists

module _ {C : Type 0} (f : Slot C → Slot C) where
  set-is : (slots : List (Slot C)) (u : ℕ) (slot : Slot C) → slice_get slots u ≡ Some slot → slice_set slots u (f slot) ≡ with_slot u f slots
  set-is [] u slot h = absurd (none-some slot h)
  set-is (x ∷ slots) zero slot h = ap {A = Slot _} {B = List (Slot _)} (λ y. f y ∷ slots) (sym (some-same x slot h))
  set-is (x ∷ slots) (suc u) slot h = ap {A = List (Slot _)} (λ ys. x ∷ ys) (set-is slots u slot h)

  -- the slot of a unit, which stands in the place n, changed
  pub slot-set : (slots : List (Slot C)) (u n : ℕ) (slot : Slot C) → u ≡ n → n < length slots → slot ≡ get_or slots n slot → slice_set slots n (f slot) ≡ with_slot u f slots
  slot-set slots u n slot is bound value = set-is slots n slot (slice_get_read slots (length slots) n slot refl bound value) ∙ ap (λ k. with_slot k f slots) (sym is)

  get-same : (slots : List (Slot C)) (u : ℕ) → slice_get (with_slot u f slots) u ≡ option_map f (slice_get slots u)
  get-same [] u = refl
  get-same (x ∷ slots) zero = refl
  get-same (x ∷ slots) (suc u) = get-same slots u

  get-other : (slots : List (Slot C)) (u j : ℕ) → (j ≡ u → ⊥) → slice_get (with_slot u f slots) j ≡ slice_get slots j
  get-other [] u j h = refl
  get-other (x ∷ slots) zero zero h = absurd (h refl)
  get-other (x ∷ slots) zero (suc j) h = refl
  get-other (x ∷ slots) (suc u) zero h = refl
  get-other (x ∷ slots) (suc u) (suc j) h = get-other slots u j (λ e. h (ap suc e))

  pub same-length : (slots : List (Slot C)) (u : ℕ) → length (with_slot u f slots) ≡ length slots
  same-length [] u = refl
  same-length (x ∷ slots) zero = refl
  same-length (x ∷ slots) (suc u) = ap suc (same-length slots u)

  -- nothing is changed where the slot is so already
  pub slot-so : (slots : List (Slot C)) (u : ℕ) → ((slot : Slot C) → slice_get slots u ≡ Some slot → f slot ≡ slot) → with_slot u f slots ≡ slots
  slot-so [] u h = refl
  slot-so (x ∷ slots) zero h = ap {A = Slot C} {B = List (Slot C)} (λ y. y ∷ slots) (h x refl)
  slot-so (x ∷ slots) (suc u) h = ap {A = List (Slot C)} (λ ys. x ∷ ys) (slot-so slots u h)

-- a unit with a device is one of the units
pub attached-bound : {C : Type 0} (slots : List (Slot C)) (u n : ℕ) → u ≡ n → attached_in slots u ≡ true → n < length slots
attached-bound slots u n is h = subst (λ k. k < length slots) is (go (slice_get slots u) refl)
  where
    go : (x : Option (Slot _)) → slice_get slots u ≡ x → u < length slots
    go None e = absurd (both-ways (sym (ap has_device e) ∙ h))
    go (Some slot) e = slice_get_within slots u slot e

pub attached-slot : {C : Type 0} (slots : List (Slot C)) (u : ℕ) → attached_in slots u ≡ true → (slot : Slot C) × (slice_get slots u ≡ Some slot)
attached-slot slots u h = go (slice_get slots u) refl
  where
    go : (x : Option (Slot _)) → slice_get slots u ≡ x → (slot : Slot _) × (slice_get slots u ≡ Some slot)
    go None e = absurd (both-ways (sym (ap has_device e) ∙ h))
    go (Some slot) e = (slot, e)

pub mounted-slot : {C : Type 0} (slots : List (Slot C)) (u : ℕ) → mounted_in slots u ≡ true → (slot : Slot C) × (slice_get slots u ≡ Some slot)
mounted-slot slots u h = go (slice_get slots u) refl
  where
    go : (x : Option (Slot _)) → slice_get slots u ≡ x → (slot : Slot _) × (slice_get slots u ≡ Some slot)
    go None e = absurd (both-ways (sym (ap (λ x. is_some (card_of x)) e) ∙ h))
    go (Some slot) e = (slot, e)

-- of a unit with a card no sync is due
pub not-due : {C : Type 0} (slots : List (Slot C)) → ((u : ℕ) → due_in slots u ≡ true → mounted_in slots u ≡ false) → (u : ℕ) → mounted_in slots u ≡ true → due_in slots u ≡ false
not-due slots sure u mounted = go (due_in slots u) refl
  where
    go : (b : Bool) → due_in slots u ≡ b → due_in slots u ≡ false
    go false e = e
    go true e = absurd (both-ways (sym (sure u e) ∙ mounted))

-- ---- units

module _ {C : Type 0} (units later : Units C) (u : ℕ) (f : Slot C → Slot C) (is : later.slots.items ≡ with_slot u f units.slots.items) where
  pub slot-other : (j : ℕ) → (j ≡ u → ⊥) → slice_get later.slots.items j ≡ slice_get units.slots.items j
  slot-other j h = ap (λ slots. slice_get slots j) is ∙ get-other f units.slots.items u j h

  pub mark-other : (j : ℕ) → (j ≡ u → ⊥) → mounted_in later.slots.items j ≡ mounted_in units.slots.items j
  mark-other j h = ap (λ x. is_some (card_of x)) (slot-other j h)

  pub due-other : (j : ℕ) → (j ≡ u → ⊥) → due_in later.slots.items j ≡ due_in units.slots.items j
  due-other j h = ap due_of (slot-other j h)

  module _ (slot : Slot C) (at : slice_get units.slots.items u ≡ Some slot) where
    pub slot-here : slice_get later.slots.items u ≡ Some (f slot)
    slot-here = ap (λ slots. slice_get slots u) is ∙ get-same f units.slots.items u ∙ ap (option_map f) at

    pub mark-here : mounted_in later.slots.items u ≡ is_some (f slot).card
    mark-here = ap (λ x. is_some (card_of x)) slot-here

    pub due-here : due_in later.slots.items u ≡ (f slot).due
    due-here = ap due_of slot-here

    -- the units stand where they stood but for this one, and it does
    pub stands-marked : (place : C → ℕ) (stands : Bool → C → Outside → Type 0) (told : Bool) (o : Outside) → (f slot).attached ≡ slot.attached
        → ((c : C) → (f slot).card ≡ Some c → stands told c o × (place c ≡ u)) → ((f slot).due ≡ true → is_some (f slot).card ≡ false) → ((f slot).due ≡ false → IsTrue told → IsSome (o.card u) → IsDurable u o.now)
        → ((v : ℕ) → later.default ≡ Some v → mounted_in later.slots.items v ≡ true) → (later.default ≡ None → (v : ℕ) → mounted_in later.slots.items v ≡ false) → card_count (with_slot u f units.slots.items) ≤ 4 → StandsBut place stands u told units o → Stands place stands told later o
    stands-marked place stands told o keeps there sure still default none few s = record {
      eight = ap length is ∙ same-length f units.slots.items u ∙ s.eight;
      few = subst (λ slots. card_count slots ≤ 4) (sym is) few;
      attached = λ j x h. attached j x h (same-or-not j u);
      cards = λ j c h. cards j c h (same-or-not j u);
      default = default;
      none = none;
      sure = λ j h. dues j h (same-or-not j u);
      durable = λ t j h due. durables t j h due (same-or-not j u);
    }
      where
        attached : (j : ℕ) (x : Slot C) → slice_get later.slots.items j ≡ Some x → (j ≡ u) ⊎ (j ≡ u → ⊥) → x.attached ≡ is_some (o.card j)
        attached j x h (inl e) = ap (λ (y : Slot C). y.attached) (sym (some-same (f slot) x (sym slot-here ∙ ap (slice_get later.slots.items) (sym e) ∙ h))) ∙ keeps
            ∙ s.attached u slot at ∙ ap (λ n. is_some (o.card n)) (sym e)
        attached j x h (inr e) = s.attached j x (sym (slot-other j e) ∙ h)

        cards : (j : ℕ) (c : C) → card_at later.slots.items j ≡ Some c → (j ≡ u) ⊎ (j ≡ u → ⊥) → stands told c o × (place c ≡ j)
        cards j c h (inl e) = let k = there c (sym (ap card_of slot-here) ∙ ap (card_at later.slots.items) (sym e) ∙ h) in (k.0, k.1 ∙ sym e)
        cards j c h (inr e) = s.cards j c e (ap card_of (sym (slot-other j e)) ∙ h)

        dues : (j : ℕ) → due_in later.slots.items j ≡ true → (j ≡ u) ⊎ (j ≡ u → ⊥) → mounted_in later.slots.items j ≡ false
        dues j h (inl e) = ap (mounted_in later.slots.items) e ∙ mark-here ∙ sure (sym due-here ∙ ap (due_in later.slots.items) (sym e) ∙ h)
        dues j h (inr e) = mark-other j e ∙ s.sure j (sym (due-other j e) ∙ h)

        durables : IsTrue told → (j : ℕ) → IsSome (o.card j) → due_in later.slots.items j ≡ false → (j ≡ u) ⊎ (j ≡ u → ⊥) → IsDurable j o.now
        durables t j h due (inl e) = subst (λ n. IsDurable n o.now) (sym e) (still (sym due-here ∙ ap (due_in later.slots.items) (sym e) ∙ due) t (subst (λ k. IsSome (o.card k)) e h))
        durables t j h due (inr e) = s.durable t j e h (sym (due-other j e) ∙ due)

    -- the world has the device of the unit changed
    pub world-slot : (reads : List ℕ → Option Store) (o p : Outside) → SameCards o p → ((j : ℕ) → (j ≡ u → ⊥) → changes j p.now ≡ changes j o.now) → (g : Device → Device)
        → card_device reads (f slot).due (o.blocks u) (image u p.now) (is_some (f slot).card) ≡ g (card_device reads slot.due (o.blocks u) (image u o.now) (is_some slot.card))
        → world_of reads later p ≡ record (change_device (world_of reads units o) u g) { default = later.default; minute = later.minute }
    world-slot reads o p cards same g device =
        world-changed reads (due_in units.slots.items) (due_in later.slots.items) (mounted_in units.slots.items) (mounted_in later.slots.items) units.default later.default units.minute later.minute o p u g
        cards due-other mark-other same
        (device-here reads (due_in units.slots.items) (due_in later.slots.items) (mounted_in units.slots.items) (mounted_in later.slots.items) o p u g cards (λ name h.
        ap (λ b. card_device reads b (o.blocks u) (image u p.now) (mounted_in later.slots.items u)) due-here
        ∙ ap (λ b. card_device reads (f slot).due (o.blocks u) (image u p.now) b) mark-here
        ∙ device
        ∙ ap (λ (x : Option (Slot C)). g (card_device reads (due_of x) (o.blocks u) (image u o.now) (is_some (card_of x)))) (sym at)))

-- a unit that may be opened or formatted has a device
pub free-card : {C : Type 0} {place : C → ℕ} {stands : Bool → C → Outside → Type 0} {told : Bool} {units : Units C} {o : Outside} {blocks u : ℕ} → Stands place stands told units o → IsFree units blocks u → IsSome (o.card u)
free-card {units = units} {u = u} s free = let k = attached-slot units.slots.items u free.attached in sym (s.attached u k.0 k.1) ∙ sym (ap has_device k.1) ∙ free.attached
