-- The cards of the units, where one is another.
use Rattle.std.proofs.Common.{arith, ◌≤◌, ◌≡◌, refl, ap, sym, ◌∙◌, subst, ℕ, zero, suc, List, [], ◌∷◌, ◌⊎◌, inl, inr, Bool, true, false, IsTrue, Some, None, map, take, length, length-set}
use Rattle.std.specs.Prelude.{slice_get, slice_set, is_some, IsSome}
use Rattle.newt_host.specs.Moments.{changes, IsDurable, LeftBy, bytes_after}
use Rattle.newt_host.specs.Outside.{Outside, SameCards}
use Rattle.newt_spec_graph.proofs.Lists.{some-same, none-some, both-ways}
use Rattle.newt_laws_world.proofs.Units.{same-or-not}
use Rattle.newt_pagebook.specs.Book.{IsSameFor}
use Rattle.newt_engine_units.specs.declared.units.Slot.{Slot}
use Rattle.newt_engine_units.specs.declared.units.Units.{Units}
use Rattle.newt_engine_units.specs.Stands.{card_of, card_at, card_count, due_of, due_in, mounted_in, unmounted, Stands, StandsBut}
use Rattle.newt_engine_units.proofs.Few.{count-replaced, count-unmounted}

-- ---- lists

pub get-set-same : {X : Type 0} (xs : List X) (u : ℕ) (x y : X) → slice_get xs u ≡ Some y → slice_get (slice_set xs u x) u ≡ Some x
get-set-same [] u x y h = absurd (none-some y h)
get-set-same (z ∷ xs) zero x y h = refl
get-set-same (z ∷ xs) (suc u) x y h = get-set-same xs u x y h

pub get-set-other : {X : Type 0} (xs : List X) (u j : ℕ) (x : X) → (j ≡ u → ⊥) → slice_get (slice_set xs u x) j ≡ slice_get xs j
get-set-other [] u j x h = refl
get-set-other (z ∷ xs) zero zero x h = absurd (h refl)
get-set-other (z ∷ xs) zero (suc j) x h = refl
get-set-other (z ∷ xs) (suc u) zero x h = refl
get-set-other (z ∷ xs) (suc u) (suc j) x h = get-set-other xs u j x (λ e. h (ap suc e))

-- ---- one card is another

-- The card on a unit is another, and nothing else is.
pub record Replaced {C : Type 0} (units later : Units C) (u : ℕ) (card next : C) : Type 0 where
  pub slot : Slot C
  pub at : slice_get units.slots.items u ≡ Some slot
  pub was : slot.card ≡ Some card
  pub is : later.slots.items ≡ slice_set units.slots.items u (record { attached = slot.attached; due = slot.due; card = Some next })
  pub default : later.default ≡ units.default
  pub minute : later.minute ≡ units.minute

module _ {C : Type 0} (units later : Units C) (u : ℕ) (card next : C) (r : Replaced units later u card next) where
  pub card-was : card_at units.slots.items u ≡ Some card
  card-was = ap card_of r.at ∙ r.was

  pub card-is : card_at later.slots.items u ≡ Some next
  card-is = ap (λ slots. card_at slots u) r.is ∙ ap card_of (get-set-same units.slots.items u _ r.slot r.at)

  pub card-other : (j : ℕ) → (j ≡ u → ⊥) → card_at later.slots.items j ≡ card_at units.slots.items j
  card-other j h = ap (λ slots. card_at slots j) r.is ∙ ap card_of (get-set-other units.slots.items u j _ h)

  pub marks : (j : ℕ) → mounted_in later.slots.items j ≡ mounted_in units.slots.items j
  marks j = go (same-or-not j u)
    where
      go : (j ≡ u) ⊎ (j ≡ u → ⊥) → mounted_in later.slots.items j ≡ mounted_in units.slots.items j
      go (inl e) = ap (mounted_in later.slots.items) e ∙ ap is_some card-is ∙ sym (ap is_some card-was) ∙ sym (ap (mounted_in units.slots.items) e)
      go (inr e) = ap is_some (card-other j e)

  pub dues : (j : ℕ) → due_in later.slots.items j ≡ due_in units.slots.items j
  dues j = go (same-or-not j u)
    where
      go : (j ≡ u) ⊎ (j ≡ u → ⊥) → due_in later.slots.items j ≡ due_in units.slots.items j
      go (inl e) = ap (due_in later.slots.items) e ∙ ap (λ slots. due_in slots u) r.is ∙ ap due_of (get-set-same units.slots.items u _ r.slot r.at)
          ∙ sym (ap due_of r.at) ∙ sym (ap (due_in units.slots.items) e)
      go (inr e) = ap (λ slots. due_in slots j) r.is ∙ ap due_of (get-set-other units.slots.items u j _ e)

  pub attached-same : (P : ℕ → Bool → Type 0) → ((j : ℕ) (slot : Slot C) → slice_get units.slots.items j ≡ Some slot → P j slot.attached)
      → (j : ℕ) (slot : Slot C) → slice_get later.slots.items j ≡ Some slot → P j slot.attached
  attached-same P all j slot h = go (same-or-not j u)
    where
      go : (j ≡ u) ⊎ (j ≡ u → ⊥) → P j slot.attached
      go (inl e) =
          let is = some-same _ slot (sym (get-set-same units.slots.items u (record { attached = r.slot.attached; due = r.slot.due; card = Some next }) r.slot r.at) ∙ ap (λ slots. slice_get slots u) (sym r.is) ∙ ap (slice_get later.slots.items) (sym e) ∙ h) in
          subst (λ (s : Slot C). P j s.attached) is (subst (λ k. P k r.slot.attached) (sym e) (all u r.slot r.at))
      go (inr e) = all j slot (sym (get-set-other units.slots.items u j _ e) ∙ ap (λ slots. slice_get slots j) (sym r.is) ∙ h)

-- ---- what stands

-- what is pending on a unit depends on what happened to it alone
pub durable-same : (u : ℕ) (old new : List _) → changes u new ≡ changes u old → IsDurable u old → IsDurable u new
durable-same u old new same h = λ left m. h left (subst (λ c. LeftBy c left) same m) ∙ ap bytes_after (sym same)

module _ {C : Type 0} (place : C → ℕ) (stands : Bool → C → Outside → Type 0) where
  -- what stands, stands but for a unit
  pub but-of : (told : Bool) (units : Units C) (u : ℕ) (o : Outside) → Stands place stands told units o → StandsBut place stands u told units o
  but-of told units u o s = record {
    eight = s.eight;
    few = s.few;
    attached = s.attached;
    cards = λ j c other h. s.cards j c h;
    default = s.default;
    none = s.none;
    sure = s.sure;
    durable = λ t j other h due. s.durable t j h due;
  }

  -- and stands, where that unit does
  pub of-but : (told : Bool) (units : Units C) (u : ℕ) (o : Outside) → StandsBut place stands u told units o
      → ((c : C) → card_at units.slots.items u ≡ Some c → stands told c o × (place c ≡ u)) → (IsTrue told → due_in units.slots.items u ≡ false → IsDurable u o.now) → Stands place stands told units o
  of-but told units u o s there still = record {
    eight = s.eight;
    few = s.few;
    attached = s.attached;
    cards = λ j c h. at j c h (same-or-not j u);
    default = s.default;
    none = s.none;
    sure = s.sure;
    durable = λ t j h due. rest t j h due (same-or-not j u);
  }
    where
      at : (j : ℕ) (c : C) → card_at units.slots.items j ≡ Some c → (j ≡ u) ⊎ (j ≡ u → ⊥) → stands told c o × (place c ≡ j)
      at j c h (inl e) = let k = there c (ap (card_at units.slots.items) (sym e) ∙ h) in (k.0, k.1 ∙ sym e)
      at j c h (inr e) = s.cards j c e h

      rest : IsTrue told → (j : ℕ) → IsSome (o.card j) → due_in units.slots.items j ≡ false → (j ≡ u) ⊎ (j ≡ u → ⊥) → IsDurable j o.now
      rest t j h due (inl e) = subst (λ k. IsDurable k o.now) (sym e) (still t (ap (due_in units.slots.items) (sym e) ∙ due))
      rest t j h due (inr e) = s.durable t j e h due

module _ {C : Type 0} (place : C → ℕ) (stands : Bool → C → Outside → Type 0)
    (kept : (told : Bool) (card : C) (old new : Outside) → stands told card old → IsSameFor told (place card) old new → stands told card new)
    (durable : (card : C) (outside : Outside) → stands true card outside → IsDurable (place card) outside.now) where
  -- a card of another unit stands after a call on a unit
  kept-card : (told : Bool) (u j : ℕ) (c : C) (o p : Outside) → SameCards o p → (IsTrue told → (j : ℕ) → (j ≡ u → ⊥) → changes j p.now ≡ changes j o.now)
      → (j ≡ u → ⊥) → stands told c o × (place c ≡ j) → stands told c p × (place c ≡ j)
  kept-card told u j c o p cards others other was = (
    kept told c o p was.0 (record {
      card = cards.card (place c);
      blocks = cards.blocks (place c);
      changes = λ t. subst (λ k. changes k p.now ≡ changes k o.now) (sym was.1) (others t j other);
    }),
    was.1,
  )

  -- the units stand but for a unit after a call on it
  pub but-beside : (told : Bool) (units : Units C) (u : ℕ) (o p : Outside) → SameCards o p → (IsTrue told → (j : ℕ) → (j ≡ u → ⊥) → changes j p.now ≡ changes j o.now)
      → StandsBut place stands u told units o → StandsBut place stands u told units p
  but-beside told units u o p cards others s = record {
    eight = s.eight;
    few = s.few;
    attached = λ j slot h. s.attached j slot h ∙ ap is_some (sym (cards.card j));
    cards = λ j c other h. kept-card told u j c o p cards others other (s.cards j c other h);
    default = s.default;
    none = s.none;
    sure = s.sure;
    durable = λ t j other h due. durable-same j o.now p.now (others t j other) (s.durable t j other (subst IsSome (cards.card j) h) due);
  }

  -- the units stand where nothing has happened to any device
  pub stands-still : (told : Bool) (units : Units C) (o p : Outside) → SameCards o p → (IsTrue told → (j : ℕ) → changes j p.now ≡ changes j o.now) → Stands place stands told units o → Stands place stands told units p
  stands-still told units o p cards same s = record {
    eight = s.eight;
    few = s.few;
    attached = λ u slot h. s.attached u slot h ∙ ap is_some (sym (cards.card u));
    cards = λ u c h. let was = s.cards u c h in (kept told c o p was.0 (record { card = cards.card (place c); blocks = cards.blocks (place c); changes = λ t. same t (place c) }), was.1);
    default = s.default;
    none = s.none;
    sure = s.sure;
    durable = λ t u h due. durable-same u o.now p.now (same t u) (s.durable t u (subst IsSome (cards.card u) h) due);
  }

  -- the units stand after a call on a unit that has no card
  pub stands-beside : (told : Bool) (units : Units C) (u : ℕ) (o p : Outside) → SameCards o p → (IsTrue told → (j : ℕ) → (j ≡ u → ⊥) → changes j p.now ≡ changes j o.now)
      → mounted_in units.slots.items u ≡ false → (IsTrue told → IsDurable u p.now) → Stands place stands told units o → Stands place stands told units p
  stands-beside told units u o p cards others free there s = of-but place stands told units u p (but-beside told units u o p cards others (but-of place stands told units u o s))
      (λ c h. absurd (both-ways (sym free ∙ ap is_some h))) (λ t due. there t)

  -- the units stand but for a unit after a call on its card, whatever that did
  pub but-replaced : (told : Bool) (units later : Units C) (u : ℕ) (card next : C) (o p : Outside) → Replaced units later u card next → SameCards o p
      → (IsTrue told → (j : ℕ) → (j ≡ u → ⊥) → changes j p.now ≡ changes j o.now) → Stands place stands told units o → StandsBut place stands u told later p
  but-replaced told units later u card next o p r cards others s = record {
    eight = ap length r.is ∙ length-set units.slots.items u _ ∙ s.eight;
    few = subst (λ n. n ≤ 4) (sym (ap card_count r.is ∙ count-replaced units.slots.items u r.slot card next r.slot.attached r.slot.due r.at r.was)) s.few;
    attached = attached-same units later u card next r (λ j b. b ≡ is_some (p.card j)) (λ j slot h. s.attached j slot h ∙ ap is_some (sym (cards.card j)));
    cards = λ j c other h. kept-card told u j c o p cards others other (s.cards j c (sym (card-other units later u card next r j other) ∙ h));
    default = λ j h. marks units later u card next r j ∙ s.default j (sym r.default ∙ h);
    none = λ h j. marks units later u card next r j ∙ s.none (sym r.default ∙ h) j;
    sure = λ j h. marks units later u card next r j ∙ s.sure j (sym (dues units later u card next r j) ∙ h);
    durable = λ t j other h due. durable-same j o.now p.now (others t j other) (s.durable t j (subst IsSome (cards.card j) h) (sym (dues units later u card next r j) ∙ due));
  }

  -- the units stand where one card stands after a call on its unit
  pub stands-replaced : (told : Bool) (units later : Units C) (u : ℕ) (card next : C) (o p : Outside) → Replaced units later u card next → SameCards o p
      → (IsTrue told → (j : ℕ) → (j ≡ u → ⊥) → changes j p.now ≡ changes j o.now) → stands told next p → place next ≡ u → Stands place stands told units o → Stands place stands told later p
  stands-replaced told units later u card next o p r cards others there on s = of-but place stands told later u p (but-replaced told units later u card next o p r cards others s)
      (λ c h. subst (λ x. stands told x p × (place x ≡ u)) (some-same next c (sym (card-is units later u card next r) ∙ h)) (there, on))
      (λ t due. subst (λ k. IsDurable k p.now) on (durable next p (subst (λ b. stands b next p) t there)))

-- ---- at the start

fresh-card : {C : Type 0} (xs : List Bool) (u : ℕ) → card_at {C = C} (map unmounted xs) u ≡ None
fresh-card [] u = refl
fresh-card (x ∷ xs) zero = refl
fresh-card (x ∷ xs) (suc u) = fresh-card xs u

fresh-due : (C : Type 0) (xs : List Bool) (u : ℕ) → due_in {C = C} (map unmounted xs) u ≡ false
fresh-due C [] u = refl
fresh-due C (x ∷ xs) zero = refl
fresh-due C (x ∷ xs) (suc u) = fresh-due C xs u

fresh-attached : {C : Type 0} (P : ℕ → Bool → Type 0) (xs : List Bool) → ((u : ℕ) (b : Bool) → slice_get xs u ≡ Some b → P u b) → (u : ℕ) (slot : Slot C) → slice_get (map unmounted xs) u ≡ Some slot → P u slot.attached
fresh-attached P [] all u slot h = absurd (none-some slot h)
fresh-attached P (x ∷ xs) all zero slot h = subst (λ (s : Slot _). P zero s.attached) (some-same (unmounted x) slot h) (all zero x refl)
fresh-attached P (x ∷ xs) all (suc u) slot h = fresh-attached (λ n. P (suc n)) xs (λ n b k. all (suc n) b k) u slot h

pub get-take : {X : Type 0} (n u : ℕ) (xs : List X) (x : X) → slice_get (take n xs) u ≡ Some x → slice_get xs u ≡ Some x
get-take zero u xs x h = absurd (none-some x h)
get-take (suc n) u [] x h = absurd (none-some x h)
get-take (suc n) zero (y ∷ xs) x h = h
get-take (suc n) (suc u) (y ∷ xs) x h = get-take n u xs x h

module _ {C : Type 0} (units : Units C) (xs : List Bool) (items : units.slots.items ≡ map unmounted xs) (size : length units.slots.items ≡ 8) (default : units.default ≡ None) where
  no-card : (u : ℕ) → card_at units.slots.items u ≡ None
  no-card u = ap (λ slots. card_at slots u) items ∙ fresh-card xs u

  pub fresh-marks : (u : ℕ) → mounted_in units.slots.items u ≡ false
  fresh-marks u = ap is_some (no-card u)

  pub fresh-dues : (u : ℕ) → due_in units.slots.items u ≡ false
  fresh-dues u = ap (λ slots. due_in slots u) items ∙ fresh-due C xs u

  pub fresh-stands : (place : C → ℕ) (stands : Bool → C → Outside → Type 0) (told : Bool) (o : Outside) → ((u : ℕ) (has : Bool) → slice_get xs u ≡ Some has → has ≡ is_some (o.card u))
      → (IsTrue told → (u : ℕ) → IsSome (o.card u) → IsDurable u o.now) → Stands place stands told units o
  fresh-stands place stands told o known durable = record {
    eight = size;
    few = subst (λ n. n ≤ 4) (sym (ap card_count items ∙ count-unmounted C xs)) (omega arith);
    attached = λ u slot h. fresh-attached (λ u b. b ≡ is_some (o.card u)) xs known u slot (sym (ap (λ slots. slice_get slots u) items) ∙ h);
    cards = λ u card h. absurd (none-some card (sym (no-card u) ∙ h));
    default = λ u h. absurd (none-some u (sym default ∙ h));
    none = λ h u. fresh-marks u;
    sure = λ u h. fresh-marks u;
    durable = λ t u h due. durable t u h;
  }
