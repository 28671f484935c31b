-- How many cards are mounted, where one is put on a unit or taken from it.
use Rattle.std.proofs.Common.{arith, ◌≡◌, refl, ap, sym, ◌∙◌, subst, ℕ, zero, suc, ◌+◌, ◌≤◌, ◌<◌, List, [], ◌∷◌, Bool, true, false, Some, None, cond, drop, map, length, nat_le}
use Rattle.std.specs.Prelude.{slice_get, slice_set, is_some}
use Rattle.std.proofs.lemmas.Bool.{leb-false}
use Rattle.newt_base.specs.Refusals.{first_of}
use Rattle.newt_base.specs.declared.Refusal.TheVariants.{Stores as ManyStores, Signature}
use Rattle.newt_spec_graph.proofs.Lists.{none-some, both-ways}
use Rattle.newt_spec_store.specs.Store.{Store}
use Rattle.newt_laws_answers.specs.Faces.{shown_count, first_showing}
use Rattle.newt_engine_units.specs.declared.units.Slot.{Slot}
use Rattle.newt_engine_units.specs.Faces.{beside_checks, card_face, card_faces, with_card, with_slot}
use Rattle.newt_engine_units.specs.Stands.{card_count, mounted_in, unmounted}
use Rattle.newt_engine_units.proofs.Shown.{face-some}

pub count-unmounted : (C : Type 0) (xs : List Bool) → card_count {C = C} (map unmounted xs) ≡ 0
count-unmounted C [] = refl
count-unmounted C (x ∷ xs) = count-unmounted C xs

next : (n : ℕ) → suc n ≡ n + 1
next n = omega arith

module _ {C : Type 0} where
  -- one card is another
  pub count-replaced : (slots : List (Slot C)) (u : ℕ) (slot : Slot C) (card next : C) (attached due : Bool) → slice_get slots u ≡ Some slot → slot.card ≡ Some card
      → card_count (slice_set slots u (record { attached = attached; due = due; card = Some next })) ≡ card_count slots
  count-replaced [] u slot card next attached due h was = refl
  count-replaced (x ∷ slots) zero slot card next attached due h was = sym (ap (λ b. cond b (1 + card_count slots) (card_count slots)) (ap is_some (here x slot h ∙ was)))
    where
      here : (x slot : Slot C) → Some x ≡ Some slot → x.card ≡ slot.card
      here x slot h = cc
  count-replaced (x ∷ slots) (suc u) slot card next attached due h was = ap (λ n. cond (is_some x.card) (1 + n) n) (count-replaced slots u slot card next attached due h was)

  -- a card more
  pub count-put : (slots : List (Slot C)) (u : ℕ) (card : C) → card_count (with_card u (Some card) slots) ≤ 1 + card_count slots
  count-put [] u card = omega arith
  count-put (x ∷ slots) zero card = go (is_some x.card)
    where
      go : (b : Bool) → 1 + card_count slots ≤ 1 + cond b (1 + card_count slots) (card_count slots)
      go true = omega arith
      go false = omega arith
  count-put (x ∷ slots) (suc u) card = go (is_some x.card) (count-put slots u card)
    where
      go : (b : Bool) → card_count (with_card u (Some card) slots) ≤ 1 + card_count slots
          → cond b (1 + card_count (with_card u (Some card) slots)) (card_count (with_card u (Some card) slots)) ≤ 1 + cond b (1 + card_count slots) (card_count slots)
      go true h = omega (arith, h)
      go false h = h

  -- a card less
  pub count-less : (change : Slot C → Slot C) → ((slot : Slot C) → (change slot).card ≡ None) → (slots : List (Slot C)) (u : ℕ) → card_count (with_slot u change slots) ≤ card_count slots
  count-less change none [] u = omega arith
  count-less change none (x ∷ slots) zero = subst (λ c. cond (is_some c) (1 + card_count slots) (card_count slots) ≤ card_count (x ∷ slots)) (sym (none x)) (go (is_some x.card))
    where
      go : (b : Bool) → card_count slots ≤ cond b (1 + card_count slots) (card_count slots)
      go true = omega arith
      go false = omega arith
  count-less change none (x ∷ slots) (suc u) = go (is_some x.card) (count-less change none slots u)
    where
      go : (b : Bool) → card_count (with_slot u change slots) ≤ card_count slots
          → cond b (1 + card_count (with_slot u change slots)) (card_count (with_slot u change slots)) ≤ cond b (1 + card_count slots) (card_count slots)
      go true h = omega (arith, h)
      go false h = h

  -- as many cards
  pub count-same : (change : Slot C → Slot C) → ((slot : Slot C) → (change slot).card ≡ slot.card) → (slots : List (Slot C)) (u : ℕ) → card_count (with_slot u change slots) ≡ card_count slots
  count-same change same [] u = refl
  count-same change same (x ∷ slots) zero = ap (λ c. cond (is_some c) (1 + card_count slots) (card_count slots)) (same x)
  count-same change same (x ∷ slots) (suc u) = ap (λ n. cond (is_some x.card) (1 + n) n) (count-same change same slots u)

  -- ---- the units from a number on

  some-ahead : (slots : List (Slot C)) (n : ℕ) → mounted_in slots n ≡ true → card_count (drop n slots) ≡ 1 + card_count (drop (suc n) slots)
  some-ahead [] n h = absurd (both-ways h)
  some-ahead (x ∷ slots) zero h = ap (λ b. cond b (1 + card_count slots) (card_count slots)) h
  some-ahead (x ∷ slots) (suc n) h = some-ahead slots n h

  less-ahead : (slots : List (Slot C)) (n : ℕ) → card_count (drop (suc n) slots) ≤ card_count (drop n slots)
  less-ahead [] n = none n
    where
      none : (n : ℕ) → card_count {C = C} (drop (suc n) []) ≤ card_count {C = C} (drop n [])
      none zero = omega arith
      none (suc n) = omega arith
  less-ahead (x ∷ slots) zero = go (is_some x.card)
    where
      go : (b : Bool) → card_count slots ≤ cond b (1 + card_count slots) (card_count slots)
      go true = omega arith
      go false = omega arith
  less-ahead (x ∷ slots) (suc n) = less-ahead slots n

  pub ahead-some : (slots : List (Slot C)) (n : ℕ) → mounted_in slots n ≡ true → card_count (drop n slots) ≡ 1 + card_count (drop (n + 1) slots)
  ahead-some slots n h = some-ahead slots n h ∙ ap (λ k. 1 + card_count (drop k slots)) (next n)

  pub ahead-less : (slots : List (Slot C)) (n : ℕ) → card_count (drop (n + 1) slots) ≤ card_count (drop n slots)
  ahead-less slots n = subst (λ k. card_count (drop k slots) ≤ card_count (drop n slots)) (next n) (less-ahead slots n)

  -- ---- the stores that are shown

  module _ (soups : C → Store) where
    each-face : (slots : List (Slot C)) → shown_count (map (λ (s : Slot C). card_face soups s.card) slots) ≡ card_count slots
    each-face [] = refl
    each-face (x ∷ slots) =
        ap (λ b. cond b (1 + shown_count (map (λ (s : Slot C). card_face soups s.card) slots)) (shown_count (map (λ (s : Slot C). card_face soups s.card) slots))) (face-some soups x.card)
        ∙ ap (λ n. cond (is_some x.card) (1 + n) n) (each-face slots)

    eight-faces : (slots : List (Slot C)) → length slots ≡ 8 → card_faces soups slots ≡ map (λ (s : Slot C). card_face soups s.card) slots
    eight-faces (a ∷ b ∷ c ∷ d ∷ e ∷ f ∷ g ∷ h ∷ []) is = refl
    eight-faces [] is = absurd (omega (arith, is))
    eight-faces (a ∷ []) is = absurd (omega (arith, is))
    eight-faces (a ∷ b ∷ []) is = absurd (omega (arith, is))
    eight-faces (a ∷ b ∷ c ∷ []) is = absurd (omega (arith, is))
    eight-faces (a ∷ b ∷ c ∷ d ∷ []) is = absurd (omega (arith, is))
    eight-faces (a ∷ b ∷ c ∷ d ∷ e ∷ []) is = absurd (omega (arith, is))
    eight-faces (a ∷ b ∷ c ∷ d ∷ e ∷ f ∷ []) is = absurd (omega (arith, is))
    eight-faces (a ∷ b ∷ c ∷ d ∷ e ∷ f ∷ g ∷ []) is = absurd (omega (arith, is))
    eight-faces (a ∷ b ∷ c ∷ d ∷ e ∷ f ∷ g ∷ h ∷ i ∷ slots) is = absurd (omega (arith, is))

    -- a store may be mounted where fewer than four are
    pub few-admitted : (slots : List (Slot C)) → length slots ≡ 8 → (sig : ℕ) → first_of (beside_checks (card_faces soups slots) sig) ≡ None → card_count slots < 4
    few-admitted slots is sig h = subst (λ n. n < 4) (ap shown_count (eight-faces slots is) ∙ each-face slots) (leb-false 4 (shown_count (card_faces soups slots)) (go (nat_le 4 (shown_count (card_faces soups slots))) refl))
      where
        go : (b : Bool) → nat_le 4 (shown_count (card_faces soups slots)) ≡ b → nat_le 4 (shown_count (card_faces soups slots)) ≡ false
        go true e = absurd (none-some ManyStores (sym h ∙ ap (λ b. first_of ((ManyStores, b) ∷ (Signature, is_some (first_showing sig (card_faces soups slots))) ∷ [])) e))
        go false e = e
