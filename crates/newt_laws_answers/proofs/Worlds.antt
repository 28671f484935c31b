-- How the world that devices stand for changes with them.
use Rattle.std.proofs.Common.{arith, ◌≡◌, refl, ap, sym, ◌∙◌, ℕ, zero, suc, ◌+◌, ◌<◌, ◌≤◌, List, [], ◌∷◌, Bool, inl, inr, ◌⊎◌, map, replicate, Option, Some, None, option_map, if◌then◌else◌}
use Rattle.std.specs.Prelude.{slice_get}
use Rattle.newt_host.specs.Moments.{changes, image, bytes_after}
use Rattle.newt_host.specs.Outside.{Outside, SameCards}
use Rattle.newt_spec_store.specs.Store.{Store}
use Rattle.newt_spec_world.specs.World.{World, Device, lost, device, flat, change_at, change_device, settle, settle_cursor}
use Rattle.newt_spec_world.specs.First.{media_of, unit_numbers}
use Rattle.newt_laws_answers.specs.WorldAt.{device_at, world_at}

-- ---- lists of units

abbrev from : ℕ → ℕ → List ℕ
from k zero = []
from k (suc n) = k ∷ from (suc k) n

suc-plus : (k u : ℕ) → suc k + u ≡ k + suc u
suc-plus k u = omega arith

plus-zero : (k : ℕ) → k + 0 ≡ k
plus-zero k = omega arith

-- what is at each place
from-at : {X : Type 0} (g : ℕ → Option X) (k n u : ℕ) → u < n → flat (slice_get (map g (from k n)) u) ≡ g (k + u)
from-at g k zero u h = absurd (omega arith)
from-at g k (suc n) zero h = ap g (sym (plus-zero k))
from-at g k (suc n) (suc u) h = from-at g (suc k) n u (omega arith) ∙ ap g (suc-plus k u)

-- one element changed
from-change : {X : Type 0} (f : X → X) (g h : ℕ → Option X) (k n u : ℕ) → ((j : ℕ) → (j ≡ k + u → ⊥) → h j ≡ g j) → h (k + u) ≡ option_map f (g (k + u))
    → map h (from k n) ≡ change_at u f (map g (from k n))
from-change f g h k zero u other here = refl
from-change f g h k (suc n) zero other here =
    ap {A = List _} (λ xs. h k ∷ xs) (same (suc k) n (λ j less. other j (λ e. absurd (omega (arith, e, less)))))
    ∙ ap {A = Option _} (λ o. o ∷ map g (from (suc k) n)) (ap h (sym (plus-zero k)) ∙ here ∙ ap (λ j. option_map f (g j)) (plus-zero k))
  where
    same : (k n : ℕ) → ((j : ℕ) → k < suc j → h j ≡ g j) → map h (from k n) ≡ map g (from k n)
    same k zero e = refl
    same k (suc n) e = ap {A = Option _} (λ o. o ∷ map h (from (suc k) n)) (e k (omega arith)) ∙ ap {A = List _} (λ xs. g k ∷ xs) (same (suc k) n (λ j l. e j (omega arith)))
from-change f g h k (suc n) (suc u) other here =
    ap {A = Option _} (λ o. o ∷ map h (from (suc k) n)) (other k (λ e. absurd (omega (arith, e))))
    ∙ ap {A = List _} (λ xs. g k ∷ xs) (from-change f g h (suc k) n u (λ j e. other j (λ i. e (i ∙ sym (suc-plus k u)))) (ap h (suc-plus k u) ∙ here ∙ ap (λ j. option_map f (g j)) (sym (suc-plus k u))))

zero-plus : (u : ℕ) → 0 + u ≡ u
zero-plus u = omega arith

numbers-at : {X : Type 0} (g : ℕ → Option X) (u : ℕ) → u < 8 → flat (slice_get (map g unit_numbers) u) ≡ g u
numbers-at g u h = from-at g 0 8 u h ∙ ap g (zero-plus u)

from-none : {X : Type 0} (g : ℕ → Option X) (k n u : ℕ) → n ≤ u → flat (slice_get (map g (from k n)) u) ≡ None
from-none g k zero u h = refl
from-none g k (suc n) zero h = absurd (omega arith)
from-none g k (suc n) (suc u) h = from-none g (suc k) n u (omega arith)

numbers-change : {X : Type 0} (f : X → X) (g h : ℕ → Option X) (u : ℕ) → ((j : ℕ) → (j ≡ u → ⊥) → h j ≡ g j) → h u ≡ option_map f (g u)
    → map h unit_numbers ≡ change_at u f (map g unit_numbers)
numbers-change f g h u other here =
    from-change f g h 0 8 u (λ j e. other j (λ i. e (i ∙ sym (zero-plus u)))) (ap h (zero-plus u) ∙ here ∙ ap (λ j. option_map f (g j)) (sym (zero-plus u)))

-- ---- devices

module _ (read : List ℕ → Option Store) where
  pub device-of : (due mounted : ℕ → Bool) (default : Option ℕ) (minute : ℕ) (outside : Outside) → ((u : ℕ) → 8 ≤ u → outside.card u ≡ None)
      → (u : ℕ) → device (world_at read due mounted default minute outside) u ≡ device_at read due mounted outside u
  device-of due mounted default minute outside eight u = go (below u 8)
    where
      below : (u n : ℕ) → (u < n) ⊎ (n ≤ u)
      below u zero = inr (omega arith)
      below zero (suc n) = inl (omega arith)
      below (suc u) (suc n) = elim (below u n) [ inl l ↦ inl (omega arith) | inr l ↦ inr (omega arith) ]

      go : (u < 8) ⊎ (8 ≤ u) → device (world_at read due mounted default minute outside) u ≡ device_at read due mounted outside u
      go (inl l) = numbers-at (device_at read due mounted outside) u l
      go (inr l) = from-none (device_at read due mounted outside) 0 8 u l ∙ ap (option_map _) (sym (eight u l))

  -- the device that a card with an image and two marks is
  abbrev pub card_device : (due : Bool) → ℕ → List ℕ → (mounted : Bool) → Device
  card_device due blocks image mounted = record { blocks = blocks; media = if due then lost else media_of (read image); mounted = mounted }

  -- a device stays where nothing of it changes
  pub device-stays : (a b m n : ℕ → Bool) (o p : Outside) (u : ℕ) → SameCards o p → b u ≡ a u → n u ≡ m u → changes u p.now ≡ changes u o.now
      → device_at read b n p u ≡ device_at read a m o u
  device-stays a b m n o p u cards sync mark same =
      ap (option_map (λ name. card_device (b u) (p.blocks u) (image u p.now) (n u))) (cards.card u)
      ∙ ap (λ k. option_map (λ name. card_device (b u) k (image u p.now) (n u)) (o.card u)) (cards.blocks u)
      ∙ ap (λ c. option_map (λ name. card_device (b u) (o.blocks u) (bytes_after c) (n u)) (o.card u)) same
      ∙ ap (λ k. option_map (λ name. card_device (b u) (o.blocks u) (image u o.now) k) (o.card u)) mark
      ∙ ap (λ k. option_map (λ name. card_device k (o.blocks u) (image u o.now) (m u)) (o.card u)) sync

  -- a device that is changed
  pub device-here : (a b m n : ℕ → Bool) (o p : Outside) (u : ℕ) (f : Device → Device) → SameCards o p
      → ((name : List ℕ) → o.card u ≡ Some name → card_device (b u) (o.blocks u) (image u p.now) (n u) ≡ f (card_device (a u) (o.blocks u) (image u o.now) (m u)))
      → device_at read b n p u ≡ option_map f (device_at read a m o u)
  device-here a b m n o p u f cards is =
      ap (option_map (λ name. card_device (b u) (p.blocks u) (image u p.now) (n u))) (cards.card u)
      ∙ ap (λ k. option_map (λ name. card_device (b u) k (image u p.now) (n u)) (o.card u)) (cards.blocks u)
      ∙ go (o.card u) refl
    where
      go : (c : Option (List ℕ)) → o.card u ≡ c → option_map (λ name. card_device (b u) (o.blocks u) (image u p.now) (n u)) c
          ≡ option_map f (option_map (λ name. card_device (a u) (o.blocks u) (image u o.now) (m u)) c)
      go None e = refl
      go (Some name) e = ap Some (is name e)

  -- ---- worlds

  -- one unit is changed, and the default and the minute are set
  pub world-changed : (a b m n : ℕ → Bool) (d e : Option ℕ) (t s : ℕ) (o p : Outside) (u : ℕ) (f : Device → Device) → SameCards o p
      → ((j : ℕ) → (j ≡ u → ⊥) → b j ≡ a j) → ((j : ℕ) → (j ≡ u → ⊥) → n j ≡ m j) → ((j : ℕ) → (j ≡ u → ⊥) → changes j p.now ≡ changes j o.now)
      → device_at read b n p u ≡ option_map f (device_at read a m o u)
      → world_at read b n e s p ≡ record (change_device (world_at read a m d t o) u f) { default = e; minute = s }
  world-changed a b m n d e t s o p u f cards syncs marks same here =
      ap {A = List (Option Device)} {B = World} (λ us. record { units = us; default = e; minute = s; cursors = replicate 32 None })
      (numbers-change f (device_at read a m o) (device_at read b n p) u (λ j l. device-stays a b m n o p j cards (syncs j l) (marks j l) (same j l)) here)

  -- worlds of the same devices
  pub world-alike : (a b m n : ℕ → Bool) (d e : Option ℕ) (t s : ℕ) (o p : Outside) → ((j : ℕ) → device_at read b n p j ≡ device_at read a m o j) → e ≡ d → s ≡ t
      → world_at read b n e s p ≡ world_at read a m d t o
  world-alike a b m n d e t s o p same default minute =
      ap {A = List (Option Device)} {B = World} (λ us. record { units = us; default = e; minute = s; cursors = replicate 32 None }) (each unit_numbers)
      ∙ ap {A = Option ℕ} {B = World} (λ x. record { units = map (device_at read a m o) unit_numbers; default = x; minute = s; cursors = replicate 32 None }) default
      ∙ ap {A = ℕ} {B = World} (λ x. record { units = map (device_at read a m o) unit_numbers; default = d; minute = x; cursors = replicate 32 None }) minute
    where
      each : (us : List ℕ) → map (device_at read b n p) us ≡ map (device_at read a m o) us
      each [] = refl
      each (k ∷ us) = ap {A = Option Device} (λ x. x ∷ map (device_at read b n p) us) (same k) ∙ ap {A = List (Option Device)} (λ xs. device_at read a m o k ∷ xs) (each us)

-- ---- cursors

-- where no cursor is open, there is nothing to settle
pub settle-none : (w : World) → w.cursors ≡ replicate 32 None → settle w ≡ w
settle-none w h =
    ap {A = List (Option _)} {B = World} (λ ks. record w { cursors = map (option_map (settle_cursor w)) ks }) h
    ∙ ap {A = List (Option _)} {B = World} (λ ks. record w { cursors = ks }) (sym h)
