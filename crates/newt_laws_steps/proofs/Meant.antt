-- What a world shows does not go by what is held on a unit of which nothing is known.
use Rattle.std.proofs.Common.{◌≡◌, refl, ap, ◌∙◌, ℕ, zero, suc, ◌+◌, List, [], ◌∷◌, true, false, Bool, cond, Option, Some, None, option_map, option_and_then}
use Rattle.std.specs.Prelude.{slice_get, filter_map}
use Rattle.std.specs.List.{cons_option, enumerate_from}
use Rattle.newt_spec_store.specs.Store.{Store, soup_named, entry_of}
use Rattle.newt_spec_world.specs.World.{World, Device, Media, blank, one, two, lost, is_unsure, flat, on_unit, device, store_of, mounted_store, mounted_stores, mounted, soup_in, entry_in, change_at, change_device}
use Rattle.newt_laws_steps.specs.Meant.{over, over_device, over_units, meant_by, MountedSure}

-- a device of which it is known what it holds, where it is mounted
abbrev pub Sure : Device → Type 0
Sure d = d.mounted ≡ true → is_unsure d.media ≡ false

-- the same of units
abbrev pub SureUnits : List (Option Device) → Type 0
SureUnits us = (u : ℕ) (d : Device) → flat (slice_get us u) ≡ Some d → Sure d

-- ---- one unit

pub known-over : (m n : Media) → is_unsure n ≡ false → over m n ≡ n
known-over m blank h = refl
known-over m (one s) h = refl
known-over m (two a b) h = refl
known-over m lost h = cc

pub on-over : (m : Media) (o : Option Device) → ((d : Device) → o ≡ Some d → Sure d) → on_unit (option_map (over_device m) o) ≡ on_unit o
on-over m None h = refl
on-over m (Some d) h = go d.mounted (h d refl)
  where
    go : (b : Bool) → (b ≡ true → is_unsure d.media ≡ false) → cond b (store_of (over m d.media)) None ≡ cond b (store_of d.media) None
    go true k = ap store_of (known-over m d.media (k refl))
    go false k = refl

-- ---- the units

sure-rest : (x : Option Device) (xs : List (Option Device)) → SureUnits (x ∷ xs) → SureUnits xs
sure-rest x xs h u d e = h (suc u) d e

sure-first : (x : Option Device) (xs : List (Option Device)) → SureUnits (x ∷ xs) → (d : Device) → x ≡ Some d → Sure d
sure-first x xs h d e = h 0 d (ap flat (ap {A = Option Device} Some e))

pub get-over : (f : ℕ → Media) (us : List (Option Device)) (u : ℕ) → flat (slice_get (over_units f us) u) ≡ option_map (over_device (f u)) (flat (slice_get us u))
get-over f [] u = refl
get-over f (x ∷ xs) zero = refl
get-over f (x ∷ xs) (suc u) = get-over (λ n. f (suc n)) xs u

stores-over : (f : ℕ → Media) (us : List (Option Device)) → SureUnits us → filter_map on_unit (over_units f us) ≡ filter_map on_unit us
stores-over f [] h = refl
stores-over f (x ∷ xs) h = λ i. cons_option (on-over (f 0) x (sure-first x xs h) i) (stores-over (λ n. f (suc n)) xs (sure-rest x xs h) i)

abbrev numbered : ℕ × Option Device → Option (ℕ × Store)
numbered d = option_map (λ s. (d.0, s)) (on_unit d.1)

mounted-over : (f : ℕ → Media) (n : ℕ) (us : List (Option Device)) → SureUnits us → filter_map numbered (enumerate_from n (over_units f us)) ≡ filter_map numbered (enumerate_from n us)
mounted-over f n [] h = refl
mounted-over f n (x ∷ xs) h = λ i. cons_option (option_map {U = ℕ × Store} (λ s. (n, s)) (on-over (f 0) x (sure-first x xs h) i)) (mounted-over (λ n. f (suc n)) (n + 1) xs (sure-rest x xs h) i)

-- a change of one of them
change-over : (f : ℕ → Media) (g : Device → Device) (u : ℕ) (us : List (Option Device))
    → ((d : Device) → flat (slice_get us u) ≡ Some d → g (over_device (f u) d) ≡ over_device (f u) (g d))
    → change_at u g (over_units f us) ≡ over_units f (change_at u g us)
change-over f g u [] h = refl
change-over f g zero (x ∷ xs) h = ap {A = Option Device} (λ o. o ∷ over_units (λ n. f (suc n)) xs) (here x (λ d e. h d (ap flat (ap {A = Option Device} Some e))))
  where
    here : (o : Option Device) → ((d : Device) → o ≡ Some d → g (over_device (f 0) d) ≡ over_device (f 0) (g d)) → option_map g (option_map (over_device (f 0)) o) ≡ option_map (over_device (f 0)) (option_map g o)
    here None l = refl
    here (Some d) l = ap Some (l d refl)
change-over f g (suc u) (x ∷ xs) h = ap {A = List (Option Device)} (λ os. option_map (over_device (f 0)) x ∷ os) (change-over (λ n. f (suc n)) g u xs h)

-- ---- the world

module _ (f : ℕ → Media) (w : World) where
  pub device-m : (u : ℕ) → device (meant_by f w) u ≡ option_map (over_device (f u)) (device w u)
  device-m u = get-over f w.units u

  pub change-m : (u : ℕ) (g : Device → Device) → ((d : Device) → device w u ≡ Some d → g (over_device (f u) d) ≡ over_device (f u) (g d))
      → change_device (meant_by f w) u g ≡ meant_by f (change_device w u g)
  change-m u g h = ap {A = List (Option Device)} (λ us. record w { units = us }) (change-over f g u w.units h)

  module _ (sure : MountedSure w) where
    pub stores-m : mounted_stores (meant_by f w) ≡ mounted_stores w
    stores-m = stores-over f w.units sure

    pub mounted-m : mounted (meant_by f w) ≡ mounted w
    mounted-m = mounted-over f 0 w.units sure

    pub store-m : (u : ℕ) → mounted_store (meant_by f w) u ≡ mounted_store w u
    store-m u = ap on_unit (device-m u) ∙ on-over (f u) (device w u) (sure u)

    pub soup-m : (u : ℕ) (name : List ℕ) → soup_in (meant_by f w) u name ≡ soup_in w u name
    soup-m u name = ap (option_and_then (soup_named name)) (store-m u)

    pub entry-m : (u : ℕ) (name : List ℕ) (uid : ℕ) → entry_in (meant_by f w) u name uid ≡ entry_in w u name uid
    entry-m u name uid = ap (option_and_then (entry_of uid)) (soup-m u name)
