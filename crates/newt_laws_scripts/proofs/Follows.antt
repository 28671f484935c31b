-- A run over what a crash of an earlier one has left.
use Rattle.std.proofs.Common.{ℕ, zero, suc, ◌≡◌, ◌≤◌, ◌<◌, refl, ◌∙◌, ap, arith, List, [], ◌∷◌, length, map, Option, Some, None}
use Rattle.std.specs.Prelude.{slice_get, option_map, option_and_then}
use Rattle.newt_spec_store.specs.Store.{Store}
use Rattle.newt_spec_world.specs.First.{media_of, device_of, unit_of, unit_numbers, world_of}
use Rattle.newt_spec_world.specs.World.{Device, flat, store_of, store_on_unit}

-- a place of a list is one of its first
inside : {A : Type 0} (xs : List A) (u : ℕ) (x : A) → slice_get xs u ≡ Some x → u < length xs
inside [] u x is = absurd (cc)
inside (y ∷ ys) zero x is = omega arith
inside (y ∷ ys) (suc u) x is = let low = inside ys u x is in omega (arith, low)

-- a value at each of the eight numbers
at_number : {A : Type 0} (f : ℕ → A) (u : ℕ) → u < 8 → slice_get (map f unit_numbers) u ≡ Some (f u)
at_number f zero low = refl
at_number f (suc zero) low = refl
at_number f (suc (suc zero)) low = refl
at_number f (suc (suc (suc zero))) low = refl
at_number f (suc (suc (suc (suc zero)))) low = refl
at_number f (suc (suc (suc (suc (suc zero))))) low = refl
at_number f (suc (suc (suc (suc (suc (suc zero)))))) low = refl
at_number f (suc (suc (suc (suc (suc (suc (suc zero))))))) low = refl
at_number f (suc (suc (suc (suc (suc (suc (suc (suc u)))))))) low = absurd (omega (arith, low))

module _ (reads : List ℕ → Option Store) (held : List ℕ → Option (List ℕ)) (names : List (List ℕ)) where
  named : (u : ℕ) (image : List ℕ) → option_and_then held (slice_get names u) ≡ Some image → (name : List ℕ) × (slice_get names u ≡ Some name)
  named u image is = go (slice_get names u) is
    where
      go : (o : Option (List ℕ)) → option_and_then held o ≡ Some image → (name : List ℕ) × (o ≡ Some name)
      go None none = absurd (cc)
      go (Some name) some = (name, refl)

  pub begins : (u : ℕ) (image : List ℕ) (found : Store) → length names ≤ 8 → option_and_then held (slice_get names u) ≡ Some image → reads image ≡ Some found
      → store_on_unit (world_of reads held names) u ≡ Some found
  begins u image found few is read =
      let name = named u image is in
      let low = inside names u name.0 name.1 in
      let unit_is : unit_of reads held names u ≡ Some (device_of reads held image) = ap (option_map (device_of reads held)) is in
      ap (λ (o : Option (Option Device)). option_and_then (λ d. store_of d.media) (flat o)) (at_number (unit_of reads held names) u (omega (arith, low, few)))
      ∙ ap (λ (o : Option Device). option_and_then (λ d. store_of d.media) o) unit_is
      ∙ ap (λ (o : Option Store). store_of (media_of o)) read
