-- A world in which it is not known what some units hold, and the worlds in which something is meant
-- of them, that is assumed. All of it is this project's own.
use Rattle.std.specs.Prelude.{◌≡◌, ℕ, zero, suc, true, false, List, [], ◌∷◌, Option, Some, None, option_map}
use Rattle.newt_spec_world.specs.World.{World, Device, Media, blank, lost, is_unsure, device}

-- what is held; or what is meant of it, where nothing is known
abbrev pub over : Media → Media → Media
over meant lost = meant
over meant media = media

-- the same of a device
abbrev pub over_device : Media → Device → Device
over_device meant d = record d { media = over meant d.media }

-- the units, where this is meant of each one of which nothing is known
abbrev pub over_units : (ℕ → Media) → List (Option Device) → List (Option Device)
over_units meant [] = []
over_units meant (d ∷ ds) = option_map (over_device (meant 0)) d ∷ over_units (λ u. meant (suc u)) ds

-- the world where this is meant of each unit of which nothing is known
abbrev pub meant_by : (ℕ → Media) → World → World
meant_by meant w = record w { units = over_units meant w.units }

-- it is known of each mounted unit what it holds
abbrev pub MountedSure : World → Type 0
MountedSure w = (u : ℕ) (d : Device) → device w u ≡ Some d → d.mounted ≡ true → is_unsure d.media ≡ false

-- this is meant of one unit; of the others is meant what was before
abbrev pub put_at : ℕ → Media → (ℕ → Media) → ℕ → Media
put_at zero m meant zero = m
put_at zero m meant (suc n) = meant (suc n)
put_at (suc u) m meant zero = meant 0
put_at (suc u) m meant (suc n) = put_at u m (λ k. meant (suc k)) n

-- what a unit holds in a world, and nothing where it has no device
abbrev pub media_on : World → ℕ → Media
media_on w u = elim (device w u) [ None ↦ blank | Some d ↦ d.media ]
