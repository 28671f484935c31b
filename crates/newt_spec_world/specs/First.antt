-- The world at the start of a run.
use Rattle.std.specs.Prelude.{ℕ, false, List, [], ◌∷◌, map, slice_get, Option, Some, None, option_map, option_and_then}
use Rattle.newt_spec_store.specs.Store.{Store}
use Rattle.newt_spec_store.specs.OfImage.{blocks_of}
use Rattle.newt_spec_world.specs.World.{World, Device, Media, blank, one, first_world}

-- the numbers of the eight units (this project's own)
abbrev pub unit_numbers : List ℕ
unit_numbers = 0 ∷ 1 ∷ 2 ∷ 3 ∷ 4 ∷ 5 ∷ 6 ∷ 7 ∷ []

-- what a device holds, by the store that its image is read as (this project's own)
abbrev pub media_of : Option Store → Media
media_of None = blank
media_of (Some s) = one s

module _ (store_of_image : List ℕ → Option Store) (held : List ℕ → Option (List ℕ)) where
  -- a device of this image, which is not mounted (this project's own)
  abbrev pub device_of : List ℕ → Device
  device_of image = record { blocks = blocks_of image; media = media_of (store_of_image image); mounted = false }

  -- Unit u has the device of the u-th name, if there is such a name and a device of it. `held`
  -- gives the bytes of the device of a name, and none where there is no such device. (this
  -- project's own)
  abbrev pub unit_of : List (List ℕ) → ℕ → Option Device
  unit_of names u = option_map device_of (option_and_then held (slice_get names u))

  -- the first world of a run with these names: nothing is mounted, the minute is 0 and no cursor is
  -- open (this project's own)
  abbrev pub world_of : List (List ℕ) → World
  world_of names = first_world (map (unit_of names) unit_numbers)
