-- The devices of a host as they are at one moment, and at another. All of it is this project's own.
use Rattle.std.specs.Prelude.{◌≡◌, ℕ, Bool, false, IsTrue, List, map, Option, option_map}
use Rattle.newt_host.specs.Moments.{changes, image}
use Rattle.newt_host.specs.Outside.{Outside, SameCards, SameCounts}
use Rattle.newt_spec_store.specs.Store.{Store}
use Rattle.newt_spec_world.specs.First.{media_of, unit_numbers}
use Rattle.newt_spec_world.specs.World.{World, Device, first_world}

-- The devices are the same, and the same are attached. Nothing that is counted was done to one.
-- With `told`, no unit was changed in between.
pub record SameDevices (told : Bool) (old new : Outside) : Type 0 where
  pub cards : SameCards old new
  pub counts : SameCounts old new
  pub changes : IsTrue told → (unit : ℕ) → changes unit new.now ≡ changes unit old.now

module _ (store_of_image : List ℕ → Option Store) where
  -- the device that is attached to a unit, not mounted
  abbrev pub device_now : Outside → ℕ → Option Device
  device_now outside unit = option_map (λ name. record {
    blocks = outside.blocks unit;
    media = media_of (store_of_image (image unit outside.now));
    mounted = false;
  }) (outside.card unit)

  -- the world of the devices that are attached, of which none is mounted
  abbrev pub world_now : Outside → World
  world_now outside = first_world (map (device_now outside) unit_numbers)
