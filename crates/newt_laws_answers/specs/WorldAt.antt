-- The world that a host's devices stand for, with the marks that the program keeps of them. All of
-- it is this project's own.
use Rattle.std.specs.Prelude.{ℕ, Bool, List, map, replicate, Option, None, option_map, if◌then◌else◌}
use Rattle.newt_host.specs.Moments.{image}
use Rattle.newt_host.specs.Outside.{Outside}
use Rattle.newt_spec_store.specs.Store.{Store}
use Rattle.newt_spec_world.specs.World.{World, Device, lost}
use Rattle.newt_spec_world.specs.First.{media_of, unit_numbers}

module _ (store_of_image : List ℕ → Option Store) where
  -- the device of a unit: it holds the store that its image is read as; where a sync of it is due,
  -- it is not known what it holds
  abbrev pub device_at : (due mounted : ℕ → Bool) → Outside → ℕ → Option Device
  device_at due mounted outside u = option_map (λ name. record {
    blocks = outside.blocks u;
    media = if due u then lost else media_of (store_of_image (image u outside.now));
    mounted = mounted u;
  }) (outside.card u)

  -- the world of the eight units, by those of which a sync is due, the mounted ones, the default
  -- and the minute; no cursor is open
  abbrev pub world_at : (due mounted : ℕ → Bool) → Option ℕ → ℕ → Outside → World
  world_at due mounted default minute outside =
      record { units = map (device_at due mounted outside) unit_numbers; default = default; minute = minute; cursors = replicate 32 None }
