-- What is there on a unit. Stores that are mounted are Newton's (Newton Programmer's Guide 2.0).
use Rattle.std.specs.Prelude.{◌≡◌, ℕ, true, false, ◌||◌, nat_lt, Some}
use Rattle.newt_spec_store.specs.Store.{Store}
use Rattle.newt_spec_world.specs.World.{World, Media, one, device}

-- a store is mounted on the unit
pub record OnUnit (w : World) (u blocks : ℕ) (s : Store) : Type 0 where
  pub device_is : device w u ≡ Some (record { blocks = blocks; media = one s; mounted = true })

-- the unit's device has banks, and is not mounted
pub record IsReady (w : World) (u blocks : ℕ) (m : Media) : Type 0 where
  pub device_is : device w u ≡ Some (record { blocks = blocks; media = m; mounted = false })
  pub enough : (nat_lt blocks 13 || nat_lt 4099 blocks) ≡ false
