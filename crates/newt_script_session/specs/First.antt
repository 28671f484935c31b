-- The whole before the first command.
use Rattle.std.specs.Prelude.{ℕ, List, Option}
use Rattle.newt_host.specs.Outside.{Outside}
use Rattle.newt_spec_store.specs.Store.{Store}
use Rattle.newt_spec_whole.specs.Whole.{Whole, bare_whole}
use Rattle.newt_laws_steps.specs.Devices.{world_now}

-- the world of the devices that are attached, none of which is mounted, with no watches and no
-- working copies
abbrev pub unmounted : (List ℕ → Option Store) → Outside → Whole
unmounted store_of_image outside = bare_whole (world_now store_of_image outside)
