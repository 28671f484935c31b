-- What a later world has of the stores of an earlier one.
use Rattle.std.specs.Prelude.{◌≡◌, ℕ, Some}
use Rattle.newt_spec_store.specs.Store.{Store}
use Rattle.newt_spec_world.specs.World.{World, store_on_unit}
use Rattle.newt_laws_changes.specs.Later.{StoreLater}

-- each unit with a store has a later state of that store
abbrev pub WorldLater : World → World → Type 0
WorldLater w v = (u : ℕ) (s : Store) → store_on_unit w u ≡ Some s → (t : Store) × (store_on_unit v u ≡ Some t) × StoreLater s t
