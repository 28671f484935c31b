-- The whole at the start of a run.
use Rattle.std.specs.Prelude.{ℕ, List, Option}
use Rattle.newt_spec_store.specs.Store.{Store}
use Rattle.newt_spec_world.specs.First.{world_of}
use Rattle.newt_spec_whole.specs.Whole.{Whole, bare_whole}

module _ (store_of_image : List ℕ → Option Store) (held : List ℕ → Option (List ℕ)) where
  -- the first world of a run with these names, with no watches and no working copies
  -- (this project's own)
  abbrev pub whole_of : List (List ℕ) → Whole
  whole_of names = bare_whole (world_of store_of_image held names)
