-- The tests of commands, gathered by what they need to be there. Numbers, words and order of the
-- refusals are this project's own.
use Rattle.std.specs.Prelude.{ℕ, false, List, [], ◌∷◌}
use Rattle.newt_base.specs.Refusals.{Checks}
use Rattle.newt_spec_store.specs.Store.{new_store}
use Rattle.newt_spec_world.specs.World.{World, one, change_device}
use Rattle.newt_spec_world.specs.Refused.{either, no_unit, bad_blocks, is_mounted, not_mounted, no_soup, no_entry}

-- the tests that a store is mounted on the unit
abbrev pub unit_checks : World → ℕ → Checks
unit_checks w u = no_unit w u ∷ not_mounted w u ∷ []

-- the tests that there is a soup of a mounted store
abbrev pub soup_checks : World → ℕ → List ℕ → Checks
soup_checks w u name = no_unit w u ∷ not_mounted w u ∷ no_soup w u name ∷ []

-- the tests that there is an entry of such a soup
abbrev pub entry_checks : World → ℕ → List ℕ → ℕ → Checks
entry_checks w u name uid = no_unit w u ∷ not_mounted w u ∷ no_soup w u name ∷ no_entry w u name uid ∷ []

-- the tests that there are two such soups
abbrev pub both_checks : World → ℕ → List ℕ → ℕ → List ℕ → Checks
both_checks w u name v target =
    either (no_unit w u) (no_unit w v) ∷ either (not_mounted w u) (not_mounted w v) ∷ either (no_soup w u name) (no_soup w v target) ∷ []

-- the tests that a unit has banks and is not mounted
abbrev pub ready_checks : World → ℕ → Checks
ready_checks w u = no_unit w u ∷ bad_blocks w u ∷ is_mounted w u ∷ []

-- the world after a format
abbrev pub formatted : World → ℕ → List ℕ → ℕ → World
formatted w u name sig = change_device w u (λ d. record d { media = one (new_store name sig); mounted = false })
