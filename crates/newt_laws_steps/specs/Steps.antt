-- What holds of worlds from step to step, where devices may fail.
use Rattle.std.specs.Prelude.{◌≡◌, ℕ, false, List}
use Rattle.newt_laws_changes.specs.Later.{StoreLater, EntryGone, SoupGone}
use Rattle.newt_spec_graph.specs.Lists.{Each, Among}
use Rattle.newt_spec_script.specs.Rows.{Row}
use Rattle.newt_spec_store.specs.Store.{Store}
use Rattle.newt_spec_world.specs.Reply.{Reply}
use Rattle.newt_spec_world.specs.World.{World, stores_on, unsure_on}

-- it is known of each unit what it holds (this project's own)
abbrev pub AllSure : World → Type 0
AllSure w = (u : ℕ) → unsure_on w u ≡ false

-- the reply says of no unit that its device failed (this project's own)
abbrev pub IsQuiet : Reply → Type 0
IsQuiet reply = (u : ℕ) → reply ≡ Reply.thrown u → ⊥

-- no reply of a run says so of any unit (this project's own)
abbrev pub AreQuiet : {W : Type 0} → List (Row W) → Type 0
AreQuiet {W} rows = Each (λ (row : Row W). IsQuiet row.1) rows

-- Stores of which one is held, at a later time. Each of them is a later state of one of those
-- before, and there is one. (this project's own)
pub record StoresLater (before after : List Store) : Type 0 where
  pub each : (t : Store) → Among after t → (s : Store) × Among before s × StoreLater s t
  pub some : (t : Store) × Among after t

-- each unit that has a store, or one of two, has a later state of one of them (this project's own)
abbrev pub WorldMayBeLater : World → World → Type 0
WorldMayBeLater w v = (u : ℕ) (s : Store) → Among (stores_on w u) s → StoresLater (stores_on w u) (stores_on v u)

-- The unit has a store, or one of two, and no store that it may have has an entry of this id,
-- though it was given. (this project's own)
pub record EntryGoneOn (w : World) (u sig uid : ℕ) : Type 0 where
  pub some : (s : Store) × Among (stores_on w u) s
  pub gone : Each (EntryGone sig uid) (stores_on w u)

-- the same of a soup of this signature (this project's own)
pub record SoupGoneOn (w : World) (u sig : ℕ) : Type 0 where
  pub some : (s : Store) × Among (stores_on w u) s
  pub gone : Each (SoupGone sig) (stores_on w u)
