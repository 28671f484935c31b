-- A directory and entries as a program has them, and the store that they are.
use Rattle.std.specs.Prelude.{◌≡◌, ◌<◌, ◌≤◌, ℕ, true, List, [], length, map}
use Rattle.newt_graph.specs.Graph.{IsGraph}
use Rattle.newt_spec_store.specs.Store.{Store}
use Rattle.newt_spec_store.specs.Image.{all_entries}
use Rattle.newt_spec_store.specs.Laid.{bare}
use Rattle.newt_spec_store.specs.Valid.{valid}
use Rattle.newt_soupdir.specs.declared.rows.Directory.{Directory}
use Rattle.newt_soupdir.specs.Bare.{bare_store}
use Rattle.newt_entries.specs.Full.{as_entry, told}
use Rattle.newt_entries.specs.declared.full.FullEntry.{FullEntry}
use Rattle.newt_backup.specs.Backup.{full, IsKept}
use Rattle.newt_backup.specs.Together.{together, left_over}

-- the entry's text
abbrev pub text_of : FullEntry → List ℕ
text_of e = full e.soup (as_entry e)

-- the store that they are
abbrev pub store_in : Directory → List FullEntry → Store
store_in d es = together (bare_store d) (map told es)

-- what the type of an entry says of it: its graph is in normal form, and its minute fits in four
-- bytes
abbrev pub IsSound : FullEntry → Type 0
IsSound e = IsGraph e.graph × (e.time < 4294967296)

-- what holds for each entry of a store of some unit: its soup's signature fits in two bytes, and
-- its text is no longer than all texts may be
abbrev pub IsSmall : FullEntry → Type 0
IsSmall e = (e.soup < 65536) × (length (text_of e) ≤ 7_989_000)

-- They are a store of some unit, and the entries stand in its order.
pub record AreKept (d : Directory) (es : List FullEntry) : Type 0 where
  pub kept : IsKept (store_in d es)
  pub in_order : left_over (bare_store d).soups (map told es) ≡ []

-- No store of any unit has this directory and these entries.
abbrev pub IsNoStore : Directory → List FullEntry → Type 0
IsNoStore d es = (s : Store) → valid 4099 s ≡ true → bare s ≡ bare_store d → all_entries s ≡ map told es → ⊥
