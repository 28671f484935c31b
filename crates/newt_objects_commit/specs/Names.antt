-- Which objects the records of entries name: those of their large binaries.
use Rattle.std.specs.Prelude.{◌≡◌, ◌≢◌, ℕ, ◌%◌, ◌<◌, List, [], Option, Some, None, IsSome}
use Rattle.std.specs.Option.{option_map}
use Rattle.std.specs.BTreeMap as tree
use Rattle.std.specs.Ordering.{nat_cmp}
use Rattle.newt_spec_image.specs.Objects.{Table}
use Rattle.newt_spec_graph.specs.Lists.{Among, Pairs}
use Rattle.newt_objects_commit.specs.declared.names.NameTable.{NameTable}

-- the ids of a row, none where there is no row
abbrev pub ids_in : Option (List ℕ) → List ℕ
ids_in None = []
ids_in (Some ids) = ids

-- the ids of the objects that the record of an object names, in order
abbrev pub names_of : NameTable → ℕ → List ℕ
names_of names id = ids_in (option_map (λ ids. ids.items) (tree.get nat_cmp names.rows id))

-- a record has a row, so that keeping what it names takes no memory
abbrev pub IsReady : NameTable → ℕ → Type 0
IsReady names id = IsSome (tree.get nat_cmp names.rows id)

-- Each id that is named is that of an object, even and above 0; the record that names it is an object with an odd id; no id is named twice.
pub record AreSoundNames (table : Table) (names : ℕ → List ℕ) : Type 0 where
  pub there : (r o : ℕ) → Among (names r) o → IsSome (table o)
  pub even : (r o : ℕ) → Among (names r) o → (o % 2 ≡ 0) × (0 < o)
  pub records : (r o : ℕ) → Among (names r) o → IsSome (table r) × (r % 2 ≡ 1)
  pub by_one : (r q o : ℕ) → Among (names r) o → Among (names q) o → r ≡ q
  pub once : (r : ℕ) → Pairs (λ a b. a ≢ b) (names r)
