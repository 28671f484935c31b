-- What is said of a query before its cursor is opened, and of the cursor.
use Rattle.std.specs.Prelude.{◌≡◌, ℕ, List, [], ◌∷◌, Option, Some, None, unwrap_or, cond, Result, Ok, Err}
use Rattle.newt_base.specs.Refusals.{Checks, first_of}
use Rattle.newt_base.specs.declared.Refusal.TheVariants.{Index as BadIndex, Limit}
use Rattle.newt_graph.specs.Graph.{RawGraph}
use Rattle.newt_spec_store.specs.Keys.{IndexSpec, Path}
use Rattle.newt_spec_store.specs.Store.{Store, soup_named}
use Rattle.newt_spec_query.specs.Hits.{Query, in_scope}
use Rattle.newt_spec_world.specs.Changed.{index_for, index_in_soup, opened}
use Rattle.newt_spec_world.specs.Refused.{bad_query, no_query_index, bad_keys}
use Rattle.newt_spec_world.specs.World.{World, free_cursor}
use Rattle.newt_cursor.specs.declared.query.Query as code
use Rattle.newt_cursor.specs.Seen.{query_of}
use Rattle.newt_store_change.specs.declared.fault.StoreFault.{StoreFault}
use Rattle.newt_store_change.specs.declared.fault.StoreFault.TheVariants.{Refused, Stop}

-- the declaration of these paths in the soup of this name of a store in scope (a word of these definitions)
abbrev pub index_in : Option ℕ → List ℕ → List Path → Store → Option IndexSpec
index_in scope name paths s = cond (in_scope scope s) (index_in_soup paths (soup_named name s)) None

-- the declaration of the paths that are asked for: the empty one where none are (this project's own)
abbrev pub index_asked : World → Option ℕ → List ℕ → Option (List Path) → Option IndexSpec
index_asked w scope name None = Some []
index_asked w scope name (Some paths) = index_for w scope name paths

-- what is tested of the frame of a query and of the soups that it is over (this project's own)
abbrev pub bind_tests : World → Option ℕ → List ℕ → RawGraph → Checks
bind_tests w scope name g = bad_query g ∷ no_query_index w scope name g ∷ bad_keys w scope name g ∷ []

-- the index that is asked for is found, or no soup has it (this project's own)
abbrev pub Indexes : World → Option ℕ → List ℕ → Option (List Path) → Result (Option IndexSpec) StoreFault → Type 0
Indexes w scope name paths (Ok index) = index_asked w scope name paths ≡ Some (unwrap_or index [])
Indexes w scope name paths (Err (Refused refusal)) = (index_asked w scope name paths ≡ None) × (refusal ≡ BadIndex)
Indexes w scope name paths (Err (Stop stop)) = Unit {0}

-- the query is made, or the first test that holds is answered (this project's own)
abbrev pub Binds : Checks → Query → Result code.Query StoreFault → Type 0
Binds tests q (Ok query) = (first_of tests ≡ None) × (query_of query ≡ q)
Binds tests q (Err (Refused refusal)) = first_of tests ≡ Some refusal
Binds tests q (Err (Stop stop)) = Unit {0}

-- a cursor of the query is opened on its first hit, or no number is free and nothing has changed (this project's own)
abbrev pub Opens : World → World → Query → Result ℕ StoreFault → Type 0
Opens w v q (Ok c) = (free_cursor w ≡ Some c) × (v ≡ opened w q)
Opens w v q (Err (Refused refusal)) = (refusal ≡ Limit) × (free_cursor w ≡ None) × (v ≡ w)
Opens w v q (Err (Stop stop)) = Unit {0}
