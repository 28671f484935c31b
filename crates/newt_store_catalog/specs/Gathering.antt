-- What is told of the entries where the store of a unit is found. This project's own.
use Rattle.std.specs.Prelude.{◌≡◌, ℕ, List, Option, Some, None, option_map, option_and_then}
use Rattle.std.specs.FinMap as map
use Rattle.newt_graph.specs.Graph.{RawGraph}
use Rattle.newt_spec_image.specs.Objects.{Objects}
use Rattle.newt_spec_store.specs.Lies.{Places, record_read}
use Rattle.newt_spec_store.specs.Store.{Store}
use Rattle.newt_nsof_flat.specs.Stream.{stream_graph}

-- the graphs that are told of entries, by the signature of the soup and the entry's id
abbrev pub Graphs : Type 0
Graphs = ℕ → ℕ → Option RawGraph

-- nothing is told
abbrev pub nothing : Graphs
nothing sig uid = None

-- The graph of one entry more is told, and of all others what was told before.
pub record IsOneMore (sig uid : ℕ) (graph : RawGraph) (told more : Graphs) : Type 0 where
  pub none : told sig uid ≡ None
  pub one : more sig uid ≡ Some graph
  pub others : (s u : ℕ) → ((s ≡ sig) → (u ≡ uid) → ⊥) → more s u ≡ told s u

-- the graph of a record, which is without the bytes of its large binaries; none where the bytes are no record
abbrev pub skeleton_read : List ℕ → Option RawGraph
skeleton_read bytes = option_map (λ r. r.1) (record_read stream_graph bytes)

-- the graph of the record that is the object of an entry's place
abbrev pub skeleton_at : Objects → Places → Graphs
skeleton_at texts place sig uid = option_and_then (λ id. option_and_then skeleton_read (map.get texts id)) (place sig uid)

-- what was gathered is that of the records of these places
pub record HasGathered {G : Type 0} (gathers : Store → Graphs → G → Type 0) (d : Store) (place : Places) (gatherer : G) (texts : Objects) : Type 0 where
  pub told : Graphs
  pub gathered : gathers d told gatherer
  pub are : (sig uid : ℕ) → told sig uid ≡ skeleton_at texts place sig uid
