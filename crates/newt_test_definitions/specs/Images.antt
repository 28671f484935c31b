-- Objects of small images.
use Rattle.std.specs.Prelude.{ℕ, List, [], ◌∷◌, codes, bytes_eq, Option, Some, None, if◌then◌else◌}
use Rattle.std.specs.Prelude.{replicate}
use Rattle.newt_graph.specs.Graph.{RawGraph}
use Rattle.newt_spec_nsof.specs.Flat.{flat}
use Rattle.newt_spec_nsof.specs.Lengths.{skeleton}
use Rattle.newt_spec_store.specs.Store.{Entry, Store, make_soup, add_entry, change_soup, new_store, with_info}
use Rattle.newt_spec_store.specs.Cost.{directory_bytes}
use Rattle.newt_spec_store.specs.Image.{ObjectList, entry_bytes}
use Rattle.newt_test_definitions.specs.Graphs.{one_slot}
use Rattle.newt_test_definitions.specs.Worlds.{wave, S}

-- a reader of one flat text, for the example
abbrev pub reads_wave : List ℕ → Option RawGraph
reads_wave text = let g = skeleton (wave 3) in if bytes_eq text (flat g) then Some g else None

-- a new store
abbrev pub internal : Store
internal = new_store (codes "Internal") 7

-- a store with one soup and one entry
abbrev pub with_wave : Store
with_wave = change_soup S (add_entry 5 (wave 3)) (make_soup S internal)

-- the entry, which has a large binary
abbrev pub wave_entry : Entry
wave_entry = record { uid = 0; time = 5; graph = wave 3 }

-- the objects that write the store down
abbrev pub objects_with_wave : ObjectList
objects_with_wave =
    (2, replicate 3 0) ∷ (0, directory_bytes with_wave) ∷ (1, entry_bytes 0 wave_entry (2 ∷ []))
    ∷ []

-- a reader of another flat text
abbrev pub reads_slot : List ℕ → Option RawGraph
reads_slot text = if bytes_eq text (flat one_slot) then Some one_slot else None

-- a store with one soup, which has an info frame
abbrev pub with_slot : Store
with_slot = change_soup S (with_info (Some one_slot)) (make_soup S internal)
