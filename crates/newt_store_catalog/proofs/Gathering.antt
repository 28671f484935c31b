-- What is gathered of entries, one record after the other.
use Rattle.std.proofs.Common.{◌≡◌, ℕ, Option, Some, None, option_map, option_and_then, sym, ◌∙◌, ap, refl}
use Rattle.std.specs.FinMap as map
use Rattle.newt_graph.specs.Graph.{RawGraph}
use Rattle.newt_spec_image.specs.Objects.{Objects}
use Rattle.newt_spec_store.specs.Lies.{Places}
use Rattle.newt_spec_store.specs.Store.{Store}
use Rattle.newt_entries.specs.declared.row.EntryRow.{EntryRow}
use Rattle.newt_store_catalog.specs.Gathering.{Graphs, nothing, IsOneMore, HasGathered, skeleton_read, skeleton_at}
use Rattle.newt_store_catalog.specs.Opening.{IsRow}

-- the record of an object, which has a place or none
abbrev record-at : Objects → Option ℕ → Option RawGraph
record-at texts at = option_and_then (λ id. option_and_then skeleton_read (map.get texts id)) at

module _ {G : Type 0} (gathers : Store → Graphs → G → Type 0) (d : Store) (texts : Objects) (place : Places) where
  -- before the first record
  pub gathered-none : (gathered : G) → ((sig uid : ℕ) → place sig uid ≡ None) → gathers d nothing gathered → HasGathered gathers d place gathered texts
  gathered-none gathered none begun = record { told = nothing; gathered = begun; are = λ sig uid. sym (ap (record-at texts) (none sig uid)) }

  -- one record more
  pub gathered-next : (place' : Places) (id : ℕ) (row : EntryRow) (old new : G) → IsRow id row texts → place row.soup row.uid ≡ None → place' row.soup row.uid ≡ Some id
      → ((s u : ℕ) → ((s ≡ row.soup) → (u ≡ row.uid) → ⊥) → place' s u ≡ place s u)
      → ((d : Store) (told more : Graphs) → gathers d told old → IsOneMore row.soup row.uid row.skeleton told more → gathers d more new)
      → HasGathered gathers d place old texts → HasGathered gathers d place' new texts
  gathered-next place' id row old new is free placed others more h = record {
    told = skeleton_at texts place';
    gathered = more d h.told (skeleton_at texts place') h.gathered (record {
      none = h.are row.soup row.uid ∙ ap (record-at texts) free;
      one = ap (record-at texts) placed ∙ ap (option_and_then skeleton_read) is.object ∙ ap (option_map (λ r. r.1)) is.read;
      others = λ s u not. ap (record-at texts) (others s u not) ∙ sym (h.are s u);
    });
    are = λ sig uid. refl;
  }
