-- What was gathered where the records of entries were read is gathered of the store.
use Rattle.newt_spec_store.specs.Reading.{written}
use Rattle.std.proofs.Common.{◌≡◌, ℕ, cond, List, Option, Some, None, option_map, option_and_then, refl, sym, ◌∙◌, ap, subst}
use Rattle.std.specs.FinMap as map
use Rattle.std.specs.Prelude.{bytes_eq}
use Rattle.newt_graph.specs.Graph.{RawGraph}
use Rattle.newt_spec_image.specs.Objects.{Objects}
use Rattle.newt_spec_nsof.specs.Lengths.{skeleton}
use Rattle.newt_spec_nsof.specs.Flat.{flat}
use Rattle.newt_spec_graph.proofs.Lists.{none-some, some-same}
use Rattle.newt_spec_store.specs.Image.{entry_bytes}
use Rattle.newt_spec_store.specs.Laid.{row_of}
use Rattle.newt_spec_store.specs.Lies.{Places, IsIn, record_read}
use Rattle.newt_spec_store.specs.Store.{Store, Entry, entry_at}
use Rattle.newt_spec_store.specs.StoreOf.{EntryRow as PlainRow}
use Rattle.newt_laws_images.proofs.Alone.{alone, bad-alone}
use Rattle.newt_laws_images.proofs.Records.{record-back, bytes-same}
use Rattle.newt_laws_changes.specs.Written.{Names}
use Rattle.newt_objects.specs.Changing.{HoldsObjects}
use Rattle.newt_objects_commit.specs.Names.{names_of}
use Rattle.newt_objects_commit.specs.Places.{place_of}
use Rattle.newt_soupdir.specs.Bare.{bare_store}
use Rattle.newt_soupdir.specs.declared.rows.Directory.{Directory}
use Rattle.newt_nsof_flat.specs.Stream.{stream_graph}
use Rattle.newt_nsof_flat.proofs.Streams.{reads_graphs}
use Rattle.newt_store_catalog.specs.Gathering.{Graphs, HasGathered, skeleton_read, skeleton_at}
use Rattle.newt_store_catalog.specs.Reading.{IsLaidAt}
use Rattle.newt_store_catalog.specs.Stands.{Describes, StandsFor}
use Rattle.newt_store_catalog.specs.declared.catalog.Catalog.{Catalog}
use Rattle.newt_store.specs.Calls.{AreGathered}
use Rattle.newt_store.proofs.Entries.{found-at, no-entry-at}

module _ (directory : Directory) (place : Places) (names : Names) (texts : Objects) (s : Store) (d : Describes directory place names texts s) where
  -- the graph of an entry's record
  of-record : (id sig : ℕ) (e : Entry) (ids : List ℕ) → IsLaidAt texts id sig e ids → IsIn s sig e → skeleton_read (entry_bytes sig e ids) ≡ Some (skeleton e.graph)
  of-record id sig e ids laid is-in = go (record_read stream_graph (entry_bytes sig e ids)) refl
    where
      bytes : List ℕ
      bytes = entry_bytes sig e ids

      text : written stream_graph (flat (skeleton e.graph)) ≡ Some (skeleton e.graph)
      text = ap (option_and_then (λ g. cond (bytes_eq (flat g) (flat (skeleton e.graph))) (Some g) None)) (reads_graphs.back (skeleton e.graph) (d.lies.skeletons sig e is-in))
          ∙ ap (λ b. cond b (Some (skeleton e.graph)) None) (bytes-same (flat (skeleton e.graph)))

      go : (o : Option (PlainRow × RawGraph)) → record_read stream_graph bytes ≡ o → option_map (λ r. r.1) o ≡ Some (skeleton e.graph)
      go None is = absurd (none-some (sig, e) (sym (bad-alone stream_graph texts bytes is) ∙ laid.read))
      go (Some (row, g)) is =
          let a = alone stream_graph bytes row g is in
          sym a.is_written ∙ ap (λ (r : PlainRow). written stream_graph r.text) (some-same row (row_of sig e ids) (sym a.is_row ∙ record-back sig e ids laid.fits)) ∙ text

  skeletons-are : (sig uid : ℕ) → skeleton_at texts place sig uid ≡ option_map (λ e. skeleton e.graph) (entry_at sig uid s)
  skeletons-are sig uid = go (place sig uid) refl
    where
      go : (o : Option ℕ) → place sig uid ≡ o → option_and_then (λ id. option_and_then skeleton_read (map.get texts id)) o ≡ option_map (λ e. skeleton e.graph) (entry_at sig uid s)
      go None at = sym (ap (option_map (λ e. skeleton e.graph)) (no-entry-at directory place names texts s d sig uid at))
      go (Some id) at =
          let f = found-at directory place names texts s d sig uid id at in
          ap (option_and_then skeleton_read) f.laid.bytes_are ∙ of-record id sig f.entry (names id) f.laid f.is_in ∙ sym (ap (option_map (λ e. skeleton e.graph)) f.found)

-- what was gathered over the objects of an image, where a catalog and the image stand for a store
pub gathered-of : {G : Type 0} (gathers : Store → Graphs → G → Type 0) (catalog : Catalog) (now : List ℕ) (s : Store) (gathered : G) → StandsFor catalog s now
    → ((texts : Objects) → HoldsObjects now texts → HasGathered gathers (bare_store catalog.directory) (place_of catalog.places) gathered texts) → AreGathered gathers s gathered
gathered-of gathers catalog now s gathered stands has =
    let h = has stands.texts stands.holds in
    record {
      told = h.told;
      gathered = subst (λ (b : Store). gathers b h.told gathered) (sym stands.describes.bare_is) h.gathered;
      are = λ sig uid. h.are sig uid ∙ skeletons-are catalog.directory (place_of catalog.places) (names_of catalog.names) stands.texts s stands.describes sig uid;
    }
