-- Entries as their records are read.
use Rattle.std.proofs.Common.{◌≡◌, ℕ, ◌%◌, true, Bool, cond, List, zip, Option, Some, None, refl, sym, ◌∙◌, ap, subst}
use Rattle.std.specs.FinMap as map
use Rattle.std.specs.Option.{is_some, option_and_then}
use Rattle.newt_spec_image.specs.Objects.{Objects}
use Rattle.newt_spec_nsof.specs.Lengths.{skeleton}
use Rattle.newt_spec_graph.proofs.Lists.{each-more}
use Rattle.newt_spec_store.specs.Image.{entry_bytes, larges}
use Rattle.newt_spec_store.specs.Laid.{IsThere}
use Rattle.newt_spec_store.specs.Lies.{Places, IsIn, AreLarges}
use Rattle.newt_spec_store.specs.Store.{Soup, Store, Entry, entry_of, entry_at}
use Rattle.newt_spec_store.specs.StoreOf.{entry_of_row, only}
use Rattle.newt_spec_store.specs.Valid.{valid_entry}
use Rattle.newt_laws_images.proofs.Finite.{object-get}
use Rattle.newt_laws_images.proofs.Placed.{entry-fits}
use Rattle.newt_laws_images.proofs.Records.{record-back, entry-back}
use Rattle.newt_laws_changes.specs.Written.{Names}
use Rattle.newt_laws_changes.proofs.Fresh.{in_valid}
use Rattle.newt_laws_changes.proofs.Members.{is_in_found}
use Rattle.newt_laws_changes.proofs.Places.{place-there}
use Rattle.newt_soupdir.specs.declared.rows.Directory.{Directory}
use Rattle.newt_nsof_flat.specs.Stream.{stream_graph}
use Rattle.newt_nsof_flat.proofs.Streams.{reads_graphs}
use Rattle.newt_store_catalog.specs.Reading.{IsLaidAt}
use Rattle.newt_store_catalog.specs.Stands.{Describes}
use Rattle.newt_store.proofs.Found.{placed-entry, entry-placed}

module _ (directory : Directory) (place : Places) (names : Names) (texts : Objects) (s : Store) (d : Describes directory place names texts s) where
  -- the record of an entry, whose large binaries these objects have, is read as the entry
  pub laid-in : (id sig : ℕ) (e : Entry) (ids : List ℕ) → IsIn s sig e → map.get texts id ≡ Some (entry_bytes sig e ids) → AreLarges texts e.graph ids → IsLaidAt texts id sig e ids
  laid-in id sig e ids is at there =
      let fits = entry-fits texts place s sig e ids d.lies d.formed is there in
      let valid : valid_entry e ≡ true = in_valid s sig e d.formed is e.uid e.time in
      record {
        bytes_are = at;
        larges_are = there;
        fits = fits;
        read = ap (λ o. only (λ (x : ℕ × Entry). valid_entry x.1) (option_and_then (entry_of_row stream_graph (map.entries texts)) o)) (record-back sig e ids fits)
            ∙ ap (only (λ (x : ℕ × Entry). valid_entry x.1)) (entry-back stream_graph (map.entries texts) sig e ids (reads_graphs.back (skeleton e.graph) (d.lies.skeletons sig e is)) there.each_named
            (each-more _ (IsThere (map.entries texts)) (zip (larges e.graph) ids) (λ l k. (k.0, k.1, object-get texts l.1 ∙ k.3)) there.there))
            ∙ ap {A = Bool} {B = Option (ℕ × Entry)} (λ b. cond b (Some (sig, e)) None) valid;
        valid = valid;
      }

  -- an entry that has a place, as it lies there
  pub record FoundAt (sig uid id : ℕ) : Type 0 where
    pub entry : Entry
    pub found : entry_at sig uid s ≡ Some entry
    pub is_in : IsIn s sig entry
    pub of_uid : entry.uid ≡ uid
    pub odd : id % 2 ≡ 1
    pub laid : IsLaidAt texts id sig entry (names id)

  pub found-at : (sig uid id : ℕ) → place sig uid ≡ Some id → FoundAt sig uid id
  found-at sig uid id at =
      let w = place-there texts place s sig uid id d.lies at in
      let f = is_in_found sig s w.0 d.formed w.1 in
      record {
        entry = w.0;
        found = ap (λ (o : Option Soup). option_and_then (entry_of uid) o) f.1 ∙ ap (λ (u : ℕ). entry_of u f.0) (sym w.2) ∙ f.2;
        is_in = w.1;
        of_uid = w.2;
        odd = w.3;
        laid = subst (λ (ids : List ℕ). IsLaidAt texts id sig w.0 ids) (sym (d.names_are id)) (laid-in id sig w.0 (d.lies.named id) w.1 w.4 w.5);
      }

  -- an entry has a place exactly where it is there
  pub no-entry-at : (sig uid : ℕ) → place sig uid ≡ None → entry_at sig uid s ≡ None
  no-entry-at sig uid none = cases (entry_at sig uid s) refl where
    cases : (o : Option Entry) → entry_at sig uid s ≡ o → entry_at sig uid s ≡ None
    cases None e = e
    cases (Some x) e = let w = entry-placed directory place names texts s d sig uid x e in absurd (let isnt : None ≡ Some w.5 = sym none ∙ w.6 in cc)

  pub has-entry : (sig uid : ℕ) → is_some (place sig uid) ≡ is_some (entry_at sig uid s)
  has-entry sig uid = cases (place sig uid) refl where
    cases : (o : Option ℕ) → place sig uid ≡ o → is_some (place sig uid) ≡ is_some (entry_at sig uid s)
    cases None e = ap is_some e ∙ sym (ap is_some (no-entry-at sig uid e))
    cases (Some id) e = ap is_some e ∙ sym (ap is_some (placed-entry directory place names texts s d sig uid id e).1)
