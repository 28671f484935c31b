-- A row that is written is the record of its entry.
use Rattle.std.proofs.Common.{arith, ◌≡◌, ap, sym, ◌∙◌, ℕ, List, ◌++◌, length, map, zip}
use Rattle.std.specs.List.{flat_map}
use Rattle.std.proofs.lemmas.List.{length-map}
use Rattle.std.proofs.lemmas.List.Folds.{flat_map-map}
use Rattle.std.proofs.lemmas.Slice.Zip.{length-zip}
use Rattle.newt_base.specs.Text.{be16, be32}
use Rattle.newt_graph.specs.Graph.{RawGraph}
use Rattle.newt_spec_nsof.specs.Flat.{flat}
use Rattle.newt_spec_store.specs.Image.{larges, large_row, entry_bytes}
use Rattle.newt_spec_store.specs.Laid.{Named, row_of_large}
use Rattle.newt_spec_store.specs.Store.{Entry}
use Rattle.newt_laws_images.proofs.Spelt.{large_bytes as spelled}
use Rattle.newt_entries.specs.declared.row.LargeAt.{LargeAt}
use Rattle.newt_entries.specs.Entry.{row_at, large_bytes, AreRowsOf}

rows-spelled : (rows : List LargeAt) (ls : List Named) → map row_at rows ≡ map row_of_large ls → flat_map large_bytes rows ≡ flat_map large_row ls
rows-spelled rows ls h = sym (flat_map-map spelled row_at rows) ∙ ap (flat_map spelled) h ∙ flat_map-map spelled row_of_large ls

pub as-many-rows : (bare : RawGraph) (rows : List LargeAt) (g : RawGraph) (ids : List ℕ) → AreRowsOf bare rows g ids → length rows ≡ length ids
as-many-rows bare rows g ids are =
    let each = are.each_named in
    let rowed = sym (length-map rows row_at) ∙ ap length are.rows_are ∙ length-map (zip (larges g) ids) row_of_large ∙ length-zip (larges g) ids in
    omega (arith, each, rowed)

pub is-record : (out : List ℕ) (soup uid time : ℕ) (bare : RawGraph) (rows : List LargeAt) (e : Entry) (ids : List ℕ) → e.uid ≡ uid → e.time ≡ time → AreRowsOf bare rows e.graph ids
    → out ≡ be16 soup ++ be16 (length rows) ++ be32 uid ++ be32 time ++ flat bare → out ++ flat_map large_bytes rows ≡ entry_bytes soup e ids
is-record out soup uid time bare rows e ids of_uid of_time are is =
    ap (λ bs. bs ++ flat_map large_bytes rows) is
    ∙ (λ i. be16 soup ++ be16 (as-many-rows bare rows e.graph ids are i) ++ be32 (uid-of i) ++ be32 (time-of i) ++ flat (are.skeleton_is i) ++ rows-spelled rows (zip (larges e.graph) ids) are.rows_are i)
  where
    uid-of : uid ≡ e.uid
    uid-of = sym of_uid

    time-of : time ≡ e.time
    time-of = sym of_time
