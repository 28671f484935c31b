-- The rows of objects of an image, by the objects that it holds.
use Rattle.std.proofs.Common.{arith, ◌≡◌, refl, sym, ◌∙◌, ap, ℕ, ◌%◌, ◌<◌, ◌≤◌, ◌⊎◌, Bool, true, false, List, length, cond, nat_le, filter, Option, Some, None, option_and_then}
use Rattle.std.specs.FinMap as map
use Rattle.std.proofs.lemmas.Bool.{le-leb, leb-true, and_parts}
use Rattle.newt_nsof_flat.specs.Stream.{stream_graph}
use Rattle.newt_nsof_flat.proofs.Streams.{reads_graphs}
use Rattle.newt_spec_graph.proofs.Lists.{none-some}
use Rattle.newt_spec_image.specs.Objects.{Objects, Table, IsTableOf}
use Rattle.newt_spec_image.specs.Pages.{Pages, pages, cap}
use Rattle.newt_spec_image.specs.Records.{version}
use Rattle.newt_laws_images.proofs.Again.{read-lies}
use Rattle.newt_laws_images.proofs.Finite.{object-get}
use Rattle.newt_laws_images.proofs.Gathering.{objects-complete, objects-sound}
use Rattle.newt_laws_images.proofs.Refused.{has-directory}
use Rattle.newt_laws_images.proofs.Totals.{lies-total}
use Rattle.newt_laws_images.proofs.Assembled.{read-valid}
use Rattle.newt_spec_nsof.specs.Text.{AreBytes}
use Rattle.newt_objects.specs.Changing.{HoldsObjects}
use Rattle.newt_spec_store.specs.Cost.{cost}
use Rattle.newt_spec_store.specs.Image.{ObjectList as Rows, all_entries}
use Rattle.newt_spec_store.specs.ImageStore.{objects_of, store_of_image}
use Rattle.newt_spec_store.specs.Laid.{bare}
use Rattle.newt_spec_store.specs.Lies.{directory_read}
use Rattle.newt_spec_store.specs.OfImage.{blocks_of}
use Rattle.newt_spec_store.specs.Store.{Store}
use Rattle.newt_spec_store.specs.StoreOf.{store_of}
use Rattle.newt_spec_store.specs.Valid.{well_formed, fits}
use Rattle.newt_spec_check.specs.declared.Layer.TheVariants as layer
use Rattle.newt_spec_check.specs.Damage.{damage, if_missing, if_above, broken_object, least, broken_ids, of_objects, directory_in, no_directory, bad_entry, bad_large, too_costly, pages_taken, is_odd}
use Rattle.newt_spec_check.proofs.Complete.{complete}
use Rattle.newt_spec_check.proofs.Entries.{entries-count}
use Rattle.newt_spec_check.proofs.Finds.{skip}
use Rattle.newt_spec_check.proofs.Journal.{pages-whole}
use Rattle.newt_spec_check.proofs.Objects.{objects-whole, whole-objects}
use Rattle.newt_spec_check.proofs.Sound.{sound-cost}
use Rattle.newt_check.specs.Reports.{IsDamaged}
use Rattle.newt_check.proofs.Voted.{hit, no-store-at}

-- an image that has pages is damaged in an object where one is not whole
pub at-object : (image : List ℕ) (live : Pages) (id : ℕ) → pages image ≡ Some live → broken_object image ≡ Some id → IsDamaged layer.Object id image
at-object image live id h k =
    let w = pages-whole image live h in
    no-store-at image layer.Object id refl (skip layer.Votes _ _ w.votes ∙ skip layer.Header _ _ w.header_is ∙ skip layer.RecordPlace _ _ w.record_is ∙ skip layer.Payload _ _ w.payload ∙ hit layer.Object _ id _ k)

module _ (image : List ℕ) (texts : Objects) (h : HoldsObjects image texts) where
  its : objects_of h.live ≡ Some texts
  its = objects-complete h.live texts h.are

  row-at : (row : Rows → Option ℕ) → of_objects row image ≡ row (map.entries texts)
  row-at row = ap (option_and_then (λ live. option_and_then (λ (objects : Objects). row (map.entries objects)) (objects_of live))) h.of_image
      ∙ ap (option_and_then (λ (objects : Objects). row (map.entries objects))) its

  object-none : broken_object image ≡ None
  object-none = ap (option_and_then (λ live. least (broken_ids live))) h.of_image ∙ objects-whole h.live texts its

  -- the store of the image is that of its objects
  store-at : store_of_image stream_graph image ≡ store_of stream_graph (version image) (map.entries texts) (blocks_of image)
  store-at = ap (option_and_then (λ live. option_and_then (λ (objects : Objects). store_of stream_graph (version image) (map.entries objects) (blocks_of image)) (objects_of live))) h.of_image
      ∙ ap (option_and_then (λ (objects : Objects). store_of stream_graph (version image) (map.entries objects) (blocks_of image))) its

  pub at-directory : directory_in stream_graph (version image) (map.entries texts) ≡ None → IsDamaged layer.Directory 0 image
  at-directory k =
      let w = pages-whole image h.live h.of_image in
      no-store-at image layer.Directory 0 refl (skip layer.Votes _ _ w.votes ∙ skip layer.Header _ _ w.header_is ∙ skip layer.RecordPlace _ _ w.record_is ∙ skip layer.Payload _ _ w.payload ∙ skip layer.Object _ _ object-none
      ∙ hit layer.Directory _ 0 _ (row-at (no_directory stream_graph (version image)) ∙ ap (if_missing 0) k))

  module _ (d : Store) (root : directory_in stream_graph (version image) (map.entries texts) ≡ Some d) where
    pub at-entry : (id : ℕ) → bad_entry stream_graph (version image) (map.entries texts) ≡ Some id → IsDamaged layer.Entry id image
    at-entry id k =
        let w = pages-whole image h.live h.of_image in
        no-store-at image layer.Entry id refl (skip layer.Votes _ _ w.votes ∙ skip layer.Header _ _ w.header_is ∙ skip layer.RecordPlace _ _ w.record_is ∙ skip layer.Payload _ _ w.payload ∙ skip layer.Object _ _ object-none
        ∙ skip layer.Directory _ _ (row-at (no_directory stream_graph (version image)) ∙ ap (if_missing 0) root) ∙ hit layer.Entry _ id _ (row-at (bad_entry stream_graph (version image)) ∙ k))

    module _ (entries : bad_entry stream_graph (version image) (map.entries texts) ≡ None) where
      pub at-large : (id : ℕ) → bad_large (map.entries texts) ≡ Some id → IsDamaged layer.Large id image
      at-large id k =
          let w = pages-whole image h.live h.of_image in
          no-store-at image layer.Large id refl (skip layer.Votes _ _ w.votes ∙ skip layer.Header _ _ w.header_is ∙ skip layer.RecordPlace _ _ w.record_is ∙ skip layer.Payload _ _ w.payload ∙ skip layer.Object _ _ object-none
          ∙ skip layer.Directory _ _ (row-at (no_directory stream_graph (version image)) ∙ ap (if_missing 0) root) ∙ skip layer.Entry _ _ (row-at (bad_entry stream_graph (version image)) ∙ entries) ∙ hit layer.Large _ id _ (row-at bad_large ∙ k))

      module _ (larges : bad_large (map.entries texts) ≡ None) (are_bytes : (id : ℕ) (bytes : List ℕ) → map.get texts id ≡ Some bytes → (id ≡ 0) ⊎ (id % 2 ≡ 1) → AreBytes bytes) where
        above : (most n : ℕ) → most < n → if_above most n ≡ Some n
        above most n less = go (nat_le n most) refl
          where
            go : (b : Bool) → nat_le n most ≡ b → cond b None (Some n) ≡ Some n
            go true e = absurd (omega (arith, less, leb-true n most e))
            go false e = refl

        no-cost : (o : Option Store) → store_of_image stream_graph image ≡ o → cap (blocks_of image) < pages_taken (map.entries texts) → o ≡ None
        no-cost None e more = refl
        no-cost (Some s) e more =
            absurd (none-some (pages_taken (map.entries texts)) (sym (sound-cost stream_graph (version image) texts (blocks_of image) s (sym store-at ∙ e) reads_graphs are_bytes)
            ∙ above (cap (blocks_of image)) (pages_taken (map.entries texts)) more))

        cost-first : cap (blocks_of image) < pages_taken (map.entries texts) → damage stream_graph image ≡ Some (record { layer = layer.Cost; place = pages_taken (map.entries texts) })
        cost-first more =
            let w = pages-whole image h.live h.of_image in
            skip layer.Votes _ _ w.votes ∙ skip layer.Header _ _ w.header_is ∙ skip layer.RecordPlace _ _ w.record_is ∙ skip layer.Payload _ _ w.payload ∙ skip layer.Object _ _ object-none
            ∙ skip layer.Directory _ _ (row-at (no_directory stream_graph (version image)) ∙ ap (if_missing 0) root) ∙ skip layer.Entry _ _ (row-at (bad_entry stream_graph (version image)) ∙ entries) ∙ skip layer.Large _ _ (row-at bad_large ∙ larges)
            ∙ hit layer.Cost _ (pages_taken (map.entries texts)) _ (row-at (too_costly (blocks_of image)) ∙ above (cap (blocks_of image)) (pages_taken (map.entries texts)) more)

        pub at-cost : cap (blocks_of image) < pages_taken (map.entries texts) → IsDamaged layer.Cost (pages_taken (map.entries texts)) image
        at-cost more = record { no_store = no-cost (store_of_image stream_graph image) refl more; first = cost-first more }

        -- where no row holds, the image is a store of this directory, which costs the pages that its objects take
        pub at-store : pages_taken (map.entries texts) ≤ cap (blocks_of image)
            → (s : Store) × (store_of_image stream_graph image ≡ Some s) × (directory_in stream_graph (version image) (map.entries texts) ≡ Some (bare s)) × (cost s ≡ pages_taken (map.entries texts)) × (length (all_entries s) ≡ length (filter is_odd (map.entries texts)))
        at-store few =
            let s = complete stream_graph (version image) texts (blocks_of image) reads_graphs are_bytes (ap (if_missing 0) root) entries larges
            (ap (λ b. cond b None (Some (pages_taken (map.entries texts)))) (le-leb (pages_taken (map.entries texts)) (cap (blocks_of image)) few)) in
            let lies = read-lies stream_graph (version image) texts (blocks_of image) s.0 reads_graphs are_bytes s.1 in
            let good = (and_parts (well_formed s.0) (fits (blocks_of image) s.0) (read-valid stream_graph (version image) (map.entries texts) (blocks_of image) s.0 s.1)).0 in (
              s.0,
              store-at ∙ s.1,
              ap (option_and_then (directory_read stream_graph (version image))) (object-get texts 0 ∙ (has-directory stream_graph (version image) texts (blocks_of image) s.0 s.1).1) ∙ (has-directory stream_graph (version image) texts (blocks_of image) s.0 s.1).2,
              sym (lies-total texts lies.0 s.0 lies.1 good),
              entries-count texts lies.0 s.0 lies.1 good,
            )

-- the pages of an image of which the headers name a broken object, or none
pub at-parts : (image : List ℕ) (live : Pages) → pages image ≡ Some live → (id : ℕ) → least (broken_ids live) ≡ Some id → IsDamaged layer.Object id image
at-parts image live h id k = at-object image live id h (ap (option_and_then (λ live. least (broken_ids live))) h ∙ k)

pub some-parts : (image : List ℕ) (live : Pages) → pages image ≡ Some live → ((live : Pages) (table : Table) → pages image ≡ Some live → IsTableOf live table → ⊥) → least (broken_ids live) ≡ None → ⊥
some-parts image live h none k =
    let o = whole-objects live k in
    let are = objects-sound live o.0 o.1 in
    none live are.table h are.is_table
