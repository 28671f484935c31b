-- An image has no damage exactly where it is read as a store.
use Rattle.std.proofs.Common.{◌≡◌, refl, ap, sym, ◌∙◌, ℕ, ◌%◌, ◌⊎◌, List, [], ◌∷◌, Bool, true, false, Option, Some, None, option_and_then}
use Rattle.std.specs.FinMap as map
use Rattle.newt_graph.specs.Graph.{RawGraph}
use Rattle.newt_spec_image.specs.Objects.{Objects, AreObjectsOf}
use Rattle.newt_spec_image.specs.Pages.{Pages, pages}
use Rattle.newt_spec_image.specs.Records.{has_banks, version}
use Rattle.newt_spec_nsof.specs.Text.{AreBytes}
use Rattle.newt_spec_graph.proofs.Lists.{none-some, some-same, both-ways}
use Rattle.newt_spec_store.specs.Image.{ObjectList as Rows}
use Rattle.newt_spec_store.specs.ImageStore.{store_of_image, objects_of}
use Rattle.newt_spec_store.specs.Lies.{ReadsGraphs}
use Rattle.newt_spec_store.specs.OfImage.{blocks_of}
use Rattle.newt_spec_store.specs.Store.{Store}
use Rattle.newt_spec_store.specs.StoreOf.{store_of}
use Rattle.newt_laws_images.proofs.Gathering.{objects-sound}
use Rattle.newt_spec_check.specs.declared.Layer.{Layer}
use Rattle.newt_spec_check.specs.declared.Layer.TheVariants as layer
use Rattle.newt_spec_check.specs.Damage.{Damage, damage, first_row, least, broken_ids, of_objects, no_bank, no_header, long_record, bad_payload, broken_object, no_directory, bad_entry, bad_large, too_costly}
use Rattle.newt_spec_check.proofs.Bytes.{objects-bytes}
use Rattle.newt_spec_check.proofs.Complete.{complete}
use Rattle.newt_spec_check.proofs.Finds.{row-none, skip}
use Rattle.newt_spec_check.proofs.Journal.{IsWhole, whole-pages, pages-whole}
use Rattle.newt_spec_check.proofs.Objects.{whole-objects, objects-whole}
use Rattle.newt_spec_check.proofs.Sound.{sound-directory, sound-entries, sound-larges, sound-cost}

then-some : {A B : Type 0} (f : A → Option B) (o : Option A) (b : B) → option_and_then f o ≡ Some b → (a : A) × (o ≡ Some a) × (f a ≡ Some b)
then-some f None b h = absurd (none-some b h)
then-some f (Some a) b h = (a, refl, h)

-- a row of objects of an image is that of its objects
row-at : (image : List ℕ) (live : Pages) (objects : Objects) (row : Rows → Option ℕ) → pages image ≡ Some live → objects_of live ≡ Some objects → of_objects row image ≡ row (map.entries objects)
row-at image live objects row h k = ap (option_and_then (λ live. option_and_then (λ (objects : Objects). row (map.entries objects)) (objects_of live))) h ∙ ap (option_and_then (λ (objects : Objects). row (map.entries objects))) k

-- ---- an image that is read as a store

-- The pages and the objects that the store of an image is read from.
record ReadFrom (graph_of : List ℕ → Option RawGraph) (image : List ℕ) (s : Store) : Type 0 where
  live : Pages
  objects : Objects
  of_image : pages image ≡ Some live
  of_pages : objects_of live ≡ Some objects
  read : store_of graph_of (version image) (map.entries objects) (blocks_of image) ≡ Some s

read-from : (graph_of : List ℕ → Option RawGraph) (image : List ℕ) (s : Store) → store_of_image graph_of image ≡ Some s → ReadFrom graph_of image s
read-from graph_of image s h =
    let p = then-some (λ live. option_and_then (λ (objects : Objects). store_of graph_of (version image) (map.entries objects) (blocks_of image)) (objects_of live)) (pages image) s h in
    let o = then-some (λ (objects : Objects). store_of graph_of (version image) (map.entries objects) (blocks_of image)) (objects_of p.0) s p.2 in
    record { live = p.0; objects = o.0; of_image = p.1; of_pages = o.1; read = o.2 }

-- no row holds of it but that of the cost, whatever its bytes are
pub but-cost : (graph_of : List ℕ → Option RawGraph) (image : List ℕ) (s : Store) → store_of_image graph_of image ≡ Some s → damage graph_of image ≡ first_row ((layer.Cost, of_objects (too_costly (blocks_of image)) image) ∷ [])
but-cost graph_of image s h =
    let r = read-from graph_of image s h in
    let w = pages-whole image r.live r.of_image in
    skip layer.Votes _ _ w.votes ∙ skip layer.Header _ _ w.header_is ∙ skip layer.RecordPlace _ _ w.record_is ∙ skip layer.Payload _ _ w.payload
    ∙ skip layer.Object _ _ (ap (option_and_then (λ live. least (broken_ids live))) r.of_image ∙ objects-whole r.live r.objects r.of_pages)
    ∙ skip layer.Directory _ _ (row-at image r.live r.objects (no_directory graph_of (version image)) r.of_image r.of_pages ∙ sound-directory graph_of (version image) r.objects (blocks_of image) s r.read)
    ∙ skip layer.Entry _ _ (row-at image r.live r.objects (bad_entry graph_of (version image)) r.of_image r.of_pages ∙ sound-entries graph_of (version image) r.objects (blocks_of image) s r.read)
    ∙ skip layer.Large _ _ (row-at image r.live r.objects bad_large r.of_image r.of_pages ∙ sound-larges graph_of (version image) r.objects (blocks_of image) s r.read)

abbrev pub is_cost : Layer → Bool
is_cost layer.Votes = false
is_cost layer.Header = false
is_cost layer.RecordPlace = false
is_cost layer.Payload = false
is_cost layer.Object = false
is_cost layer.Directory = false
is_cost layer.Entry = false
is_cost layer.Large = false
is_cost layer.Cost = true

cost-alone : (o : Option ℕ) (d : Damage) → first_row ((layer.Cost, o) ∷ []) ≡ Some d → is_cost d.layer ≡ true
cost-alone None d h = absurd (none-some d h)
cost-alone (Some place) d h = sym (ap (λ (d : Damage). is_cost d.layer) (some-same _ d h))

-- where another row is the first that holds, the image is read as no store, whatever its bytes are
pub no-store : (graph_of : List ℕ → Option RawGraph) (image : List ℕ) (d : Damage) → is_cost d.layer ≡ false → damage graph_of image ≡ Some d → store_of_image graph_of image ≡ None
no-store graph_of image d other first = go (store_of_image graph_of image) refl
  where
    go : (o : Option Store) → store_of_image graph_of image ≡ o → o ≡ None
    go None e = refl
    go (Some s) e = absurd (both-ways (sym other ∙ cost-alone (of_objects (too_costly (blocks_of image)) image) d (sym (but-cost graph_of image s e) ∙ first)))

-- ---- the law

module _ (graph_of : List ℕ → Option RawGraph) (image : List ℕ) (reads : ReadsGraphs graph_of) (are : AreBytes image) where
  record AreNone : Type 0 where
    first : IsWhole image
    object : broken_object image ≡ None
    directory : of_objects (no_directory graph_of (version image)) image ≡ None
    entry : of_objects (bad_entry graph_of (version image)) image ≡ None
    large : of_objects bad_large image ≡ None
    cost : of_objects (too_costly (blocks_of image)) image ≡ None

  none-rows : damage graph_of image ≡ None → AreNone
  none-rows h =
      let a = row-none layer.Votes (no_bank image) _ h in
      let b = row-none layer.Header (no_header image) _ a.1 in
      let c = row-none layer.RecordPlace (long_record image) _ b.1 in
      let d = row-none layer.Payload (bad_payload image) _ c.1 in
      let e = row-none layer.Object (broken_object image) _ d.1 in
      let f = row-none layer.Directory (of_objects (no_directory graph_of (version image)) image) _ e.1 in
      let g = row-none layer.Entry (of_objects (bad_entry graph_of (version image)) image) _ f.1 in
      let k = row-none layer.Large (of_objects bad_large image) _ g.1 in
      let l = row-none layer.Cost (of_objects (too_costly (blocks_of image)) image) _ k.1 in
      record { first = record { votes = a.0; header_is = b.0; record_is = c.0; payload = d.0 }; object = e.0; directory = f.0; entry = g.0; large = k.0; cost = l.0 }

  bytes-of : (live : Pages) (objects : Objects) → pages image ≡ Some live → objects_of live ≡ Some objects
      → (id : ℕ) (bytes : List ℕ) → map.get objects id ≡ Some bytes → (id ≡ 0) ⊎ (id % 2 ≡ 1) → AreBytes bytes
  bytes-of live objects h k id bytes at _ = objects-bytes image live objects are h (objects-sound live objects k) id bytes at

  pub store-whole : (s : Store) → store_of_image graph_of image ≡ Some s → damage graph_of image ≡ None
  store-whole s h =
      let r = read-from graph_of image s h in
      but-cost graph_of image s h
      ∙ skip layer.Cost _ _ (row-at image r.live r.objects (too_costly (blocks_of image)) r.of_image r.of_pages
      ∙ sound-cost graph_of (version image) r.objects (blocks_of image) s r.read reads (bytes-of r.live r.objects r.of_image r.of_pages))

  pub whole-store : has_banks image ≡ true → damage graph_of image ≡ None → (s : Store) × (store_of_image graph_of image ≡ Some s)
  whole-store banks h =
      let r = none-rows h in
      let p = whole-pages image banks r.first in
      let o = whole-objects p.0 (ap (option_and_then (λ live. least (broken_ids live))) (sym p.1) ∙ r.object) in
      let s = complete graph_of (version image) o.0 (blocks_of image) reads (bytes-of p.0 o.0 p.1 o.1)
      (sym (row-at image p.0 o.0 (no_directory graph_of (version image)) p.1 o.1) ∙ r.directory)
      (sym (row-at image p.0 o.0 (bad_entry graph_of (version image)) p.1 o.1) ∙ r.entry)
      (sym (row-at image p.0 o.0 bad_large p.1 o.1) ∙ r.large)
      (sym (row-at image p.0 o.0 (too_costly (blocks_of image)) p.1 o.1) ∙ r.cost) in (
        s.0,
        ap (option_and_then (λ live. option_and_then (λ (objects : Objects). store_of graph_of (version image) (map.entries objects) (blocks_of image)) (objects_of live))) p.1
            ∙ ap (option_and_then (λ (objects : Objects). store_of graph_of (version image) (map.entries objects) (blocks_of image))) o.1 ∙ s.1,
      )
