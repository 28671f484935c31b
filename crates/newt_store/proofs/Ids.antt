-- Ids that no object has, which a new entry's record and its large binaries get.
use Rattle.std.proofs.Common.{◌≡◌, ◌≢◌, inl, inr, ℕ, ◌+◌, ◌*◌, ◌%◌, ◌<◌, ◌≤◌, List, [], ◌∷◌, ◌++◌, length, sum, sum_by, flat_map, zip, map as map_list, Option, Some, None, IsSome, refl, sym, ◌∙◌, ap, subst, arith}
use Rattle.std.specs.FinMap as map
use Rattle.std.proofs.lemmas.List.{map-append, length-map}
use Rattle.std.proofs.lemmas.List.Sums.{sum_by-cons}
use Rattle.newt_graph.specs.Graph.{RawGraph}
use Rattle.newt_graph.specs.declared.node.Node.{Node}
use Rattle.newt_graph.specs.declared.node.Node.TheVariants.{Symbol, Str, Binary, Large, Array, Frame}
use Rattle.newt_spec_image.specs.Objects.{Extent, Objects, pages_for}
use Rattle.newt_objects.specs.Held.{Held, held}
use Rattle.newt_spec_graph.specs.Lists.{Among, Each}
use Rattle.newt_spec_graph.proofs.Lists.{among-append, each-from, pairs-append}
use Rattle.newt_spec_store.specs.Cost.{entry_pages, large_length, large_lengths, skeleton_length}
use Rattle.newt_spec_store.specs.Image.{larges}
use Rattle.newt_spec_store.specs.Lies.{AreLarges, HasLarge}
use Rattle.newt_spec_store.specs.Store.{Entry, Store}
use Rattle.newt_laws_images.proofs.Records.{larges_from, entry-length}
use Rattle.newt_objects_commit.specs.Batch.{AreOnce, large_ids, new_pages}
use Rattle.newt_objects_commit.specs.Names.{names_of, AreSoundNames}
use Rattle.newt_objects_commit.specs.Places.{place_of, AreSoundPlaces}
use Rattle.newt_objects_commit.specs.declared.batch.NewEntry.{NewEntry}
use Rattle.newt_objects_commit.specs.declared.batch.NewLarge.{NewLarge}
use Rattle.newt_store_catalog.specs.declared.catalog.Catalog.{Catalog}
use Rattle.newt_store.specs.Next.{IsEntryOf}
use Rattle.newt_store_catalog.specs.Stands.{Describes}
use Rattle.newt_store.proofs.Turning.{is-named}

-- ---- ids that are given in rising order

-- The ids up to a last one are even, above 0, fit in four bytes and are those of no objects, and no two are one.
pub record AreIdsTo (objects : Held) (last : ℕ) (ids : List ℕ) : Type 0 where
  pub even : (id : ℕ) → Among ids id → (id % 2 ≡ 0) × (0 < id)
  pub fit : (id : ℕ) → Among ids id → id < 4294967296
  pub free : (id : ℕ) → Among ids id → held objects id ≡ None
  pub most : (id : ℕ) → Among ids id → id ≤ last
  pub once : AreOnce ids

among-one : (z id : ℕ) → Among (z ∷ []) id → z ≡ id
among-one z id (inl e) = e
among-one z id (inr m) = absurd m

pub ids-more : (objects : Held) (last id : ℕ) (ids : List ℕ) → AreIdsTo objects last ids → id % 2 ≡ 0 → last < id → id < 4294967296 → held objects id ≡ None → AreIdsTo objects id (ids ++ id ∷ [])
ids-more objects last id ids so even above fits free = record {
  even = each (λ n. (n % 2 ≡ 0) × (0 < n)) so.even (even, omega (arith, above));
  fit = each (λ n. n < 4294967296) so.fit fits;
  free = each (λ n. held objects n ≡ None) so.free free;
  most = each (λ n. n ≤ id) (λ n m. let low = so.most n m in omega (arith, low, above)) (omega arith);
  once = pairs-append (λ a b. a ≢ b) ids (id ∷ []) so.once (tt, tt) (each-from (λ a. Each (λ b. a ≢ b) (id ∷ [])) ids (λ a m. (λ same. let low = so.most a m in absurd (omega (arith, low, above, same)), tt)));
}
  where
    each : (P : ℕ → Type 0) → ((n : ℕ) → Among ids n → P n) → P id → (n : ℕ) → Among (ids ++ id ∷ []) n → P n
    each P old new n m = elim (among-append ids (id ∷ []) n m) [ inl k ↦ old n k | inr k ↦ subst P (among-one id n k) new ]

-- the same of the large binaries that have them
pub larges-more : (objects : Held) (last : ℕ) (done : List NewLarge) (l : NewLarge) → AreIdsTo objects last (map_list (λ x. x.id) done) → l.id % 2 ≡ 0 → last < l.id → l.id < 4294967296 → held objects l.id ≡ None
    → AreIdsTo objects l.id (map_list (λ x. x.id) (done ++ l ∷ []))
larges-more objects last done l so even above fits free = subst (AreIdsTo objects l.id) (sym (map-append (λ (x : NewLarge). x.id) done (l ∷ []))) (ids-more objects last l.id (map_list (λ x. x.id) done) so even above fits free)

-- ---- no object that a store lies in has such an id

not-held : (o : Option Extent) → o ≡ None → IsSome o → ⊥
not-held None none some = absurd (let no = some in cc)
not-held (Some x) none some = absurd (cc)

pub is-none : {A : Type 0} (o : Option A) → ((x : A) → o ≡ Some x → ⊥) → o ≡ None
is-none None nothing = refl
is-none (Some x) nothing = absurd (nothing x refl)

module _ (catalog : Catalog) (s : Store) (places : AreSoundPlaces (held catalog.objects) (place_of catalog.places)) (names : AreSoundNames (held catalog.objects) (names_of catalog.names)) where
  pub free-in : (old : Objects) (id : ℕ) → Describes catalog.directory (place_of catalog.places) (names_of catalog.names) old s → id ≢ 0 → held catalog.objects id ≡ None → map.get old id ≡ None
  free-in old id d ne free = is-none (map.get old id) (λ bytes at. elim (d.lies.only_these id bytes at ne) [
    | inl w ↦ not-held (held catalog.objects id) free (places.there w.0 w.1.uid id w.3)
    | inr w ↦ not-held (held catalog.objects id) free (names.there w.0 id (is-named catalog.directory (place_of catalog.places) (names_of catalog.names) old s d w.0 id w.1))
  ])

  -- it names nothing
  pub free-names : (r o : ℕ) → held catalog.objects r ≡ None → Among (names_of catalog.names r) o → ⊥
  free-names r o free m = not-held (held catalog.objects r) free (names.records r o m).0

-- ---- a graph's large binaries, put under such ids

first-same : {X : Type 0} (x y : X) (xs ys : List X) → x ∷ xs ≡ y ∷ ys → (x ≡ y) × (xs ≡ ys)
first-same x y xs ys e = (cc, cc)

-- an object of a large binary
abbrev IsPut : Objects → NewLarge → Type 0
IsPut objects l = (l.id % 2 ≡ 0) × (0 < l.id) × (l.id < 4294967296) × (map.get objects l.id ≡ Some l.bytes.items)

each-there : (objects : Objects) (gs : List (ℕ × List ℕ)) (ls : List NewLarge) → map_list (λ (l : NewLarge). l.bytes.items) ls ≡ map_list (λ (l : ℕ × List ℕ). l.1) gs → ((l : NewLarge) → Among ls l → IsPut objects l)
    → Each (HasLarge objects) (zip gs (map_list (λ (l : NewLarge). l.id) ls))
each-there objects [] [] e h = tt
each-there objects [] (l ∷ ls) e h = absurd (cc)
each-there objects (g ∷ gs) [] e h = absurd (cc)
each-there objects (g ∷ gs) (l ∷ ls) e h =
    let same = first-same l.bytes.items g.1 (map_list (λ (l : NewLarge). l.bytes.items) ls) (map_list (λ (l : ℕ × List ℕ). l.1) gs) e in
    let p = h l (inl refl) in
    ((p.0, p.1, p.2, p.3 ∙ ap Some same.0), each-there objects gs ls same.1 (λ k m. h k (inr m)))

pub among-ids : (ls : List NewLarge) (l : NewLarge) → Among ls l → Among (map_list (λ (x : NewLarge). x.id) ls) l.id
among-ids [] l m = absurd m
among-ids (x ∷ ls) l (inl e) = inl (ap (λ (y : NewLarge). y.id) e)
among-ids (x ∷ ls) l (inr m) = inr (among-ids ls l m)

as-many : (sig uid now : ℕ) (g : RawGraph) (e : NewEntry) → IsEntryOf sig uid now g e → length (larges g) ≡ length (large_ids e)
as-many sig uid now g e of = sym (length-map (larges g) (λ (l : ℕ × List ℕ). l.1)) ∙ ap length (sym of.larges_are) ∙ length-map e.larges.items (λ (l : NewLarge). l.bytes.items) ∙ sym (length-map e.larges.items (λ (l : NewLarge). l.id))

pub are-larges : (objects : Objects) (sig uid now : ℕ) (g : RawGraph) (e : NewEntry) → IsEntryOf sig uid now g e → ((l : NewLarge) → Among e.larges.items l → map.get objects l.id ≡ Some l.bytes.items)
    → AreLarges objects g (large_ids e)
are-larges objects sig uid now g e of put = record {
  each_named = as-many sig uid now g e of;
  there = each-there objects (larges g) e.larges.items of.larges_are (λ l m. let k = among-ids e.larges.items l m in let h = of.ids.even l.id k in (h.0, h.1, of.ids_fit l.id k, put l m));
  apart = of.ids.once;
}

-- ---- the pages of a new entry are the entry's

abbrev size : ℕ × List ℕ → ℕ
size l = length l.1

pub lengths-from : (k : ℕ) (nodes : List Node) → map_list size (larges_from k nodes) ≡ flat_map large_length nodes
lengths-from k [] = refl
lengths-from k (Large c bytes ∷ nodes) = ap (λ ns. length bytes ∷ ns) (lengths-from (k + 1) nodes)
lengths-from k (Symbol _ ∷ nodes) = lengths-from (k + 1) nodes
lengths-from k (Str _ ∷ nodes) = lengths-from (k + 1) nodes
lengths-from k (Binary _ _ ∷ nodes) = lengths-from (k + 1) nodes
lengths-from k (Array _ _ ∷ nodes) = lengths-from (k + 1) nodes
lengths-from k (Frame _ _ ∷ nodes) = lengths-from (k + 1) nodes

abbrev pages-put : NewLarge → ℕ
pages-put l = pages_for (length l.bytes.items)

sizes : (gs : List (ℕ × List ℕ)) (ls : List NewLarge) → map_list (λ (l : NewLarge). l.bytes.items) ls ≡ map_list (λ (l : ℕ × List ℕ). l.1) gs
    → sum_by pages-put ls ≡ sum (map_list pages_for (map_list size gs))
sizes [] [] e = refl
sizes [] (l ∷ ls) e = absurd (cc)
sizes (g ∷ gs) [] e = absurd (cc)
sizes (g ∷ gs) (l ∷ ls) e =
    let same = first-same l.bytes.items g.1 (map_list (λ (l : NewLarge). l.bytes.items) ls) (map_list (λ (l : ℕ × List ℕ). l.1) gs) e in
    let more = sizes gs ls same.1 in
    sum_by-cons pages-put l ls ∙ (λ i. pages_for (length (same.0 i)) + more i) ∙ sym (sum_by-cons (λ m. m) (pages_for (length g.1)) (map_list pages_for (map_list size gs)))

pub entry-pages : (sig uid now : ℕ) (g : RawGraph) (e : NewEntry) → IsEntryOf sig uid now g e → new_pages (Some e) ≡ entry_pages (record { uid = uid; time = now; graph = g })
entry-pages sig uid now g e of =
    let x : Entry = record { uid = uid; time = now; graph = g } in
    let put = sum (map_list pages_for (map_list size (larges g))) in
    let many = as-many sig uid now g e of in
    let lengths : map_list size (larges g) ≡ large_lengths g = lengths-from 0 g.nodes in
    let long : length (large_ids e) ≡ length (large_lengths g) = sym many ∙ sym (length-map (larges g) size) ∙ ap length lengths in
    (λ i. pages_for (length (of.bytes i)) + sizes (larges g) e.larges.items of.larges_are i)
    ∙ ap (λ (n : ℕ). pages_for n + put) (entry-length sig x (large_ids e) many)
    ∙ ap (λ (n : ℕ). pages_for (12 + skeleton_length g + 12 * n) + put) long
    ∙ ap (λ (ns : List ℕ). pages_for (12 + skeleton_length g + 12 * length (large_lengths g)) + sum (map_list pages_for ns)) lengths
