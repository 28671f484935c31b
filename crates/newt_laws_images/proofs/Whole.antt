-- A store that lies in objects is what they are read as.
use Rattle.std.proofs.Common.{arith, ◌≡◌, ◌≢◌, refl, ap, sym, ◌∙◌, subst, ℕ, ◌%◌, ◌<◌, List, [], ◌∷◌, ◌++◌, true, false, Bool, not, ◌&&◌, ◌||◌, ◌⊎◌, inl, inr, Option, Some, map, zip, flat_map, length, ◌==◌}
use Rattle.std.specs.List.{list_all, list_any}
use Rattle.std.specs.FinMap as map
use Rattle.std.proofs.lemmas.Bool.{eq-eqb, eqb-true, and_parts, cases_eq}
use Rattle.newt_graph.specs.Graph.{RawGraph}
use Rattle.newt_spec_image.specs.Objects.{Objects as Texts}
use Rattle.newt_spec_nsof.specs.Flat.{flat}
use Rattle.newt_spec_nsof.specs.Lengths.{skeleton}
use Rattle.newt_spec_graph.specs.Lists.{Each, Pairs, Among, all_apart}
use Rattle.newt_spec_graph.proofs.Lists.{each-at, each-from, each-more, list_all-each, some-same, pairs-more, pairs-flat_map, flat_map-among}
use Rattle.newt_spec_store.specs.Store.{Entry, Store}
use Rattle.newt_spec_store.specs.Image.{ObjectList, larges}
use Rattle.newt_spec_store.specs.Laid.{Laid, IsLaid, FitsRecord, IsThere, row_of, row_of_large}
use Rattle.newt_spec_store.specs.Lies.{LiesIn, Places, IsIn, ReadsGraphs}
use Rattle.newt_spec_store.specs.StoreOf.{EntryRow, LargeRow, named_once, store_of}
use Rattle.newt_spec_store.specs.Valid.{well_formed, valid, fits, keeps_version}
use Rattle.newt_laws_images.proofs.Assembled.{store-back}
use Rattle.newt_laws_images.proofs.Finite.{object-get, entry-get}
use Rattle.newt_laws_images.proofs.Placed.{IsPlaced, Layout, layout, entry-fits}

-- ---- what is named

zip-ids : (ls : List (ℕ × List ℕ)) (ids : List ℕ) → length ls ≡ length ids → map (λ (l : LargeRow). l.1) (map row_of_large (zip ls ids)) ≡ ids
zip-ids [] [] h = refl
zip-ids [] (i ∷ ids) h = absurd (omega (arith, h))
zip-ids (l ∷ ls) [] h = absurd (omega (arith, h))
zip-ids (l ∷ ls) (i ∷ ids) h = ap (λ ns. i ∷ ns) (zip-ids ls ids (omega (arith, h)))

abbrev named_in : List EntryRow → List ℕ
named_in rows = flat_map (λ (r : EntryRow). map (λ (l : LargeRow). l.1) r.larges) rows

-- the ids that the records of a store name
abbrev pub laid_ids : List Laid → List ℕ
laid_ids laid = flat_map (λ (x : Laid). x.ids) laid

rows-names : (laid : List Laid) → Each (λ (x : Laid). length (larges x.entry.graph) ≡ length x.ids) laid → named_in (map (λ (x : Laid). row_of x.soup x.entry x.ids) laid) ≡ laid_ids laid
rows-names [] h = refl
rows-names (x ∷ laid) h = λ i. zip-ids (larges x.entry.graph) x.ids h.0 i ++ rows-names laid h.1 i

-- ---- tests on lists

no-any : {X : Type 0} (test : X → Bool) (xs : List X) → Each (λ x. test x ≡ true → ⊥) xs → list_any test xs ≡ false
no-any test [] h = refl
no-any test (x ∷ xs) h = go (test x) refl (no-any test xs h.1)
  where
    go : (b : Bool) → test x ≡ b → list_any test xs ≡ false → (b || list_any test xs) ≡ false
    go true e k = absurd (h.0 e)
    go false e k = k

all-apart : (ns : List ℕ) → Pairs (λ a b. a ≢ b) ns → all_apart (λ a b. a == b) ns ≡ true
all-apart [] h = refl
all-apart (n ∷ ns) h =
    ap (λ b. not b && all_apart (λ a b. a == b) ns) (no-any (λ m. n == m) ns (each-more (λ m. n ≢ m) _ ns (λ m k e. k (eqb-true n m e)) h.0)) ∙ all-apart ns h.1

among-any : (ns : List ℕ) (n : ℕ) → Among ns n → list_any (λ m. m == n) ns ≡ true
among-any [] n m = absurd m
among-any (k ∷ ns) n (inl e) = ap (λ b. b || list_any (λ m. m == n) ns) (eq-eqb k n e)
among-any (k ∷ ns) n (inr m) = go (k == n) (among-any ns n m)
  where
    go : (b : Bool) → list_any (λ m. m == n) ns ≡ true → (b || list_any (λ m. m == n) ns) ≡ true
    go true h = refl
    go false h = h

named-passes : (objects : ObjectList) (graph_of : List ℕ → Option RawGraph) (rows : List EntryRow) (named : List ℕ) → named_in rows ≡ named → Pairs (λ a b. a ≢ b) named
    → Each (λ o. (o.0 ≡ 0) ⊎ (o.0 % 2 ≡ 1) ⊎ Among named o.0) objects → named_once graph_of objects rows ≡ true
named-passes objects graph_of rows named is apart each = ap once is ∙ both _ _ (all-apart named apart) (list_all-each (passes named) objects (each-more _ _ objects one each))
  where
    passes : List ℕ → ℕ × List ℕ → Bool
    passes named o = (o.0 % 2 == 1) || (o.0 == 0) || list_any (λ n. n == o.0) named

    once : List ℕ → Bool
    once named = all_apart (λ a b. a == b) named && list_all (passes named) objects

    both : (a b : Bool) → a ≡ true → b ≡ true → (a && b) ≡ true
    both a b h k = grind (arith, h, k)

    first : (a b c : Bool) → a ≡ true → (a || b || c) ≡ true
    first a b c h = grind (arith, h)

    second : (a b c : Bool) → b ≡ true → (a || b || c) ≡ true
    second a b c h = grind (arith, h)

    third : (a b c : Bool) → c ≡ true → (a || b || c) ≡ true
    third a b c h = grind (arith, h)

    one : (o : ℕ × List ℕ) → (o.0 ≡ 0) ⊎ (o.0 % 2 ≡ 1) ⊎ Among named o.0 → passes named o ≡ true
    one o (inl e) = second (o.0 % 2 == 1) (o.0 == 0) _ (eq-eqb o.0 0 e)
    one o (inr (inl e)) = first (o.0 % 2 == 1) (o.0 == 0) _ (eq-eqb (o.0 % 2) 1 e)
    one o (inr (inr m)) = third (o.0 % 2 == 1) (o.0 == 0) _ (among-any named o.0 m)

-- ---- the objects of a store

module _ (objects : Texts) (place : Places) (s : Store) (lies : LiesIn objects place s) (w : well_formed s ≡ true) where
  pub its-layout : Layout objects place lies.named s
  its-layout = layout objects place s lies w

  -- what a record names is among what all records name
  pub names-laid : (r o : ℕ) → Among (lies.named r) o → Among (laid_ids its-layout.laid) o
  names-laid r o m =
      let n = lies.names r o m in
      let x = its-layout.all n.0 n.1 r n.2 n.3 in
      let p = each-at (IsPlaced objects place lies.named s) its-layout.laid x.0 its-layout.placed x.1 in
      let ids : lies.named r ≡ x.0.ids = ap lies.named (sym x.2) ∙ sym p.of_ids in
      flat_map-among (λ (x : Laid). x.ids) its-layout.laid x.0 o x.1 (subst (λ (ns : List ℕ). Among ns o) ids m)

  -- each object is the directory, a record, or named by one
  pub is-one-of : (o : ℕ × List ℕ) → Among (map.entries objects) o → (o.0 ≡ 0) ⊎ (o.0 % 2 ≡ 1) ⊎ Among (laid_ids its-layout.laid) o.0
  is-one-of o m = go (cases_eq o.0 0)
    where
      other : ((sig : ℕ) × (e : Entry) × IsIn s sig e × (place sig e.uid ≡ Some o.0)) ⊎ ((r : ℕ) × Among (lies.named r) o.0) → (o.0 ≡ 0) ⊎ (o.0 % 2 ≡ 1) ⊎ Among (laid_ids its-layout.laid) o.0
      other (inl r) = let q = lies.records r.0 r.1 r.2 in inr (inl (ap (λ n. n % 2) (some-same o.0 q.0 (sym r.3 ∙ q.1)) ∙ q.2))
      other (inr r) = inr (inr (names-laid r.0 o.0 r.1))

      go : (o.0 ≡ 0) ⊎ (o.0 ≡ 0 → ⊥) → (o.0 ≡ 0) ⊎ (o.0 % 2 ≡ 1) ⊎ Among (laid_ids its-layout.laid) o.0
      go (inl e) = inl e
      go (inr n) = other (lies.only_these o.0 o.1 (entry-get objects o.0 o.1 m) n)

  pub ids-apart : Pairs (λ a b. a ≢ b) (laid_ids its-layout.laid)
  ids-apart = pairs-flat_map (λ a b. a ≢ b) (λ (x : Laid). x.ids) its-layout.laid
      (each-more (IsPlaced objects place lies.named s) (λ (x : Laid). Pairs (λ a b. a ≢ b) x.ids) its-layout.laid (λ x p. p.larges_are.apart) its-layout.placed)
      (pairs-more (λ (x y : Laid). x.object < y.object) (λ (x y : Laid). (a b : ℕ) → Among x.ids a → Among y.ids b → a ≢ b) its-layout.laid
      (λ x y m n less a b i k e.
      let p = each-at (IsPlaced objects place lies.named s) its-layout.laid x its-layout.placed m in
      let q = each-at (IsPlaced objects place lies.named s) its-layout.laid y its-layout.placed n in
      let same = lies.once x.object y.object b (subst (λ (ns : List ℕ). Among ns b) p.of_ids (subst (Among x.ids) e i)) (subst (λ (ns : List ℕ). Among ns b) q.of_ids k) in
      absurd (omega (arith, less, same)))
      its-layout.rising)

  pub lies-laid : (graph_of : List ℕ → Option RawGraph) → ReadsGraphs graph_of → IsLaid graph_of (map.entries objects) s its-layout.laid
  lies-laid graph_of reads = record {
    written = object-get objects 0 ∙ lies.directory;
    infos = λ p g m e. reads.back g (lies.infos p g m e);
    records = its-layout.records;
    fit = each (λ x. FitsRecord x.soup x.entry x.ids) (λ x p. entry-fits objects place s x.soup x.entry x.ids lies w p.is_in p.larges_are);
    decoded = each (λ x. graph_of (flat (skeleton x.entry.graph)) ≡ Some (skeleton x.entry.graph)) (λ x p. reads.back (skeleton x.entry.graph) (lies.skeletons x.soup x.entry p.is_in));
    there = each (λ x. Each (IsThere (map.entries objects)) (zip (larges x.entry.graph) x.ids)) (λ x p.
        each-more _ (IsThere (map.entries objects)) (zip (larges x.entry.graph) x.ids) (λ l k. (k.0, k.1, object-get objects l.1 ∙ k.3)) p.larges_are.there);
    once = named-passes (map.entries objects) graph_of (map (λ (x : Laid). row_of x.soup x.entry x.ids) its-layout.laid) (laid_ids its-layout.laid)
        (rows-names its-layout.laid (each (λ x. length (larges x.entry.graph) ≡ length x.ids) (λ x p. p.larges_are.each_named))) ids-apart (each-from _ (map.entries objects) is-one-of);
    entries = its-layout.are;
  }
    where
      each : (P : Laid → Type 0) → ((x : Laid) → IsPlaced objects place lies.named s x → P x) → Each P its-layout.laid
      each P f = each-more (IsPlaced objects place lies.named s) P its-layout.laid f its-layout.placed

pub lies-read : (graph_of : List ℕ → Option RawGraph) (version : ℕ) (objects : Texts) (place : Places) (blocks : ℕ) (s : Store) → ReadsGraphs graph_of → LiesIn objects place s → keeps_version version s ≡ true
    → valid blocks s ≡ true → store_of graph_of version (map.entries objects) blocks ≡ Some s
lies-read graph_of version objects place blocks s reads lies keeps v =
    let w = (and_parts (well_formed s) (fits blocks s) v).0 in
    store-back graph_of version (map.entries objects) blocks s (its-layout objects place s lies w).laid keeps v (lies-laid objects place s lies w graph_of reads)
