-- A range that stands for a soup's entries, and is sorted, is the sorted list of those that have a key; and so is what is found among the ranges of a store; and so are masks.
use Rattle.std.proofs.Common.{◌≡◌, ℕ, ◌<◌, ◌==◌, Bool, true, false, cond, List, [], ◌∷◌, map, find, Option, Some, None, option_map, option_and_then, refl, sym, ◌∙◌, ap, subst, arith}
use Rattle.std.specs.Prelude.{All, IfSome}
use Rattle.std.specs.Borrow.{Bor}
use Rattle.std.proofs.lemmas.Bool.{eqb-true, eq-eqb}
use Rattle.std.proofs.lemmas.List.Elements.{All-head, All-tail}
use Rattle.newt_spec_graph.specs.Lists.{Each, Among}
use Rattle.newt_spec_graph.proofs.Lists.{some-same, none-some, among-filter_map, filter_map-among, pairs-filter_map, pairs-map, pairs-more, rises-pairs}
use Rattle.newt_spec_store.specs.Keys.{Key, IndexSpec, same_spec}
use Rattle.newt_spec_store.specs.Store.{Entry, Soup, Store, TagTable, entry_of}
use Rattle.newt_spec_store.specs.Valid.{well_formed}
use Rattle.newt_laws_images.proofs.Stores.{IsSoup}
use Rattle.newt_laws_images.proofs.Chosen.{find-passes, find-one, one-uid, soup-good}
use Rattle.newt_index.specs.Pairs.{Pair, Sorted, parts_of, IsPair, IsSorted}
use Rattle.newt_index.specs.Range.{entry_pair, entry_pairs, range_of}
use Rattle.newt_tags.specs.Masks.{mask_of, mask_by}
use Rattle.newt_index_ranges.specs.Masks.{Masks}
use Rattle.newt_index_ranges.specs.Range.{key_by, range_of_soup, range_in, mask_at}
use Rattle.newt_index_ranges.specs.declared.rows.SoupRanges.{SoupRanges}
use Rattle.newt_index_ranges.specs.Rows.{carries, find_range, find_mask, mask_by_id, ranges_of, range_found, mask_found}
use Rattle.newt_index_ranges.specs.Stands.{graphs_of, IsRange, AreIndexes, AreMasks, IsRangesOf, AreRangesOf}
use Rattle.newt_index_ranges.proofs.Ordered.{is_sorted}
use Rattle.newt_index_ranges.proofs.Lookups.{Once, key-among, among-key}
use Rattle.newt_index_ranges.proofs.Standing.{AreFound, found_both}

-- ---- the pairs of a range and the entries that have a key

valid_each : (spec : IndexSpec) (ps : List Pair) → All (IsPair spec) ps → Each (IsPair spec) ps
valid_each spec [] h = tt
valid_each spec (p ∷ ps) h = (All-head (IsPair spec) p ps h, valid_each spec ps (All-tail (IsPair spec) p ps h))

-- an entry that has a key is a pair of its key and id
keyed_is : (spec : Option IndexSpec) (e : Entry) (z : Pair) (o : Option Key) → key_by spec e.graph ≡ o → option_map (λ k. (k, e.uid)) o ≡ Some z → (key_by spec e.graph ≡ Some z.0) × (e.uid ≡ z.1)
keyed_is spec e z None f h = absurd (none-some z h)
keyed_is spec e z (Some k) f h = let same : ◌≡◌ {A = Pair} (k, e.uid) z = some-same (k, e.uid) z h in (f ∙ ap (λ (q : Pair). Some q.0) same, ap (λ (q : Pair). q.1) same)

-- the entry of a graph that is looked up
entry_with : (spec : Option IndexSpec) (u : ℕ) (k : Key) (o : Option Entry) → option_and_then (key_by spec) (option_map (λ e. e.graph) o) ≡ Some k → (e : Entry) × (o ≡ Some e) × (key_by spec e.graph ≡ Some k)
entry_with spec u k None h = absurd (none-some k h)
entry_with spec u k (Some e) h = (e, refl, h)

module _ (spec : Option IndexSpec) (p : Soup) (v : Sorted) (good : IsSoup p) (is : IsRange spec (graphs_of p) v) where
  there : (z : Pair) → Among v.pairs z → Among (entry_pairs (parts_of spec) p.entries) z
  there z m =
      let w = entry_with spec z.1 z.0 (entry_of z.1 p) (sym (is.keys z.1) ∙ among-key v.pairs z is.once m) in
      let e : Entry = w.0 in
      let at = find-passes (λ (d : Entry). d.uid == z.1) p.entries e w.1 in
      filter_map-among (entry_pair (parts_of spec)) p.entries e z at.1 (ap (option_map (λ k. (k, e.uid))) w.2 ∙ ap (λ (u : ℕ). Some (z.0, u)) (eqb-true e.uid z.1 at.0))

  back : (z : Pair) → Among (entry_pairs (parts_of spec) p.entries) z → Among v.pairs z
  back z m =
      let w = among-filter_map (entry_pair (parts_of spec)) p.entries z m in
      let e : Entry = w.0 in
      let k = keyed_is spec e z (key_by spec e.graph) refl w.2 in
      let found : entry_of z.1 p ≡ Some e = find-one (λ (d : Entry). d.uid == z.1) p.entries e (one-uid z.1 p good.uids) w.1 (eq-eqb e.uid z.1 k.1) in
      key-among v.pairs z.0 z.1 (is.keys z.1 ∙ ap (λ (o : Option Entry). option_and_then (key_by spec) (option_map (λ (e : Entry). e.graph) o)) found ∙ k.0)

  once_keyed : Once (entry_pairs (parts_of spec) p.entries)
  once_keyed =
      pairs-filter_map (λ (a b : Pair). a.1 ≡ b.1 → ⊥) (entry_pair (parts_of spec)) p.entries
      (pairs-more (λ (a b : Entry). a.uid < b.uid) (λ (a b : Entry). (x y : Pair) → entry_pair (parts_of spec) a ≡ Some x → entry_pair (parts_of spec) b ≡ Some y → x.1 ≡ y.1 → ⊥) p.entries
      (λ a b _ _ less x y f g e. let k = (keyed_is spec a x (key_by spec a.graph) refl f).1 in let l = (keyed_is spec b y (key_by spec b.graph) refl g).1 in omega (arith, k, l, e, less))
      (pairs-map (λ m n. m < n) (λ (e : Entry). e.uid) p.entries (rises-pairs 0 p.next_uid (map (λ (e : Entry). e.uid) p.entries) good.uids)))

  -- the range is the sorted list
  pub is_range : IsSorted v → v ≡ range_of spec p.entries
  is_range sorted =
      let S : Option IndexSpec → Type 0 = λ s. IsSorted (record { spec = s; pairs = v.pairs }) in
      let here : IsSorted (record { spec = spec; pairs = v.pairs }) = subst S is.declared sorted in
      let pairs = is_sorted (parts_of spec) v.pairs (entry_pairs (parts_of spec) p.entries) (valid_each (parts_of spec) v.pairs here.each) here.rise once_keyed there back in
      λ i. record { spec = is.declared i; pairs = pairs i }

-- ---- what is found

-- the range of a declaration that agrees
found_index : (spec : IndexSpec) (p : Soup) (ds : List IndexSpec) (vs : List Sorted) → IsSoup p → AreIndexes (graphs_of p) ds vs → IfSome (find (carries spec) vs) IsSorted
    → find (carries spec) vs ≡ option_map (λ d. range_of (Some d) p.entries) (find (same_spec spec) ds)
found_index spec p [] [] good are sorted = refl
found_index spec p (d ∷ ds) (v ∷ vs) good are sorted =
    go (carries spec v) (same_spec spec d) (ap (λ (s : Option IndexSpec). elim s [ None ↦ false | Some e ↦ same_spec spec e ]) are.0.declared) sorted (found_index spec p ds vs good are.1)
  where
    go : (b c : Bool) → b ≡ c → IfSome (cond b (Some v) (find (carries spec) vs)) IsSorted
        → (IfSome (find (carries spec) vs) IsSorted → find (carries spec) vs ≡ option_map (λ d. range_of (Some d) p.entries) (find (same_spec spec) ds))
        → cond b (Some v) (find (carries spec) vs) ≡ option_map (λ d. range_of (Some d) p.entries) (cond c (Some d) (find (same_spec spec) ds))
    go true true e s more = ap Some (is_range (Some d) p v good are.0 s)
    go false false e s more = more s
    go true false e s more = cc
    go false true e s more = cc
found_index spec p [] (v ∷ vs) good are sorted = absurd are
found_index spec p (d ∷ ds) [] good are sorted = absurd are

found_in : (spec : Option IndexSpec) (p : Soup) (r : SoupRanges) → IsSoup p → IsRangesOf p (graphs_of p) r → IfSome (find_range spec r) IsSorted → find_range spec r ≡ range_of_soup spec p
found_in None p r good is sorted = ap Some (is_range None p r.all good is.all sorted)
found_in (Some spec) p r good is sorted = found_index spec p p.specs r.indexes good is.indexes sorted

-- what is found among the ranges of a store is the range of the soup
pub is_found : (s : Store) (rows : List SoupRanges) (sig : ℕ) (spec : Option IndexSpec) → well_formed s ≡ true → AreRangesOf s rows → IfSome (range_found sig spec rows) IsSorted
    → range_found sig spec rows ≡ range_in sig spec s
is_found s rows sig spec formed are sorted = go (find (λ (p : Soup). p.sig == sig) s.soups) (ranges_of sig rows) (found_both graphs_of sig s.soups rows are) sorted
  where
    go : (o : Option Soup) (r : Option SoupRanges) → AreFound graphs_of s.soups o r → IfSome (option_and_then (find_range spec) r) IsSorted
        → option_and_then (find_range spec) r ≡ option_and_then (range_of_soup spec) o
    go None None found h = refl
    go (Some p) (Some r) found h = found_in spec p r (soup-good s p formed found.1) found.0 h
    go None (Some r) found h = absurd found
    go (Some p) None found h = absurd found

-- what was lent is sorted
pub lent_sorted : (r : Option (Bor Sorted)) (o : Option Sorted) → option_map (λ v. v.now) r ≡ o → IfSome r (λ v. IsSorted v.now) → IfSome o IsSorted
lent_sorted r o e h = let P : Option Sorted → Type 0 = λ o. IfSome o IsSorted in subst P e (go r h)
  where
    go : (r : Option (Bor Sorted)) → IfSome r (λ v. IsSorted v.now) → IfSome (option_map (λ v. v.now) r) IsSorted
    go None h = tt
    go (Some v) h = h

-- ---- masks

-- without a tags declaration the mask of each entry is 0
untagged_mask : (o : Option Entry) → option_map (λ k. 0) (option_and_then (key_by None) (option_map (λ e. e.graph) o)) ≡ option_map (λ (e : Entry). mask_by None e.graph) o
untagged_mask None = refl
untagged_mask (Some e) = refl

tagged_mask : (t : TagTable) (o : Option Entry) → option_map (mask_of t) (option_map (λ e. e.graph) o) ≡ option_map (λ (e : Entry). mask_by (Some t) e.graph) o
tagged_mask t None = refl
tagged_mask t (Some e) = refl

mask_in : (uid : ℕ) (p : Soup) (r : SoupRanges) → IsRangesOf p (graphs_of p) r → find_mask uid r ≡ option_map (λ (e : Entry). mask_by p.tags e.graph) (entry_of uid p)
mask_in uid p r is = go p.tags r.masks is.masks
  where
    go : (tags : Option TagTable) (o : Option Masks) → AreMasks (graphs_of p) tags o
        → mask_by_id o r.all uid ≡ option_map (λ (e : Entry). mask_by tags e.graph) (entry_of uid p)
    go None None are = ap (option_map (λ k. 0)) (is.all.keys uid) ∙ untagged_mask (entry_of uid p)
    go (Some t) (Some m) are = are.masks uid ∙ tagged_mask t (entry_of uid p)
    go None (Some m) are = absurd are
    go (Some t) None are = absurd are

-- what is found among the masks of a store is the mask of the entry
pub mask_is_found : (s : Store) (rows : List SoupRanges) (sig uid : ℕ) → AreRangesOf s rows → mask_found sig uid rows ≡ mask_at sig uid s
mask_is_found s rows sig uid are = go (find (λ (p : Soup). p.sig == sig) s.soups) (ranges_of sig rows) (found_both graphs_of sig s.soups rows are)
  where
    go : (o : Option Soup) (r : Option SoupRanges) → AreFound graphs_of s.soups o r
        → option_and_then (find_mask uid) r ≡ option_map (λ (e : Entry). mask_by (option_and_then (λ p. p.tags) o) e.graph) (option_and_then (entry_of uid) o)
    go None None found = refl
    go (Some p) (Some r) found = mask_in uid p r found.0
    go None (Some r) found = absurd found
    go (Some p) None found = absurd found
