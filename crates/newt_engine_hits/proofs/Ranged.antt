-- The key of an entry in the range of its soup.
use Rattle.std.proofs.Common.{◌≡◌, refl, ap, sym, ◌∙◌, subst, ℕ, ◌==◌, List, [], ◌∷◌, Bool, true, false, ◌&&◌, cond, find, Option, Some, None, option_map, option_and_then, inl, inr}
use Rattle.std.specs.Prelude.{IfSome, All}
use Rattle.std.specs.Borrow.{Bor}
use Rattle.std.proofs.lemmas.Bool.{eqb-true, eq-eqb}
use Rattle.std.proofs.lemmas.List.Elements.{All-head, All-tail}
use Rattle.newt_spec_graph.specs.Lists.{Among}
use Rattle.newt_spec_graph.proofs.Lists.{some-same, none-some, each-at, among-filter_map, filter_map-among}
use Rattle.newt_graph.specs.Graph.{RawGraph}
use Rattle.newt_spec_store.specs.Keys.{IndexSpec, Key, key}
use Rattle.newt_spec_store.specs.Sorted.{sorted_by}
use Rattle.newt_spec_store.specs.Store.{Store, Soup, Entry, TagTable, entry_of, soup_of, entry_at}
use Rattle.newt_spec_store.specs.Valid.{well_formed}
use Rattle.newt_spec_store.proofs.Sorting.{among-fold, fold-among}
use Rattle.newt_spec_query.specs.Hits.{carries, passes}
use Rattle.newt_spec_query.specs.Spec.{Spec}
use Rattle.newt_keys.specs.KeyForm.{IsKeyOf}
use Rattle.newt_laws_images.proofs.Stores.{IsSoup}
use Rattle.newt_laws_images.proofs.Chosen.{find-passes, find-one, one-uid, soup-good}
use Rattle.newt_index.specs.Pairs.{Pair, IsPair, IsSorted, Sorted, key_at, pair_cmp, parts_of}
use Rattle.newt_index.specs.Range.{entry_pair, entry_pairs, range_of}
use Rattle.newt_index_ranges.specs.Range.{range_in, range_of_soup}
use Rattle.newt_index_ranges.proofs.Lookups.{key-among, no_id}
use Rattle.newt_laws_hits.specs.Taking.{declared}
use Rattle.newt_laws_hits.proofs.Agreeing.{range-carried, carried-range}
use Rattle.newt_union.specs.Merged.{Agree}
use Rattle.newt_union.proofs.Orders.{same_keys}
use Rattle.newt_tags.specs.Masks.{mask_by}
use Rattle.newt_query.specs.Filter.{in_range}
use Rattle.newt_query.specs.Kept.{if_kept, kept_key}
use Rattle.newt_engine_card.specs.Cards.{mask_at}
use Rattle.newt_engine_hits.specs.Present.{IsCarried, key_in_store, key_of_entry}

-- ---- one soup

keyed-is : (parts : IndexSpec) (e : Entry) (z : Pair) (o : Option Key) → key e.graph parts ≡ o → option_map (λ k. (k, e.uid)) o ≡ Some z → (key e.graph parts ≡ Some z.0) × (e.uid ≡ z.1)
keyed-is parts e z None f h = absurd (none-some z h)
keyed-is parts e z (Some k) f h =
    let same : ◌≡◌ {A = Pair} (k, e.uid) z = some-same (k, e.uid) z h in
    (f ∙ ap (λ (q : Pair). Some q.0) same, ap (λ (q : Pair). q.1) same)

module _ (spec : Option IndexSpec) (p : Soup) (uid : ℕ) (good : IsSoup p) where
  abbrev listed : List Pair
  listed = entry_pairs (parts_of spec) p.entries

  abbrev ordered : List Pair
  ordered = sorted_by (pair_cmp (parts_of spec)) listed

  chosen : (z : Pair) → Among ordered z → Among listed z
  chosen z m = elim (among-fold (pair_cmp (parts_of spec)) [] listed z m) [ inl n ↦ absurd n | inr n ↦ n ]

  -- a key that is found is that of the entry
  key-found : (k : Key) → key_at ordered uid ≡ Some k → option_and_then (λ e. key e.graph (parts_of spec)) (entry_of uid p) ≡ Some k
  key-found k h =
      let w = among-filter_map (entry_pair (parts_of spec)) p.entries (k, uid) (chosen (k, uid) (key-among ordered k uid h)) in
      let e : Entry = w.0 in
      let i = keyed-is (parts_of spec) e (k, uid) (key e.graph (parts_of spec)) refl w.2 in
      let at : entry_of uid p ≡ Some e = find-one (λ (d : Entry). d.uid == uid) p.entries e (one-uid uid p good.uids) w.1 (eq-eqb e.uid uid i.1) in
      ap (λ (o : Option Entry). option_and_then (λ e. key e.graph (parts_of spec)) o) at ∙ i.0

  -- where none is found, there is none
  key-lost : key_at ordered uid ≡ None → option_and_then (λ e. key e.graph (parts_of spec)) (entry_of uid p) ≡ None
  key-lost h = go (entry_of uid p) refl
    where
      keyed : (e : Entry) → entry_of uid p ≡ Some e → (o : Option Key) → key e.graph (parts_of spec) ≡ o → o ≡ None
      keyed e at None f = refl
      keyed e at (Some k) f =
          let t = find-passes (λ (d : Entry). d.uid == uid) p.entries e at in
          let m = filter_map-among (entry_pair (parts_of spec)) p.entries e (k, e.uid) t.1 (ap (option_map (λ (k : Key). (k, e.uid))) f) in
          absurd (each-at (λ (q : Pair). uid ≡ q.1 → ⊥) ordered (k, e.uid) (no_id ordered uid h) (fold-among (pair_cmp (parts_of spec)) [] listed (k, e.uid) (inr m)) (sym (eqb-true e.uid uid t.0)))

      go : (o : Option Entry) → entry_of uid p ≡ o → option_and_then (λ e. key e.graph (parts_of spec)) o ≡ None
      go None at = refl
      go (Some e) at = keyed e at (key e.graph (parts_of spec)) refl

  range-key : key_at ordered uid ≡ option_and_then (λ e. key e.graph (parts_of spec)) (entry_of uid p)
  range-key = go (key_at ordered uid) refl
    where
      go : (o : Option Key) → key_at ordered uid ≡ o → o ≡ option_and_then (λ e. key e.graph (parts_of spec)) (entry_of uid p)
      go None h = sym (key-lost h)
      go (Some k) h = sym (key-found k h)

-- ---- the soup of a store

module _ (q : Spec) (soup uid : ℕ) (s : Store) where
  -- the range that is found has the entry's key by the index
  pub key-in-range : (v : Sorted) → well_formed s ≡ true → range_in soup (declared q.index) s ≡ Some v → key_at v.pairs uid ≡ key_of_entry q (entry_at soup uid s)
  key-in-range v formed h = go (soup_of soup s) refl h
    where
      same : (p : Soup) (d : Option IndexSpec) → ((g : RawGraph) → key g (parts_of d) ≡ key g q.index) → (o : Option Entry)
          → option_and_then (λ e. key e.graph (parts_of d)) o ≡ option_and_then (λ e. key e.graph q.index) o
      same p d keys None = refl
      same p d keys (Some e) = keys e.graph

      go : (o : Option Soup) → soup_of soup s ≡ o → option_and_then (range_of_soup (declared q.index)) o ≡ Some v → key_at v.pairs uid ≡ key_of_entry q (option_and_then (entry_of uid) o)
      go None at k = absurd (none-some v k)
      go (Some p) at k =
          let r = (range-carried q.index p v k).1 in
          let good = soup-good s p formed (find-passes (λ (p : Soup). p.sig == soup) s.soups p at).1 in
          ap (λ (v : Sorted). key_at v.pairs uid) r.range_is ∙ range-key r.declared_by p uid good ∙ same p r.declared_by r.keys (entry_of uid p)

  -- a soup that carries the index has a range
  pub no-range : IsCarried q soup s → None ≡ range_in soup (declared q.index) s → None ≡ key_of_entry q (entry_at soup uid s)
  no-range carried h = go (soup_of soup s) refl h
    where
      go : (o : Option Soup) → soup_of soup s ≡ o → None ≡ option_and_then (range_of_soup (declared q.index)) o → None ≡ key_of_entry q (option_and_then (entry_of uid) o)
      go None at k = refl
      go (Some p) at k = let r = carried-range q.index p (carried p at) in absurd (none-some r.0 (k ∙ r.1))

  -- the key and the mask decide
  pub unread-key : (k : Key) (mask : ℕ) (table : Option TagTable) (b : Bool) → table ≡ option_and_then (λ p. p.tags) (soup_of soup s) → Some mask ≡ mask_at soup uid s
      → Some k ≡ key_of_entry q (entry_at soup uid s) → ((g : RawGraph) → mask ≡ mask_by table g → b ≡ (in_range q k && passes q table g)) → cond b (Some k) None ≡ key_in_store q soup uid s
  unread-key k mask table b same has keyed is = go (entry_at soup uid s) has keyed
    where
      as-kept : (g : RawGraph) (t : Option TagTable) (o : Option Key) → Some k ≡ o → option_and_then (if_kept q t g) o ≡ cond (in_range q k && passes q t g) (Some k) None
      as-kept g t None e = absurd (none-some k (sym e))
      as-kept g t (Some x) e = ap (λ (x : Key). if_kept q t g x) (sym (some-same k x e))

      go : (o : Option Entry) → Some mask ≡ option_map (λ e. mask_by (option_and_then (λ p. p.tags) (soup_of soup s)) e.graph) o → Some k ≡ key_of_entry q o
          → cond b (Some k) None ≡ option_and_then (λ e. kept_key q (option_and_then (λ p. p.tags) (soup_of soup s)) e.graph) o
      go None m e = absurd (none-some mask (sym m))
      go (Some x) m e =
          ap (λ (b : Bool). cond b (Some k) None) (is x.graph (some-same mask _ m ∙ ap (λ (t : Option TagTable). mask_by t x.graph) (sym same)))
          ∙ ap (λ (t : Option TagTable). cond (in_range q k && passes q t x.graph) (Some k) None) same
          ∙ sym (as-kept x.graph (option_and_then (λ p. p.tags) (soup_of soup s)) (key x.graph q.index) e)

  pub no-key-unread : None ≡ key_of_entry q (entry_at soup uid s) → None ≡ key_in_store q soup uid s
  no-key-unread h = go (entry_at soup uid s) h
    where
      go : (o : Option Entry) → None ≡ key_of_entry q o → None ≡ option_and_then (λ e. kept_key q (option_and_then (λ p. p.tags) (soup_of soup s)) e.graph) o
      go None e = refl
      go (Some x) e = ap (option_and_then (if_kept q (option_and_then (λ p. p.tags) (soup_of soup s)) x.graph)) e

  pub no-mask-unread : None ≡ mask_at soup uid s → None ≡ key_in_store q soup uid s
  no-mask-unread h = go (entry_at soup uid s) h
    where
      go : (o : Option Entry) → None ≡ option_map (λ e. mask_by (option_and_then (λ p. p.tags) (soup_of soup s)) e.graph) o
          → None ≡ option_and_then (λ e. kept_key q (option_and_then (λ p. p.tags) (soup_of soup s)) e.graph) o
      go None e = refl
      go (Some x) e = absurd (none-some _ e)

-- ---- the form of the key

all-at : {X : Type 0} (P : X → Type 0) (xs : List X) (x : X) → All P xs → Among xs x → P x
all-at P [] x a m = absurd m
all-at P (y ∷ xs) x a (inl e) = subst P e (All-head P y xs a)
all-at P (y ∷ xs) x a (inr m) = all-at P xs x (All-tail P y xs a) m

pub key-of-index : (index : IndexSpec) (v : Sorted) (uid : ℕ) → IsSorted v → Agree index (parts_of v.spec) → (o : Option (Bor Key)) → option_map (λ k. k.now) o ≡ key_at v.pairs uid
    → IfSome o (λ k. IsKeyOf index k.now)
key-of-index index v uid sorted agree None e = tt
key-of-index index v uid sorted agree (Some k) e =
    same_keys index (parts_of v.spec) agree k.now (all-at (IsPair (parts_of v.spec)) v.pairs (k.now, uid) sorted.each (key-among v.pairs k.now uid (sym e))).is_key
