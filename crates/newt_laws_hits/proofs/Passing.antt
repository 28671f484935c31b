-- The hits of a query and those of its index alone.
use Rattle.std.proofs.Common.{◌≡◌, refl, ap, sym, ◌∙◌, Bool, true, false, ◌&&◌, List, filter, Option, Some, None, option_map, cond}
use Rattle.std.specs.declared.cmp.Ordering.{Ordering}
use Rattle.std.specs.declared.cmp.Ordering.TheVariants.{Less, Equal}
use Rattle.std.specs.Cmp.{IsTotalOrder}
use Rattle.std.proofs.lemmas.Cmp.{tied_itself}
use Rattle.newt_spec_graph.specs.Lists.{Each, Pairs, Among}
use Rattle.newt_spec_graph.proofs.Lists.{among-filter, filter-among, pairs-filter, none-some, some-same}
use Rattle.newt_spec_store.specs.Keys.{Key, key}
use Rattle.newt_spec_store.specs.Store.{Entry, Soup, Store}
use Rattle.newt_spec_store.specs.Valid.{well_formed}
use Rattle.newt_spec_store.proofs.Sorting.{Rise}
use Rattle.newt_spec_query.specs.Hits.{Query, Hit, hits, hit_cmp, hit_of, kept, above, below, passes}
use Rattle.newt_spec_query.proofs.Order.{hit_total}
use Rattle.newt_laws_images.proofs.Assembled.{rising-same}
use Rattle.newt_laws_world.proofs.Found.{Apart, hits-rise}
use Rattle.newt_laws_hits.specs.Located.{Located}
use Rattle.newt_laws_hits.specs.Stripped.{stripped, entry_passes, passing}
use Rattle.newt_laws_hits.proofs.Origins.{origin, among-hits, taken, hit-located}

-- ---- two lists that rise and have the same elements are one

module _ {X : Type 0} (cmp : X → X → Ordering) (o : IsTotalOrder cmp) where
  not-less : (x : X) → cmp x x ≡ Less → ⊥
  not-less x l = differ (sym (tied_itself o x) ∙ l)
    where
      differ : Equal ≡ Less → ⊥
      differ e = cc

  pub same-rising : (xs ys : List X) → Pairs (Rise cmp) xs → Pairs (Rise cmp) ys → ((z : X) → Among xs z → Among ys z) → ((z : X) → Among ys z → Among xs z) → xs ≡ ys
  same-rising = rising-same (Rise cmp) not-less o.trans

-- ---- one entry

module _ (q : Query) (s : Store) (p : Soup) (e : Entry) where
  hit_with : Key → Hit
  hit_with k = record { key = k; store = s.sig; soup = p.sig; uid = e.uid }

  test : Key → Bool
  test k = above q.spec.index q.spec.lower k && below q.spec.index q.spec.upper k && passes q.spec p.tags e.graph

  pub hit-split : (h : Hit) → hit_of q.spec s p e ≡ Some h
      → (hit_of (stripped q).spec s p e ≡ Some h) × ((above q.spec.index q.spec.lower h.key && below q.spec.index q.spec.upper h.key && passes q.spec p.tags e.graph) ≡ true)
  unfolding hit_with test
  hit-split h = go (key e.graph q.spec.index)
    where
      go : (o : Option Key) → option_map hit_with (kept q.spec p e o) ≡ Some h → (option_map hit_with (kept (stripped q).spec p e o) ≡ Some h) × (test h.key ≡ true)
      go None i = absurd (none-some h i)
      go (Some k) i = by (test k) refl i
        where
          by : (b : Bool) → test k ≡ b → option_map hit_with (cond b (Some k) None) ≡ Some h → (Some (hit_with k) ≡ Some h) × (test h.key ≡ true)
          by true t i = (i, ap (λ (x : Hit). test x.key) (sym (some-same (hit_with k) h i)) ∙ t)
          by false t i = absurd (none-some h i)

  pub hit-join : (h : Hit) → hit_of (stripped q).spec s p e ≡ Some h
      → (above q.spec.index q.spec.lower h.key && below q.spec.index q.spec.upper h.key && passes q.spec p.tags e.graph) ≡ true → hit_of q.spec s p e ≡ Some h
  unfolding hit_with test
  hit-join h = go (key e.graph q.spec.index)
    where
      go : (o : Option Key) → option_map hit_with (kept (stripped q).spec p e o) ≡ Some h → test h.key ≡ true → option_map hit_with (kept q.spec p e o) ≡ Some h
      go None i t = absurd (none-some h i)
      go (Some k) i t = ap (λ b. option_map hit_with (cond b (Some k) None)) (ap (λ (x : Hit). test x.key) (some-same (hit_with k) h i) ∙ t) ∙ i

-- ---- all hits

module _ (stores : List Store) (q : Query) (apart : Pairs Apart stores) (formed : Each (λ s. well_formed s ≡ true) stores) where
  in_range : Hit → Option Located → Bool
  in_range h o = above q.spec.index q.spec.lower h.key && below q.spec.index q.spec.upper h.key && entry_passes q o

  into : (h : Hit) → Among (hits stores q) h → Among (filter (passing stores q) (hits stores (stripped q))) h
  unfolding in_range
  into h m =
      let r = origin stores q h m in
      let t = taken q r.at h r.is_hit in
      let k = hit-split q r.at.store r.at.soup r.at.entry h t.1 in
      filter-among (passing stores q) (hits stores (stripped q)) h
      (among-hits stores (stripped q) h (record {
        at = r.at;
        is_store = r.is_store;
        is_soup = r.is_soup;
        is_entry = r.is_entry;
        is_hit = ap (λ b. cond b (hit_of (stripped q).spec r.at.store r.at.soup r.at.entry) None) t.0 ∙ k.0;
      }))
      (ap (in_range h) (hit-located stores apart formed q h r) ∙ k.1)

  back : (h : Hit) → Among (filter (passing stores q) (hits stores (stripped q))) h → Among (hits stores q) h
  unfolding in_range
  back h n =
      let m = among-filter (passing stores q) (hits stores (stripped q)) h n in
      let r = origin stores (stripped q) h m.0 in
      let t = taken (stripped q) r.at h r.is_hit in
      among-hits stores q h (record {
        at = r.at;
        is_store = r.is_store;
        is_soup = r.is_soup;
        is_entry = r.is_entry;
        is_hit = ap (λ b. cond b (hit_of q.spec r.at.store r.at.soup r.at.entry) None) t.0
            ∙ hit-join q r.at.store r.at.soup r.at.entry h t.1 (sym (ap (in_range h) (hit-located stores apart formed (stripped q) h r)) ∙ m.1);
      })

  pub filtered : hits stores q ≡ filter (passing stores q) (hits stores (stripped q))
  filtered = same-rising (hit_cmp q.spec.index) (hit_total q.spec.index) (hits stores q) (filter (passing stores q) (hits stores (stripped q)))
      (hits-rise stores q apart formed) (pairs-filter (Rise (hit_cmp q.spec.index)) (passing stores q) (hits stores (stripped q)) (hits-rise stores (stripped q) apart formed))
      into back
