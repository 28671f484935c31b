-- The hits of a query are the entries that it finds, in rising order.
use Rattle.std.proofs.Common.{arith, ◌≡◌, refl, ap, sym, ◌∙◌, subst, ℕ, ◌<◌, List, [], true, false, Bool, ◌&&◌, ◌⊎◌, inl, inr, cond, Option, Some, None, filter, flat_map, filter_map, option_map, map}
use Rattle.std.specs.declared.cmp.Ordering.{Ordering}
use Rattle.std.specs.declared.cmp.Ordering.TheVariants.{Less, Equal, Greater}
use Rattle.std.specs.Ordering.{nat_cmp, ordering_then}
use Rattle.std.proofs.lemmas.Bool.{and_parts}
use Rattle.newt_base.specs.Names.{equal_text}
use Rattle.newt_spec_store.specs.Keys.{key, Key, key_cmp, IndexSpec}
use Rattle.newt_spec_store.specs.Store.{Entry, Soup, Store}
use Rattle.newt_spec_store.specs.Valid.{well_formed, valid_soup}
use Rattle.newt_spec_query.specs.Spec.{Spec}
use Rattle.newt_spec_query.specs.Hits.{Query, Hit, hits, hit_of, kept, soup_hits, in_scope, carries, above, below, passes, hit_cmp}
use Rattle.newt_spec_graph.specs.Lists.{Each, Pairs, Among}
use Rattle.newt_laws_world.specs.Found.{IsHit}
use Rattle.newt_spec_graph.proofs.Lists.{each-at, each-from, each-list_all, among-flat_map, flat_map-among, among-filter, filter-among, among-filter_map, filter_map-among, pairs-more, pairs-map, pairs-flat_map, pairs-filter, pairs-filter_map, rises-pairs, none-some, some-same}
use Rattle.newt_laws_images.proofs.Assembled.{tied-same}
use Rattle.newt_spec_query.proofs.Order.{hit_total}
use Rattle.newt_spec_store.proofs.Sorting.{fold-among, among-fold, fold-pairs, sorted-rises, Rise, Untied}

-- ---- the hit of one entry

record IsHitOf (q : Spec) (s : Store) (p : Soup) (e : Entry) (h : Hit) : Type 0 where
  keyed : key e.graph q.index ≡ Some h.key
  is_above : above q.index q.lower h.key ≡ true
  is_below : below q.index q.upper h.key ≡ true
  passed : passes q p.tags e.graph ≡ true
  store_is : h.store ≡ s.sig
  soup_is : h.soup ≡ p.sig
  uid_is : h.uid ≡ e.uid

abbrev hit_with : Store → Soup → Entry → Key → Hit
hit_with s p e k = record { key = k; store = s.sig; soup = p.sig; uid = e.uid }

three : (a b c : Bool) → (a && b && c) ≡ true → (a ≡ true) × (b ≡ true) × (c ≡ true)
three a b c h = (grind arith, grind arith, grind arith)

made : (q : Spec) (s : Store) (p : Soup) (e : Entry) (h : Hit) (k : Key) → key e.graph q.index ≡ Some k → (b : Bool)
    → (above q.index q.lower k && below q.index q.upper k && passes q p.tags e.graph) ≡ b
    → option_map (hit_with s p e) (cond b (Some k) None) ≡ Some h → IsHitOf q s p e h
made q s p e h k has true t is = subst (IsHitOf q s p e) (some-same (hit_with s p e k) h is) (record {
  keyed = has;
  is_above = parts.0;
  is_below = parts.1;
  passed = parts.2;
  store_is = refl;
  soup_is = refl;
  uid_is = refl;
})
  where
    parts : (above q.index q.lower k ≡ true) × (below q.index q.upper k ≡ true) × (passes q p.tags e.graph ≡ true)
    parts = three _ _ _ t
made q s p e h k has false t is = absurd (none-some h is)

is-hit-of : (q : Spec) (s : Store) (p : Soup) (e : Entry) (h : Hit) → hit_of q s p e ≡ Some h → IsHitOf q s p e h
is-hit-of q s p e h = go (key e.graph q.index) refl
  where
    go : (o : Option Key) → key e.graph q.index ≡ o → option_map (hit_with s p e) (kept q p e o) ≡ Some h → IsHitOf q s p e h
    go None has is = absurd (none-some h is)
    go (Some k) has is = made q s p e h k has _ refl is

hit-of-is : (q : Spec) (s : Store) (p : Soup) (e : Entry) (h : Hit) → IsHitOf q s p e h → hit_of q s p e ≡ Some h
hit-of-is q s p e h r =
    ap (λ o. option_map (hit_with s p e) (kept q p e o)) r.keyed
    ∙ ap (λ b. option_map (hit_with s p e) (cond b (Some h.key) None)) all
    ∙ ap Some same
  where
    all : (above q.index q.lower h.key && below q.index q.upper h.key && passes q p.tags e.graph) ≡ true
    all = grind (arith, r.is_above, r.is_below, r.passed)

    same : hit_with s p e h.key ≡ h
    same = grind (arith, r.store_is, r.soup_is, r.uid_is)

-- ---- exactly what is found

pub hit-found : (stores : List Store) (q : Query) (h : Hit) → Among (hits stores q) h → IsHit stores q h
hit-found stores q h m = go (among-fold _ [] _ h m)
  where
    soup-part : (s : Store) (p : Soup) → Among stores s → in_scope q.scope s ≡ true → Among s.soups p → (b : Bool)
        → (equal_text p.name q.name && carries q.spec.index p) ≡ b → Among (cond b (filter_map (hit_of q.spec s p) p.entries) []) h → IsHit stores q h
    soup-part s p a b c false e n = absurd n
    soup-part s p a b c true e n =
        let r = among-filter_map (hit_of q.spec s p) p.entries h n in
        let f = is-hit-of q.spec s p r.0 h r.2 in
        let both = and_parts (equal_text p.name q.name) (carries q.spec.index p) e in
        record {
          «in» = s;
          of = p;
          entry = r.0;
          is_store = a;
          scoped = b;
          is_soup = c;
          named = both.0;
          carried = both.1;
          is_entry = r.1;
          keyed = f.keyed;
          is_above = f.is_above;
          is_below = f.is_below;
          passed = f.passed;
          store_is = f.store_is;
          soup_is = f.soup_is;
          uid_is = f.uid_is;
        }

    go : Among [] h ⊎ Among (flat_map (λ s. flat_map (soup_hits q s) s.soups) (filter (in_scope q.scope) stores)) h → IsHit stores q h
    go (inl n) = absurd n
    go (inr n) =
        let a = among-flat_map (λ s. flat_map (soup_hits q s) s.soups) (filter (in_scope q.scope) stores) h n in
        let b = among-filter (in_scope q.scope) stores a.0 a.1 in
        let c = among-flat_map (soup_hits q a.0) a.0.soups h a.2 in
        soup-part a.0 c.0 b.0 b.1 c.1 _ refl c.2

pub found-hit : (stores : List Store) (q : Query) (h : Hit) → IsHit stores q h → Among (hits stores q) h
found-hit stores q h r =
    fold-among (hit_cmp q.spec.index) [] _ h (inr (flat_map-among (λ s. flat_map (soup_hits q s) s.soups) (filter (in_scope q.scope) stores) r.«in» h
    (filter-among (in_scope q.scope) stores r.«in» r.is_store r.scoped)
    (flat_map-among (soup_hits q r.«in») r.«in».soups r.of h r.is_soup
    (subst (λ b. Among (cond b (filter_map (hit_of q.spec r.«in» r.of) r.of.entries) []) h) (sym both)
    (filter_map-among (hit_of q.spec r.«in» r.of) r.of.entries r.entry h r.is_entry (hit-of-is q.spec r.«in» r.of r.entry h (record {
      keyed = r.keyed;
      is_above = r.is_above;
      is_below = r.is_below;
      passed = r.passed;
      store_is = r.store_is;
      soup_is = r.soup_is;
      uid_is = r.uid_is;
    })))))))
  where
    both : (equal_text r.of.name q.name && carries q.spec.index r.of) ≡ true
    both = grind (arith, r.named, r.carried)

-- ---- in rising order

-- hits of different entries
abbrev pub Other : Hit → Hit → Type 0
Other a b = a.store ≡ b.store → a.soup ≡ b.soup → a.uid ≡ b.uid → ⊥

then-equal-parts : (a b : Ordering) → ordering_then a b ≡ Equal → (a ≡ Equal) × (b ≡ Equal)
then-equal-parts Less b h = cc
then-equal-parts Equal b h = (refl, h)
then-equal-parts Greater b h = cc

pub other-untied : (index : IndexSpec) (a b : Hit) → Other a b → Untied (hit_cmp index) a b
other-untied index a b other t =
    let p = then-equal-parts (key_cmp index a.key b.key) _ t in
    let q = then-equal-parts (nat_cmp a.store b.store) _ p.1 in
    let r = then-equal-parts (nat_cmp a.soup b.soup) _ q.1 in
    other (tied-same _ _ q.0) (tied-same _ _ r.0) (tied-same _ _ r.1)

-- the soups of a store, and the entries of a soup, rise
soups-rise : (s : Store) → well_formed s ≡ true → Pairs (λ (m n : ℕ). m < n) (map (λ p. p.sig) s.soups)
soups-rise s h = rises-pairs 0 s.next_soup _ (grind arith)

each-soup : (s : Store) → well_formed s ≡ true → Each (λ p. valid_soup p ≡ true) s.soups
each-soup s h = each-list_all valid_soup s.soups (grind arith)

entries-rise : (p : Soup) → valid_soup p ≡ true → Pairs (λ (m n : ℕ). m < n) (map (λ e. e.uid) p.entries)
entries-rise p h = rises-pairs 0 p.next_uid _ (grind arith)

soup-hits-apart : (q : Query) (s : Store) (p : Soup) → valid_soup p ≡ true → Pairs Other (soup_hits q s p)
soup-hits-apart q s p v = go (equal_text p.name q.name && carries q.spec.index p)
  where
    go : (b : Bool) → Pairs Other (cond b (filter_map (hit_of q.spec s p) p.entries) [])
    go false = tt
    go true = pairs-filter_map Other (hit_of q.spec s p) p.entries (pairs-more _ _ p.entries
        (λ d e _ _ lt a b f g _ _ same. absurd (omega (arith, lt, same, (is-hit-of q.spec s p d a f).uid_is, (is-hit-of q.spec s p e b g).uid_is)))
        (pairs-map (λ m n. m < n) (λ (e : Entry). e.uid) p.entries (entries-rise p v)))

-- where the hits of one soup are from
in-soup : (q : Query) (s : Store) (p : Soup) (h : Hit) → Among (soup_hits q s p) h → (h.store ≡ s.sig) × (h.soup ≡ p.sig)
in-soup q s p h = go (equal_text p.name q.name && carries q.spec.index p)
  where
    go : (b : Bool) → Among (cond b (filter_map (hit_of q.spec s p) p.entries) []) h → (h.store ≡ s.sig) × (h.soup ≡ p.sig)
    go false m = absurd m
    go true m =
        let r = among-filter_map (hit_of q.spec s p) p.entries h m in
        let f = is-hit-of q.spec s p r.0 h r.2 in
        (f.store_is, f.soup_is)

store-hits-apart : (q : Query) (s : Store) → well_formed s ≡ true → Pairs Other (flat_map (soup_hits q s) s.soups)
store-hits-apart q s v = pairs-flat_map Other (soup_hits q s) s.soups
    (each-from _ s.soups (λ p m. soup-hits-apart q s p (each-at _ s.soups p (each-soup s v) m)))
    (pairs-more _ _ s.soups
    (λ d e _ _ lt a b f g _ same _. absurd (omega (arith, lt, same, (in-soup q s d a f).1, (in-soup q s e b g).1)))
    (pairs-map (λ m n. m < n) (λ (p : Soup). p.sig) s.soups (soups-rise s v)))

in-store : (q : Query) (s : Store) (h : Hit) → Among (flat_map (soup_hits q s) s.soups) h → h.store ≡ s.sig
in-store q s h m = let r = among-flat_map (soup_hits q s) s.soups h m in (in-soup q s r.0 h r.2).0

-- stores with different signatures
abbrev pub Apart : Store → Store → Type 0
Apart s t = s.sig ≡ t.sig → ⊥

pub found-apart : (stores : List Store) (q : Query) → Pairs Apart stores → Each (λ s. well_formed s ≡ true) stores
    → Pairs Other (flat_map (λ s. flat_map (soup_hits q s) s.soups) (filter (in_scope q.scope) stores))
found-apart stores q apart v = pairs-flat_map Other (λ s. flat_map (soup_hits q s) s.soups) (filter (in_scope q.scope) stores)
    (each-from _ _ (λ s m. store-hits-apart q s (each-at _ stores s v (among-filter (in_scope q.scope) stores s m).0)))
    (pairs-more Apart _ (filter (in_scope q.scope) stores)
    (λ s t _ _ differ a b f g same _ _. differ (sym (in-store q s a f) ∙ same ∙ in-store q t b g))
    (pairs-filter Apart (in_scope q.scope) stores apart))

pub hits-rise : (stores : List Store) (q : Query) → Pairs Apart stores → Each (λ s. well_formed s ≡ true) stores → Pairs (Rise (hit_cmp q.spec.index)) (hits stores q)
hits-rise stores q apart v = sorted-rises (hit_cmp q.spec.index) (hit_total q.spec.index) _
    (pairs-more Other (Untied (hit_cmp q.spec.index)) _ (λ a b _ _ o. other-untied q.spec.index a b o) (found-apart stores q apart v))

pub hits-apart : (stores : List Store) (q : Query) → Pairs Apart stores → Each (λ s. well_formed s ≡ true) stores → Pairs Other (hits stores q)
hits-apart stores q apart v = fold-pairs Other (hit_cmp q.spec.index) (λ a b o s p u. o (sym s) (sym p) (sym u)) [] _ tt (found-apart stores q apart v) (each-from _ _ (λ z m. tt))
