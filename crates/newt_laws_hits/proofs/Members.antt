-- The hits of an index alone are the merge of its members' ranges.
use Rattle.std.proofs.Common.{arith, ◌≡◌, refl, ap, sym, ◌∙◌, subst, ℕ, ◌<◌, true, ◌&&◌, ◌==◌, inl, inr, List, [], ◌∷◌, find, filter, flat_map, map, Option, Some, None, option_map, option_and_then, cond}
use Rattle.std.specs.List.{All}
use Rattle.std.proofs.lemmas.Bool.{and_parts}
use Rattle.std.proofs.lemmas.List.Elements.{All-nil, All-cons}
use Rattle.newt_base.specs.Names.{equal_text}
use Rattle.newt_spec_graph.specs.Lists.{Each, Pairs, Among}
use Rattle.newt_spec_graph.proofs.Lists.{each-at, each-from, among-flat_map, flat_map-among, among-filter, filter-among, among-filter_map, filter_map-among, pairs-more, pairs-map, pairs-filter, pairs-filter_map, pairs-flat_map, rises-pairs, none-some, some-same}
use Rattle.newt_spec_store.specs.Keys.{IndexSpec, Key, key}
use Rattle.newt_spec_store.specs.Store.{Entry, Soup, Store, soup_named}
use Rattle.newt_spec_store.specs.Valid.{well_formed}
use Rattle.newt_spec_store.proofs.Sorting.{among-fold, fold-among, fold-pairs, sorted-rises, Untied}
use Rattle.newt_spec_query.specs.Hits.{Query, Hit, hits, hit_cmp, hit_of, kept, in_scope, carries}
use Rattle.newt_spec_query.proofs.Order.{hit_total}
use Rattle.newt_laws_images.proofs.Assembled.{map-among, among-map}
use Rattle.newt_laws_images.proofs.Chosen.{find-passes, find-one, one-name, there-soup, soup-good}
use Rattle.newt_laws_world.proofs.Found.{Apart, Other, other-untied, hits-rise}
use Rattle.newt_laws_world.proofs.Units.{mapped}
use Rattle.newt_index.specs.Pairs.{Pair, Sorted, parts_of, pair_cmp}
use Rattle.newt_index.specs.Range.{entry_pair, entry_pairs, range_of}
use Rattle.newt_index_ranges.specs.Range.{range_of_soup, range_in}
use Rattle.newt_union.specs.Merged.{Member, hit, hits_of, merged, Agree, AllAgree}
use Rattle.newt_laws_hits.specs.Stripped.{stripped}
use Rattle.newt_laws_hits.specs.Taking.{declared, member_of, members_of}
use Rattle.newt_laws_hits.proofs.Origins.{origin, among-hits, taken}
use Rattle.newt_laws_hits.proofs.Passing.{same-rising}
use Rattle.newt_laws_hits.proofs.Agreeing.{IsRangeFor, carried-range, range-carried}

-- ---- the members

abbrev pub with_range : Store → Soup → Sorted → Member
with_range s p r = record { store = s.sig; soup = p.sig; range = r }

-- a member is of a soup of the query's name, which carries its index
pub record IsMember (stores : List Store) (q : Query) (m : Member) : Type 0 where
  pub store : Store
  pub soup : Soup
  pub range : Sorted
  pub is_store : Among stores store
  pub scoped : in_scope q.scope store ≡ true
  pub is_soup : Among store.soups soup
  pub named : equal_text soup.name q.name ≡ true
  pub range_is : range_in soup.sig (declared q.spec.index) store ≡ Some range
  pub is : with_range store soup range ≡ m

member-same : (a b : Member) → Some a ≡ Some b → a ≡ b
member-same a b h = cc

pub is-member : (stores : List Store) (q : Query) (m : Member) → Among (members_of stores q) m → IsMember stores q m
is-member stores q m n =
    let f = among-filter_map (λ s. option_and_then (member_of q s) (soup_named q.name s)) (filter (in_scope q.scope) stores) m n in
    let b = among-filter (in_scope q.scope) stores f.0 f.1 in
    on_soup f.0 b (soup_named q.name f.0) refl f.2
  where
    on_range : (s : Store) → Among stores s × (in_scope q.scope s ≡ true) → (p : Soup) → (equal_text p.name q.name ≡ true) × Among s.soups p → (o : Option Sorted)
        → range_in p.sig (declared q.spec.index) s ≡ o → option_map (with_range s p) o ≡ Some m → IsMember stores q m
    on_range s b p c None e i = absurd (none-some m i)
    on_range s b p c (Some r) e i = record {
      store = s;
      soup = p;
      range = r;
      is_store = b.0;
      scoped = b.1;
      is_soup = c.1;
      named = c.0;
      range_is = e;
      is = member-same (with_range s p r) m i;
    }

    on_soup : (s : Store) → Among stores s × (in_scope q.scope s ≡ true) → (o : Option Soup) → soup_named q.name s ≡ o → option_and_then (member_of q s) o ≡ Some m
        → IsMember stores q m
    on_soup s b None e i = absurd (none-some m i)
    on_soup s b (Some p) e i = on_range s b p (find-passes (λ (x : Soup). equal_text x.name q.name) s.soups p e) (range_in p.sig (declared q.spec.index) s) refl i

-- ---- the pairs of a range

pairs-of-map : {X Y : Type 0} (R : Y → Y → Type 0) (f : X → Y) (xs : List X) → Pairs (λ a b. R (f a) (f b)) xs → Pairs R (map f xs)
pairs-of-map R f [] h = tt
pairs-of-map R f (x ∷ xs) h = (
  each-from (R (f x)) (map f xs) (λ z m. let a = among-map f xs z m in subst (R (f x)) a.2 (each-at (λ b. R (f x) (f b)) xs a.0 h.0 a.1)),
  pairs-of-map R f xs h.1,
)

-- two pairs are of different entries
abbrev Differ : Pair → Pair → Type 0
Differ a b = a.1 ≡ b.1 → ⊥

pair-uid : (spec : IndexSpec) (e : Entry) (a : Pair) → entry_pair spec e ≡ Some a → e.uid ≡ a.1
pair-uid spec e a = go (key e.graph spec)
  where
    go : (o : Option Key) → option_map (λ k. (k, e.uid)) o ≡ Some a → e.uid ≡ a.1
    go None i = absurd (none-some a i)
    go (Some k) i = ap (λ (x : Pair). x.1) (some-same (k, e.uid) a i)

entry-pairs-differ : (spec : IndexSpec) (s : Store) (p : Soup) → well_formed s ≡ true → Among s.soups p → Pairs Differ (entry_pairs spec p.entries)
entry-pairs-differ spec s p w m =
    pairs-filter_map Differ (entry_pair spec) p.entries
    (pairs-more (λ (d e : Entry). d.uid < e.uid) (λ d e. (a b : Pair) → entry_pair spec d ≡ Some a → entry_pair spec e ≡ Some b → Differ a b) p.entries
    (λ d e _ _ less a b f g same. let x = pair-uid spec d a f in let y = pair-uid spec e b g in absurd (omega (arith, x, y, same, less)))
    (pairs-map (λ m n. m < n) (λ (e : Entry). e.uid) p.entries (rises-pairs 0 p.next_uid (map (λ (e : Entry). e.uid) p.entries) (soup-good s p w m).uids)))

range-differs : (spec : Option IndexSpec) (s : Store) (p : Soup) → well_formed s ≡ true → Among s.soups p → Pairs Differ (range_of spec p.entries).pairs
range-differs spec s p w m =
    fold-pairs Differ (pair_cmp (parts_of spec)) (λ a b d e. d (sym e)) [] (entry_pairs (parts_of spec) p.entries) tt (entry-pairs-differ (parts_of spec) s p w m)
    (each-from (λ x. Each (Differ x) []) (entry_pairs (parts_of spec) p.entries) (λ z n. tt))

-- the hit of an entry is that of its pair
hit-pair : (q : Query) (s : Store) (p : Soup) (e : Entry) (spec : IndexSpec) (r : Sorted) → key e.graph spec ≡ key e.graph q.spec.index
    → hit_of (stripped q).spec s p e ≡ option_map (hit (with_range s p r)) (entry_pair spec e)
hit-pair q s p e spec r same = go (key e.graph q.spec.index) ∙ ap (λ o. option_map (hit (with_range s p r)) (option_map (λ k. (k, e.uid)) o)) (sym same)
  where
    go : (o : Option Key) → option_map (λ k. record { key = k; store = s.sig; soup = p.sig; uid = e.uid }) (kept (stripped q).spec p e o)
        ≡ option_map (hit (with_range s p r)) (option_map (λ k. (k, e.uid)) o)
    go None = refl
    go (Some k) = refl

-- the hit of an entry is among those of a range of its soup
member-hit : (q : Query) (s : Store) (p : Soup) (e : Entry) (r : Sorted) → (f : IsRangeFor q.spec.index p r) → (h : Hit) → Among p.entries e → hit_of (stripped q).spec s p e ≡ Some h
    → Among (hits_of (with_range s p r)) h
member-hit q s p e r f h m t =
    let spec = parts_of f.declared_by in
    let is = mapped (hit (with_range s p r)) (entry_pair spec e) h (sym (hit-pair q s p e spec r (f.keys e.graph)) ∙ t) in
    subst (Among (hits_of (with_range s p r))) is.2 (map-among (hit (with_range s p r)) r.pairs is.0
    (subst (λ (v : Sorted). Among v.pairs is.0) (sym f.range_is)
    (fold-among (pair_cmp spec) [] (entry_pairs spec p.entries) is.0 (inr (filter_map-among (entry_pair spec) p.entries e is.0 m is.1)))))

-- ---- all of them

module _ (stores : List Store) (q : Query) (apart : Pairs Apart stores) (formed : Each (λ s. well_formed s ≡ true) stores) where
  good : (s : Store) → Among stores s → well_formed s ≡ true
  good s m = each-at (λ s. well_formed s ≡ true) stores s formed m

  -- the range that is found by the signature is that of the soup
  in-soup : (s : Store) (p : Soup) → Among stores s → Among s.soups p → range_in p.sig (declared q.spec.index) s ≡ range_of_soup (declared q.spec.index) p
  in-soup s p m n = ap (option_and_then (range_of_soup (declared q.spec.index))) (there-soup s p (good s m) n)

  -- a hit of the index alone is among those of a member
  into : (h : Hit) → Among (hits stores (stripped q)) h → Among (merged q.spec.index (members_of stores q)) h
  into h n =
      let o = origin stores (stripped q) h n in
      let s = o.at.store in
      let p = o.at.soup in
      let e = o.at.entry in
      let t = taken (stripped q) o.at h o.is_hit in
      let b = and_parts (in_scope q.scope s) (equal_text p.name q.name && carries q.spec.index p) t.0 in
      let d = and_parts (equal_text p.name q.name) (carries q.spec.index p) b.1 in
      let r = carried-range q.spec.index p d.1 in
      let f = (range-carried q.spec.index p r.0 r.1).1 in
      let found : option_and_then (member_of q s) (soup_named q.name s) ≡ Some (with_range s p r.0) =
      ap (option_and_then (member_of q s)) (find-one (λ (x : Soup). equal_text x.name q.name) s.soups p (one-name q.name s (good s o.is_store)) o.is_soup d.0)
      ∙ ap (option_map (with_range s p)) (in-soup s p o.is_store o.is_soup ∙ r.1) in
      fold-among (hit_cmp q.spec.index) [] (flat_map hits_of (members_of stores q)) h (inr (flat_map-among hits_of (members_of stores q) (with_range s p r.0) h
      (filter_map-among (λ s. option_and_then (member_of q s) (soup_named q.name s)) (filter (in_scope q.scope) stores) s (with_range s p r.0)
      (filter-among (in_scope q.scope) stores s o.is_store b.0) found)
      (member-hit q s p e r.0 f h o.is_entry t.1)))

  -- what a member is, with its range
  pub carried : (m : Member) → (i : IsMember stores q m) → (carries q.spec.index i.soup ≡ true) × IsRangeFor q.spec.index i.soup i.range
  carried m i = range-carried q.spec.index i.soup i.range (sym (in-soup i.store i.soup i.is_store i.is_soup) ∙ i.range_is)

  -- a hit of a member is one of the index alone
  back : (h : Hit) → Among (merged q.spec.index (members_of stores q)) h → Among (hits stores (stripped q)) h
  back h n = elim (among-fold (hit_cmp q.spec.index) [] (flat_map hits_of (members_of stores q)) h n) [ inl m ↦ absurd m | inr m ↦ of_member m ]
    where
      of_member : Among (flat_map hits_of (members_of stores q)) h → Among (hits stores (stripped q)) h
      of_member k =
          let a = among-flat_map hits_of (members_of stores q) h k in
          let i = is-member stores q a.0 a.1 in
          let c = carried a.0 i in
          let f = c.1 in
          let m = among-map (hit (with_range i.store i.soup i.range)) i.range.pairs h (subst (λ (x : Member). Among (hits_of x) h) (sym i.is) a.2) in
          let n = subst (λ (v : Sorted). Among v.pairs m.0) f.range_is m.1 in
          pair_hit i.store i.soup i.range i.is_store i.scoped i.is_soup i.named c.0 f m.0 m.2
          (elim (among-fold (pair_cmp (parts_of f.declared_by)) [] (entry_pairs (parts_of f.declared_by) i.soup.entries) m.0 n) [ inl x ↦ absurd x | inr x ↦ x ])
        where
          pair_hit : (s : Store) (p : Soup) (r : Sorted) → Among stores s → in_scope q.scope s ≡ true → Among s.soups p → equal_text p.name q.name ≡ true → carries q.spec.index p ≡ true
              → (f : IsRangeFor q.spec.index p r) → (v : Pair) → hit (with_range s p r) v ≡ h → Among (entry_pairs (parts_of f.declared_by) p.entries) v → Among (hits stores (stripped q)) h
          pair_hit s p r x y z named has f v same k =
              let e = among-filter_map (entry_pair (parts_of f.declared_by)) p.entries v k in
              among-hits stores (stripped q) h (record {
                at = record { store = s; soup = p; entry = e.0 };
                is_store = x;
                is_soup = z;
                is_entry = e.1;
                is_hit = (λ i. cond (y i && (named i && has i)) (hit_of (stripped q).spec s p e.0) None)
                    ∙ hit-pair q s p e.0 (parts_of f.declared_by) r (f.keys e.0.graph)
                    ∙ ap (option_map (hit (with_range s p r))) e.2 ∙ ap Some same;
              })

  -- ---- the merge rises

  own-apart : (m : Member) → Among (members_of stores q) m → Pairs Other (hits_of m)
  own-apart m n =
      let i = is-member stores q m n in
      let f = (carried m i).1 in
      subst (λ (x : Member). Pairs Other (hits_of x)) i.is
      (pairs-of-map Other (hit (with_range i.store i.soup i.range)) i.range.pairs
      (pairs-more Differ (λ a b. Other (hit (with_range i.store i.soup i.range) a) (hit (with_range i.store i.soup i.range) b)) i.range.pairs (λ a b _ _ d _ _ same. d same)
      (subst (λ (v : Sorted). Pairs Differ v.pairs) (sym f.range_is) (range-differs f.declared_by i.store i.soup (good i.store i.is_store) i.is_soup))))

  member-store : (s : Store) (m : Member) → option_and_then (member_of q s) (soup_named q.name s) ≡ Some m → m.store ≡ s.sig
  member-store s m = go (soup_named q.name s)
    where
      go : (o : Option Soup) → option_and_then (member_of q s) o ≡ Some m → m.store ≡ s.sig
      go None i = absurd (none-some m i)
      go (Some p) i = by (range_in p.sig (declared q.spec.index) s) i
        where
          by : (o : Option Sorted) → option_map (with_range s p) o ≡ Some m → m.store ≡ s.sig
          by None i = absurd (none-some m i)
          by (Some r) i = ap (λ (x : Member). x.store) (sym (member-same (with_range s p r) m i))

  hit-store : (m : Member) (h : Hit) → Among (hits_of m) h → h.store ≡ m.store
  hit-store m h n = let a = among-map (hit m) m.range.pairs h n in ap (λ (x : Hit). x.store) (sym a.2)

  merged-apart : Pairs Other (flat_map hits_of (members_of stores q))
  merged-apart =
      pairs-flat_map Other hits_of (members_of stores q) (each-from (λ m. Pairs Other (hits_of m)) (members_of stores q) own-apart)
      (pairs-filter_map (λ x y. (a b : Hit) → Among (hits_of x) a → Among (hits_of y) b → Other a b) (λ s. option_and_then (member_of q s) (soup_named q.name s))
      (filter (in_scope q.scope) stores)
      (pairs-more Apart (λ s t. (x y : Member) → option_and_then (member_of q s) (soup_named q.name s) ≡ Some x → option_and_then (member_of q t) (soup_named q.name t) ≡ Some y
      → (a b : Hit) → Among (hits_of x) a → Among (hits_of y) b → Other a b)
      (filter (in_scope q.scope) stores)
      (λ s t _ _ differ x y e f a b m n same _ _.
      differ (sym (hit-store x a m ∙ member-store s x e) ∙ same ∙ hit-store y b n ∙ member-store t y f))
      (pairs-filter Apart (in_scope q.scope) stores apart)))

  pub merged-is : hits stores (stripped q) ≡ merged q.spec.index (members_of stores q)
  merged-is = same-rising (hit_cmp q.spec.index) (hit_total q.spec.index) (hits stores (stripped q)) (merged q.spec.index (members_of stores q))
      (hits-rise stores (stripped q) apart formed)
      (sorted-rises (hit_cmp q.spec.index) (hit_total q.spec.index) (flat_map hits_of (members_of stores q))
      (pairs-more Other (Untied (hit_cmp q.spec.index)) (flat_map hits_of (members_of stores q)) (λ a b _ _ o. other-untied q.spec.index a b o) merged-apart))
      into back

-- ---- the declarations agree

each-all : {X : Type 0} (P : X → Type 0) (xs : List X) → ((x : X) → Among xs x → P x) → All P xs
each-all P [] h = All-nil P
each-all P (x ∷ xs) h = All-cons P x xs (h x (inl refl)) (each-all P xs (λ y m. h y (inr m)))

pub members-agree : (stores : List Store) (q : Query) → AllAgree q.spec.index (members_of stores q)
members-agree stores q = each-all (λ (m : Member). Agree q.spec.index (parts_of m.range.spec)) (members_of stores q) (λ m n.
    let i = is-member stores q m n in
    subst (λ (x : Member). Agree q.spec.index (parts_of x.range.spec)) i.is (agree_of i.soup.sig i.store i.range i.range_is))
  where
    agree_of : (sig : ℕ) (s : Store) (r : Sorted) → range_in sig (declared q.spec.index) s ≡ Some r → Agree q.spec.index (parts_of r.spec)
    agree_of sig s r = go (find (λ p. p.sig == sig) s.soups)
      where
        go : (o : Option Soup) → option_and_then (range_of_soup (declared q.spec.index)) o ≡ Some r → Agree q.spec.index (parts_of r.spec)
        go None e = absurd (none-some r e)
        go (Some p) e = let f = (range-carried q.spec.index p r e).1 in subst (λ (v : Sorted). Agree q.spec.index (parts_of v.spec)) (sym f.range_is) f.agree
