-- How many hits there are.
use Rattle.std.proofs.Common.{arith, ◌≡◌, refl, ap, sym, subst, ◌*◌, ◌<◌, ◌≤◌, ◌^◌, true, inl, inr, List, [], ◌∷◌, length, filter, filter_map, flat_map, map, Option, Some, None, length-append}
use Rattle.std.specs.List.{cons_option}
use Rattle.std.proofs.lemmas.List.{length-map}
use Rattle.newt_spec_graph.specs.Lists.{Each, Pairs, Among}
use Rattle.newt_spec_graph.proofs.Lists.{each-at}
use Rattle.newt_spec_store.specs.Store.{Entry, Soup, Store, soup_named}
use Rattle.newt_spec_store.specs.Valid.{well_formed}
use Rattle.newt_spec_query.specs.Hits.{Query, Hit, hits, hit_cmp, in_scope}
use Rattle.newt_laws_images.proofs.Chosen.{soup-good}
use Rattle.newt_laws_changes.proofs.Soups.{filter-length, rising-length}
use Rattle.newt_laws_world.proofs.Found.{Apart}
use Rattle.newt_index.specs.Pairs.{Pair, Sorted, parts_of, pair_cmp}
use Rattle.newt_index.specs.Range.{entry_pair, entry_pairs, range_of}
use Rattle.newt_union.specs.Merged.{Member, hit, hits_of}
use Rattle.newt_union.proofs.View.{length_sorted}
use Rattle.newt_laws_hits.specs.Stripped.{stripped, passing}
use Rattle.newt_laws_hits.specs.Taking.{member_of, members_of}
use Rattle.newt_laws_hits.proofs.Passing.{filtered}
use Rattle.newt_laws_hits.proofs.Members.{with_range, is-member, carried, merged-is}

-- ---- lists

pub chosen-length : {X Y : Type 0} (f : X → Option Y) (xs : List X) → length (filter_map f xs) ≤ length xs
chosen-length f [] = omega arith
chosen-length f (x ∷ xs) = go (f x) (chosen-length f xs)
  where
    go : (o : Option _) → length (filter_map f xs) ≤ length xs → length (cons_option o (filter_map f xs)) ≤ length (x ∷ xs)
    go None h = omega arith
    go (Some y) h = omega arith

-- each has so few
few-together : {X Y : Type 0} (f : X → List Y) (xs : List X) → ((x : X) → Among xs x → length (f x) ≤ 536870911) → length (flat_map f xs) ≤ length xs * 536870911
few-together f [] h = omega arith
few-together f (x ∷ xs) h =
    let first = h x (inl refl) in
    let more = few-together f xs (λ y m. h y (inr m)) in
    let all = length-append (f x) (flat_map f xs) in
    omega (arith, first, more, all)

-- ---- hits

range-few : (spec : Option _) (s : Store) (p : Soup) → well_formed s ≡ true → Among s.soups p → length (range_of spec p.entries).pairs ≤ 536870911
range-few spec s p w m =
    let good = soup-good s p w m in
    let a = length_sorted (pair_cmp (parts_of spec)) (entry_pairs (parts_of spec) p.entries) in
    let b = chosen-length (entry_pair (parts_of spec)) p.entries in
    let c = rising-length 0 p.next_uid (map (λ (e : Entry). e.uid) p.entries) (omega arith) good.uids in
    let d = length-map p.entries (λ (e : Entry). e.uid) in
    let e = good.next in
    omega (arith, a, b, c, d, e)

module _ (stores : List Store) (q : Query) (apart : Pairs Apart stores) (formed : Each (λ s. well_formed s ≡ true) stores) where
  member-few : (m : Member) → Among (members_of stores q) m → length (hits_of m) ≤ 536870911
  member-few m n =
      let i = is-member stores q m n in
      let f = (carried stores q apart formed m i).1 in
      subst (λ (x : Member). length (hits_of x) ≤ 536870911) i.is
      (subst (λ (v : Sorted). length (map (hit (with_range i.store i.soup i.range)) v.pairs) ≤ 536870911) (sym f.range_is)
      (few (range_of f.declared_by i.soup.entries).pairs (hit (with_range i.store i.soup i.range))
      (range-few f.declared_by i.store i.soup (each-at (λ s. well_formed s ≡ true) stores i.store formed i.is_store) i.is_soup)))
    where
      few : (ps : List Pair) (g : Pair → Hit) → length ps ≤ 536870911 → length (map g ps) ≤ 536870911
      few ps g h = let e = length-map ps g in omega (arith, e, h)

  pub hits-few : length stores ≤ 8 → length (hits stores q) < 2 ^ 32
  hits-few h =
      let a = ap length (filtered stores q apart formed) in
      let b = filter-length (passing stores q) (hits stores (stripped q)) in
      let c = ap length (merged-is stores q apart formed) in
      let d = length_sorted (hit_cmp q.spec.index) (flat_map hits_of (members_of stores q)) in
      let e = few-together hits_of (members_of stores q) member-few in
      let f = chosen-length (λ s. Rattle.std.specs.Prelude.option_and_then (member_of q s) (soup_named q.name s)) (filter (in_scope q.scope) stores) in
      let g = filter-length (in_scope q.scope) stores in
      omega (arith, a, b, c, d, e, f, g, h)
