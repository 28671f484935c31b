-- Steps among the hits of a query by the searches of the union.
use Rattle.std.proofs.Common.{◌≡◌, ap, sym, ◌∙◌, subst, true, ◌<◌, List, filter, length, Some}
use Rattle.newt_spec_graph.specs.Lists.{Each, Pairs}
use Rattle.newt_spec_store.specs.Keys.{Key}
use Rattle.newt_spec_store.specs.Store.{Store}
use Rattle.newt_spec_store.specs.Valid.{well_formed}
use Rattle.newt_spec_store.proofs.Sorting.{Rise}
use Rattle.newt_spec_query.specs.Hits.{Query, Hit, hits, hit_cmp}
use Rattle.newt_spec_query.specs.Cursor.{start, finish, on, first_place, last_place, next_place, previous_place, place_at_key}
use Rattle.newt_laws_world.proofs.Found.{Apart, hits-rise}
use Rattle.newt_index.specs.Pairs.{first, last}
use Rattle.newt_union.specs.Merged.{merged, after, before, at_or_after}
use Rattle.newt_laws_hits.specs.Stripped.{stripped, passing}
use Rattle.newt_laws_hits.specs.Taking.{members_of}
use Rattle.newt_laws_hits.specs.Walk.{walked, counted, count_after, count_before}
use Rattle.newt_laws_hits.proofs.Stepping.{after-is, before-is, first-is, last-is, next-walked, previous-walked, at_key-walked, first-counts, next-counted, fewer-after, fewer-before}
use Rattle.newt_laws_hits.proofs.Passing.{filtered}
use Rattle.newt_laws_hits.proofs.Members.{merged-is}

module _ (stores : List Store) (q : Query) (apart : Pairs Apart stores) (formed : Each (λ s. well_formed s ≡ true) stores) where
  abbrev all_hits : List Hit
  all_hits = merged q.spec.index (members_of stores q)

  rise : Pairs (Rise (hit_cmp q.spec.index)) all_hits
  rise = subst (Pairs (Rise (hit_cmp q.spec.index))) (merged-is stores q apart formed) (hits-rise stores (stripped q) apart formed)

  -- the hits are those of the union that pass
  kept : hits stores q ≡ filter (passing stores q) all_hits
  kept = filtered stores q apart formed ∙ ap (filter (passing stores q)) (merged-is stores q apart formed)

  pub first-search : first_place (hits stores q) ≡ walked (passing stores q) finish (next_place (hits stores q) q.spec.index) (first all_hits)
  first-search =
      ap first_place kept ∙ first-is q.spec.index (passing stores q) all_hits rise
      ∙ ap (λ ys. walked (passing stores q) finish (next_place ys q.spec.index) (first all_hits)) (sym kept)

  pub last-search : last_place (hits stores q) ≡ walked (passing stores q) start (previous_place (hits stores q) q.spec.index) (last all_hits)
  last-search =
      ap last_place kept ∙ last-is q.spec.index (passing stores q) all_hits rise
      ∙ ap (λ ys. walked (passing stores q) start (previous_place ys q.spec.index) (last all_hits)) (sym kept)

  pub next-search : (at : Hit)
      → next_place (hits stores q) q.spec.index (on at) ≡ walked (passing stores q) finish (next_place (hits stores q) q.spec.index) (after q.spec.index (members_of stores q) at)
  next-search at =
      ap (λ ys. next_place ys q.spec.index (on at)) kept ∙ next-walked q.spec.index (passing stores q) all_hits rise (on at)
      ∙ (λ i. walked (passing stores q) finish (next_place (sym kept i) q.spec.index) (first (after-is q.spec.index all_hits at i)))

  pub previous-search : (at : Hit)
      → previous_place (hits stores q) q.spec.index (on at) ≡ walked (passing stores q) start (previous_place (hits stores q) q.spec.index) (before q.spec.index (members_of stores q) at)
  previous-search at =
      ap (λ ys. previous_place ys q.spec.index (on at)) kept ∙ previous-walked q.spec.index (passing stores q) all_hits rise (on at)
      ∙ (λ i. walked (passing stores q) start (previous_place (sym kept i) q.spec.index) (last (before-is q.spec.index all_hits at i)))

  pub at_key-search : (k : Key)
      → place_at_key (hits stores q) q.spec.index k ≡ walked (passing stores q) finish (next_place (hits stores q) q.spec.index) (at_or_after q.spec.index (members_of stores q) k)
  at_key-search k =
      ap (λ ys. place_at_key ys q.spec.index k) kept ∙ at_key-walked q.spec.index (passing stores q) all_hits rise k
      ∙ ap (λ ys. walked (passing stores q) finish (next_place ys q.spec.index) (at_or_after q.spec.index (members_of stores q) k)) (sym kept)

  -- ---- counts

  pub first-count : length (hits stores q) ≡ counted (passing stores q) (count_after q.spec.index (hits stores q)) (first all_hits)
  first-count =
      ap length kept ∙ first-counts q.spec.index (passing stores q) all_hits rise
      ∙ ap (λ ys. counted (passing stores q) (count_after q.spec.index ys) (first all_hits)) (sym kept)

  pub next-count : (at : Hit)
      → count_after q.spec.index (hits stores q) (on at) ≡ counted (passing stores q) (count_after q.spec.index (hits stores q)) (after q.spec.index (members_of stores q) at)
  next-count at =
      ap (λ ys. count_after q.spec.index ys (on at)) kept ∙ next-counted q.spec.index (passing stores q) all_hits rise (on at)
      ∙ (λ i. counted (passing stores q) (count_after q.spec.index (sym kept i)) (first (after-is q.spec.index all_hits at i)))

  pub next-fewer : (at h : Hit) → after q.spec.index (members_of stores q) at ≡ Some h → count_after q.spec.index all_hits (on h) < count_after q.spec.index all_hits (on at)
  next-fewer at h e = fewer-after q.spec.index all_hits (on at) h rise (ap first (after-is q.spec.index all_hits at) ∙ e)

  pub previous-fewer : (at h : Hit) → before q.spec.index (members_of stores q) at ≡ Some h → count_before q.spec.index all_hits (on h) < count_before q.spec.index all_hits (on at)
  previous-fewer at h e = fewer-before q.spec.index all_hits (on at) h rise (ap last (before-is q.spec.index all_hits at) ∙ e)
