-- Whether an entry of the store of one unit passes.
use Rattle.std.proofs.Common.{◌≡◌, refl, ap, sym, ◌∙◌, ℕ, List, Bool, true, false, ◌&&◌, find, Option, Some, None, option_map, option_and_then, ◌==◌}
use Rattle.std.specs.Prelude.{IsSome, is_some}
use Rattle.newt_spec_graph.proofs.Lists.{some-same, none-some, both-ways}
use Rattle.newt_graph.specs.Graph.{RawGraph}
use Rattle.newt_spec_store.specs.Store.{Store, Soup, Entry, TagTable, entry_of, soup_of, entry_at}
use Rattle.newt_spec_query.specs.Hits.{Query, Hit, passes}
use Rattle.newt_tags.specs.Masks.{mask_by}
use Rattle.newt_engine_card.specs.Cards.{mask_at}
use Rattle.newt_query.specs.Filter.{in_range}
use Rattle.newt_laws_hits.specs.Stripped.{entry_passes, passing}
use Rattle.newt_engine_hits.specs.Searched.{located_in, keeps_in}

abbrev table_in : ℕ → Store → Option TagTable
table_in soup s = option_and_then (λ p. p.tags) (soup_of soup s)

and-false : (b : Bool) → (b && false) ≡ false
and-false true = refl
and-false false = refl

-- no mounted store has the signature
pub no-store-passes : (stores : List Store) (q : Query) (h : Hit) → find (λ s. s.sig == h.store) stores ≡ None → false ≡ passing stores q h
no-store-passes stores q h e =
    sym (ap (λ (o : Option Store). in_range q.spec h.key && entry_passes q (option_and_then (λ s. located_in s h.soup h.uid) o)) e ∙ and-false (in_range q.spec h.key))

-- the store of the signature decides
pub store-passes : (stores : List Store) (q : Query) (h : Hit) (s : Store) → find (λ s. s.sig == h.store) stores ≡ Some s → keeps_in q s h ≡ passing stores q h
store-passes stores q h s e = sym (ap (λ (o : Option Store). in_range q.spec h.key && entry_passes q (option_and_then (λ s. located_in s h.soup h.uid) o)) e)

module _ (q : Query) (s : Store) (h : Hit) where
  -- the entry is not there
  pub gone-not-kept : None ≡ entry_at h.soup h.uid s → false ≡ keeps_in q s h
  gone-not-kept e = sym (ap (λ b. in_range q.spec h.key && b) (go (soup_of h.soup s) (sym e)) ∙ and-false (in_range q.spec h.key))
    where
      entry : (p : Soup) (x : Option Entry) → x ≡ None → entry_passes q (option_map (λ e. record { store = s; soup = p; entry = e }) x) ≡ false
      entry p None e = refl
      entry p (Some x) e = absurd (none-some x (sym e))

      go : (o : Option Soup) → option_and_then (entry_of h.uid) o ≡ None
          → entry_passes q (option_and_then (λ p. option_map (λ e. record { store = s; soup = p; entry = e }) (entry_of h.uid p)) o) ≡ false
      go None e = refl
      go (Some p) e = entry p (entry_of h.uid p) e

  -- the entry is there
  pub there-kept : (x : Entry) (b : Bool) → Some x ≡ entry_at h.soup h.uid s → b ≡ (in_range q.spec h.key && passes q.spec (table_in h.soup s) x.graph) → b ≡ keeps_in q s h
  there-kept x b e is = is ∙ ap (λ b. in_range q.spec h.key && b) (go (soup_of h.soup s) (sym e))
    where
      entry : (p : Soup) (y : Option Entry) → y ≡ Some x → passes q.spec p.tags x.graph ≡ entry_passes q (option_map (λ e. record { store = s; soup = p; entry = e }) y)
      entry p None e = absurd (none-some x e)
      entry p (Some y) e = ap (λ (z : Entry). passes q.spec p.tags z.graph) (sym (some-same y x e))

      go : (o : Option Soup) → option_and_then (entry_of h.uid) o ≡ Some x → passes q.spec (option_and_then (λ p. p.tags) o) x.graph
          ≡ entry_passes q (option_and_then (λ p. option_map (λ e. record { store = s; soup = p; entry = e }) (entry_of h.uid p)) o)
      go None e = absurd (none-some x e)
      go (Some p) e = entry p (entry_of h.uid p) e

  -- the soup has no tags
  pub untagged-kept : (b : Bool) → None ≡ table_in h.soup s → IsSome (entry_at h.soup h.uid s) → ((g : RawGraph) → b ≡ (in_range q.spec h.key && passes q.spec None g)) → b ≡ keeps_in q s h
  untagged-kept b bare there is = go (entry_at h.soup h.uid s) refl there
    where
      go : (o : Option Entry) → entry_at h.soup h.uid s ≡ o → is_some o ≡ true → b ≡ keeps_in q s h
      go None e k = absurd (both-ways k)
      go (Some x) e k = there-kept x b (sym e) (is x.graph ∙ ap (λ (t : Option TagTable). in_range q.spec h.key && passes q.spec t x.graph) bare)

  -- the mask of the entry
  pub masked-kept : (mask : ℕ) (table : Option TagTable) (b : Bool) → table ≡ table_in h.soup s → Some mask ≡ mask_at h.soup h.uid s
      → ((g : RawGraph) → mask ≡ mask_by table g → b ≡ (in_range q.spec h.key && passes q.spec table g)) → b ≡ keeps_in q s h
  masked-kept mask table b same has is = go (entry_at h.soup h.uid s) refl has
    where
      go : (o : Option Entry) → entry_at h.soup h.uid s ≡ o → Some mask ≡ option_map (λ e. mask_by (table_in h.soup s) e.graph) o → b ≡ keeps_in q s h
      go None e k = absurd (none-some mask (sym k))
      go (Some x) e k =
          there-kept x b (sym e) (is x.graph (some-same mask (mask_by (table_in h.soup s) x.graph) k ∙ ap (λ (t : Option TagTable). mask_by t x.graph) (sym same))
          ∙ ap (λ (t : Option TagTable). in_range q.spec h.key && passes q.spec t x.graph) same)

  -- there is none
  pub no-mask : None ≡ mask_at h.soup h.uid s → false ≡ keeps_in q s h
  no-mask k = go (entry_at h.soup h.uid s) refl k
    where
      go : (o : Option Entry) → entry_at h.soup h.uid s ≡ o → None ≡ option_map (λ e. mask_by (table_in h.soup s) e.graph) o → false ≡ keeps_in q s h
      go None e k = gone-not-kept (sym e)
      go (Some x) e k = absurd (none-some (mask_by (table_in h.soup s) x.graph) k)
