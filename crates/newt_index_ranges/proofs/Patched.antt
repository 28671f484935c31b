-- Where an entry's graph has other bytes in its large binaries, and is else what it was, the ranges of its store are what they were.
use Rattle.std.proofs.Common.{◌≡◌, ℕ, ◌==◌, Bool, true, false, cond, List, [], ◌∷◌, find, Option, Some, option_map, option_and_then, refl, sym, ◌∙◌, ap}
use Rattle.newt_base.specs.Names.{equal_text}
use Rattle.newt_spec_store.specs.Keys.{IndexSpec}
use Rattle.newt_spec_store.specs.Store.{Entry, Soup, Store, TagTable, change_first, change_soup, change_entry}
use Rattle.newt_index.specs.Pairs.{parts_of}
use Rattle.newt_tags.specs.Masks.{mask_of}
use Rattle.newt_index_ranges.specs.Range.{key_by}
use Rattle.newt_index_ranges.specs.declared.rows.SoupRanges.{SoupRanges}
use Rattle.newt_index_ranges.specs.Stands.{graphs_of, IsRangesOf, AreRanges, AreRangesOf}
use Rattle.newt_index_ranges.proofs.Seen.{AreLike, like-key, like-mask}
use Rattle.newt_index_ranges.proofs.Standing.{same_keys, same_masks, none_changed}

-- a change of an entry that leaves its id, and of its graph all but the bytes of large binaries
pub record IsPatch (change : Entry → Entry) : Type 0 where
  pub same_id : (e : Entry) → (change e).uid ≡ e.uid
  pub like : (e : Entry) → AreLike e.graph (change e).graph

-- what is seen of the element that is found, where an element was changed unseen
found-seen : {X Y : Type 0} (see : Option X → Y) (test which : X → Bool) (change : X → X) (xs : List X) → ((x : X) → test (change x) ≡ test x) → ((x : X) → see (Some x) ≡ see (Some (change x)))
    → see (find test xs) ≡ see (find test (change_first which change xs))
found-seen see test which change [] keeps same = refl
found-seen see test which change (x ∷ xs) keeps same = go (which x) (test x) refl (found-seen see test which change xs keeps same)
  where
    go : (c b : Bool) → test x ≡ b → see (find test xs) ≡ see (find test (change_first which change xs))
        → see (cond b (Some x) (find test xs)) ≡ see (find test (cond c (change x ∷ xs) (x ∷ change_first which change xs)))
    go true true e more = same x ∙ ap (λ b. see (cond b (Some (change x)) (find test xs))) (sym (keeps x ∙ e))
    go true false e more = ap (λ b. see (cond b (Some (change x)) (find test xs))) (sym (keeps x ∙ e))
    go false true e more = ap (λ b. see (cond b (Some x) (find test (change_first which change xs)))) (sym e)
    go false false e more = more ∙ ap (λ b. see (cond b (Some x) (find test (change_first which change xs)))) (sym e)

module _ (change : Entry → Entry) (is : IsPatch change) where
  same-key : (spec : Option IndexSpec) (e : Entry) → key_by spec e.graph ≡ key_by spec (change e).graph
  same-key spec e = like-key e.graph (change e).graph (is.like e) (parts_of spec)

  -- ---- the ranges in memory

  same-keys : (spec : Option IndexSpec) (p : Soup) (u w : ℕ) → option_and_then (key_by spec) (graphs_of p w) ≡ option_and_then (key_by spec) (graphs_of (change_entry u change p) w)
  same-keys spec p u w =
      found-seen (λ o. option_and_then (key_by spec) (option_map (λ (e : Entry). e.graph) o)) (λ e. e.uid == w) (λ e. e.uid == u) change p.entries
      (λ e. ap (λ n. n == w) (is.same_id e)) (same-key spec)

  same-marks : (t : TagTable) (p : Soup) (u w : ℕ) → option_map (mask_of t) (graphs_of p w) ≡ option_map (mask_of t) (graphs_of (change_entry u change p) w)
  same-marks t p u w =
      found-seen (λ o. option_map (mask_of t) (option_map (λ (e : Entry). e.graph) o)) (λ e. e.uid == w) (λ e. e.uid == u) change p.entries
      (λ e. ap (λ n. n == w) (is.same_id e)) (λ e. ap Some (like-mask e.graph (change e).graph (is.like e) t))

  patched-soup : (p : Soup) (u : ℕ) (r : SoupRanges) → IsRangesOf p (graphs_of p) r → IsRangesOf (change_entry u change p) (graphs_of (change_entry u change p)) r
  patched-soup p u r is-of =
      none_changed p (change_entry u change p) (graphs_of p) (graphs_of (change_entry u change p)) r refl refl refl
      (λ spec v. same_keys spec (graphs_of p) (graphs_of (change_entry u change p)) v (same-keys spec p u))
      (λ t m. same_masks t (graphs_of p) (graphs_of (change_entry u change p)) m (same-marks t p u)) is-of

  patched-soups : (which : Soup → Bool) (u : ℕ) (ps : List Soup) (rows : List SoupRanges) → AreRanges graphs_of ps rows → AreRanges graphs_of (change_first which (change_entry u change) ps) rows
  patched-soups which u [] [] are = tt
  patched-soups which u (p ∷ ps) (r ∷ rows) are = go (which p) (patched-soups which u ps rows are.1)
    where
      go : (b : Bool) → AreRanges graphs_of (change_first which (change_entry u change) ps) rows
          → AreRanges graphs_of (cond b (change_entry u change p ∷ ps) (p ∷ change_first which (change_entry u change) ps)) (r ∷ rows)
      go true more = (patched-soup p u r are.0, are.1)
      go false more = (are.0, more)
  patched-soups which u [] (r ∷ rows) are = absurd are
  patched-soups which u (p ∷ ps) [] are = absurd are

  -- the ranges of a store are those of the store with an entry patched
  pub patched_ranges : (s : Store) (rows : List SoupRanges) (name : List ℕ) (u : ℕ) → AreRangesOf s rows → AreRangesOf (change_soup name (change_entry u change) s) rows
  patched_ranges s rows name u are = patched-soups (λ p. equal_text p.name name) u s.soups rows are
