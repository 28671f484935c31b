-- Each change of a store is the change of its ranges.
use Rattle.std.proofs.Common.{◌≡◌, ℕ, ◌==◌, Bool, true, false, not, cond, List, [], ◌∷◌, ◌++◌, filter, find, Option, Some, None, option_map, map, refl, sym, ◌∙◌, ap, subst, inl, inr}
use Rattle.std.proofs.lemmas.Bool.{eqb-true, eq-eqb}
use Rattle.newt_base.specs.Names.{equal_text}
use Rattle.newt_graph.specs.Graph.{RawGraph}
use Rattle.newt_spec_graph.specs.Lists.{Among}
use Rattle.newt_spec_graph.proofs.Lists.{some-same, both-ways}
use Rattle.newt_spec_store.specs.Keys.{IndexSpec, Path, paths_of, same_paths}
use Rattle.newt_spec_store.specs.Store.{Entry, Soup, Store, TagTable, with_tags, entry_of, change_first, change_soup, change_entry, make_soup, drop_soup, add_entry, remove_entry}
use Rattle.newt_spec_store.specs.Valid.{well_formed}
use Rattle.newt_spec_store.specs.Laid.{bare, bare_soup}
use Rattle.newt_laws_images.proofs.Chosen.{OnePasses, find-passes, soup-there, found_by_name, only-one, one-name, one-sig, same-text}
use Rattle.newt_index.specs.Pairs.{Sorted}
use Rattle.newt_index_ranges.specs.declared.rows.SoupRanges.{SoupRanges}
use Rattle.newt_index_ranges.specs.Masks.{Masks, IsMasks}
use Rattle.newt_index_ranges.specs.Rows.{no_pairs, no_ranges, entry_kept, entry_forgotten, entry_renewed, with_range, without_range, with_masks, change_ranges, drop_ranges}
use Rattle.newt_index_ranges.specs.Stands.{Graphs, graphs_of, IsRange, AreIndexes, IsRangesOf, AreRanges, AreRangesOf}
use Rattle.newt_index_ranges.proofs.Lookups.{found_added, found_filtered, found_changed}
use Rattle.newt_index_ranges.proofs.Standing.{ranges_filled, AreGraphsWith, range_none, masks_none, graphs_told, soup_added, soup_removed, soup_renewed, masks_set, range_more, range_fewer, of_sig, ranges_changed, ranges_more, ranges_fewer}

-- ---- the graphs of a soup's entries after a change

graph_of_chosen : (c : Bool) (one other : Option Entry) → option_map (λ e. e.graph) (cond c one other) ≡ cond c (option_map (λ e. e.graph) one) (option_map (λ e. e.graph) other)
graph_of_chosen true one other = refl
graph_of_chosen false one other = refl

pub graphs_added : (p : Soup) (now : ℕ) (g : RawGraph) → entry_of p.next_uid p ≡ None → AreGraphsWith p.next_uid (Some g) (graphs_of p) (graphs_of (add_entry now g p))
graphs_added p now g none w =
    let e : Entry = record { uid = p.next_uid; time = now; graph = g } in
    ap (option_map (λ (e : Entry). e.graph)) (found_added p.entries e w none) ∙ graph_of_chosen (p.next_uid == w) (Some e) (entry_of w p)

pub graphs_removed : (p : Soup) (u : ℕ) → AreGraphsWith u None (graphs_of p) (graphs_of (remove_entry u p))
graphs_removed p u w = ap (option_map (λ (e : Entry). e.graph)) (found_filtered p.entries u w) ∙ graph_of_chosen (u == w) None (entry_of w p)

pub graphs_changed : (p : Soup) (u : ℕ) (change : Entry → Entry) (g : RawGraph) (e : Entry) → ((d : Entry) → (change d).uid ≡ d.uid) → entry_of u p ≡ Some e → (change e).graph ≡ g
    → AreGraphsWith u (Some g) (graphs_of p) (graphs_of (change_entry u change p))
graphs_changed p u change g e keeps found same w =
    ap (option_map (λ (e : Entry). e.graph)) (found_changed p.entries change u w keeps)
    ∙ graph_of_chosen (u == w) (option_map change (entry_of u p)) (entry_of w p)
    ∙ ap (λ (o : Option Entry). cond (u == w) (option_map (λ (e : Entry). e.graph) (option_map change o)) (graphs_of p w)) found
    ∙ ap (λ (g : RawGraph). cond (u == w) (Some g) (graphs_of p w)) same

-- ---- the soup of a signature is that of its name

-- two tests find the same, so the same is changed
same_change : {X : Type 0} (t u : X → Bool) (f : X → X) (xs : List X) (x : X) → find t xs ≡ Some x → find u xs ≡ Some x → change_first t f xs ≡ change_first u f xs
same_change t u f [] x h k = refl
same_change t u f (y ∷ xs) x h k = go (t y) (u y) refl refl h k (same_change t u f xs x)
  where
    go : (b c : Bool) → t y ≡ b → u y ≡ c → cond b (Some y) (find t xs) ≡ Some x → cond c (Some y) (find u xs) ≡ Some x
        → (find t xs ≡ Some x → find u xs ≡ Some x → change_first t f xs ≡ change_first u f xs)
        → cond b (f y ∷ xs) (y ∷ change_first t f xs) ≡ cond c (f y ∷ xs) (y ∷ change_first u f xs)
    go true true d e h k more = refl
    go false false d e h k more = ap (λ zs. y ∷ zs) (more h k)
    go true false d e h k more = absurd (both-ways (sym e ∙ ap u (some-same y x h) ∙ (find-passes u xs x k).0))
    go false true d e h k more = absurd (both-ways (sym d ∙ ap t (some-same y x k) ∙ (find-passes t xs x h).0))

abbrev named : List ℕ → Soup → Bool
named name p = equal_text p.name name

-- the changes of the soup of a signature and of that of its name are one
by_name : (s : Store) (sig : ℕ) (p : Soup) (change : Soup → Soup) → well_formed s ≡ true → find (of_sig sig) s.soups ≡ Some p
    → change_first (of_sig sig) change s.soups ≡ change_first (named p.name) change s.soups
by_name s sig p change formed found = same_change (of_sig sig) (named p.name) change s.soups p found (found_by_name sig s p formed found)

-- a soup has the name where it has the signature
alike : (s : Store) (sig : ℕ) (p : Soup) → well_formed s ≡ true → find (of_sig sig) s.soups ≡ Some p → (q : Soup) → Among s.soups q → named p.name q ≡ of_sig sig q
alike s sig p formed found q m = go (named p.name q) (of_sig sig q) refl refl
  where
    at : (p.sig ≡ sig) × Among s.soups p
    at = soup-there sig s p found

    go : (b c : Bool) → named p.name q ≡ b → of_sig sig q ≡ c → b ≡ c
    go true true e f = refl
    go false false e f = refl
    go true false e f =
        let same : q ≡ p = only-one (named p.name) s.soups q p (one-name p.name s formed) m at.1 e (same-text p.name) in
        absurd (both-ways (sym f ∙ ap (of_sig sig) same ∙ (find-passes (of_sig sig) s.soups p found).0))
    go false true e f =
        let same : q ≡ p = only-one (of_sig sig) s.soups q p (one-sig sig s formed) m at.1 f (find-passes (of_sig sig) s.soups p found).0 in
        absurd (both-ways (sym e ∙ ap (named p.name) same ∙ same-text p.name))

-- ---- the laws

-- a soup is changed, and its ranges are those of the changed soup
pub soup_changed : (s : Store) (rows : List SoupRanges) (sig : ℕ) (p : Soup) (change : Soup → Soup) (changed : SoupRanges → SoupRanges) → well_formed s ≡ true
    → find (of_sig sig) s.soups ≡ Some p → ((r : SoupRanges) → IsRangesOf p (graphs_of p) r → IsRangesOf (change p) (graphs_of (change p)) (changed r))
    → AreRangesOf s rows → AreRangesOf (change_soup p.name change s) (change_ranges sig changed rows)
soup_changed s rows sig p change changed formed found h are =
    subst (λ (ps : List Soup). AreRanges graphs_of ps (change_ranges sig changed rows)) (by_name s sig p change formed found)
    (ranges_changed graphs_of sig change changed s.soups rows
    (λ q r at is. let same : p ≡ q = some-same p q (sym found ∙ at) in
    subst (λ (q : Soup). IsRangesOf q (graphs_of q) r → IsRangesOf (change q) (graphs_of (change q)) (changed r)) same (h r) is) are)

-- a new soup
pub made : (s : Store) (rows : List SoupRanges) (name : List ℕ) → AreRangesOf s rows → AreRangesOf (make_soup name s) (rows ++ no_ranges s.next_soup [] None ∷ [])
made s rows name are =
    let p : Soup = record { name = name; sig = s.next_soup; next_uid = 0; specs = []; tags = None; info = None; entries = [] } in
    ranges_more graphs_of s.soups rows p (no_ranges s.next_soup [] None) (record { of_sig = refl; all = range_none None (graphs_of p) (λ w. refl); indexes = tt; masks = tt }) are

-- a soup gone
pub dropped : (s : Store) (rows : List SoupRanges) (sig : ℕ) (p : Soup) → well_formed s ≡ true → find (of_sig sig) s.soups ≡ Some p → AreRangesOf s rows
    → AreRangesOf (drop_soup p.name s) (drop_ranges sig rows)
dropped s rows sig p formed found are = ranges_fewer graphs_of sig (named p.name) s.soups rows (alike s sig p formed found) are

module _ (s : Store) (rows : List SoupRanges) (sig : ℕ) (p : Soup) (formed : well_formed s ≡ true) (found : find (of_sig sig) s.soups ≡ Some p) (are : AreRangesOf s rows) where
  -- an entry more
  pub entry_added : (now : ℕ) (g : RawGraph) → entry_of p.next_uid p ≡ None → AreRangesOf (change_soup p.name (add_entry now g) s) (change_ranges sig (entry_kept p.next_uid g) rows)
  entry_added now g none =
      soup_changed s rows sig p (add_entry now g) (entry_kept p.next_uid g) formed found
      (λ r is. soup_added p (add_entry now g p) (graphs_of p) (graphs_of (add_entry now g p)) r p.next_uid g refl refl refl
      (ap (option_map (λ (e : Entry). e.graph)) none) (graphs_added p now g none) is) are

  -- an entry gone
  pub entry_removed : (u : ℕ) → AreRangesOf (change_soup p.name (remove_entry u) s) (change_ranges sig (entry_forgotten u) rows)
  entry_removed u =
      soup_changed s rows sig p (remove_entry u) (entry_forgotten u) formed found
      (λ r is. soup_removed p (remove_entry u p) (graphs_of p) (graphs_of (remove_entry u p)) r u refl refl refl (graphs_removed p u) is) are

  -- an entry with another graph
  pub entry_replaced : (u : ℕ) (change : Entry → Entry) (g : RawGraph) (e : Entry) → ((d : Entry) → (change d).uid ≡ d.uid) → entry_of u p ≡ Some e → (change e).graph ≡ g
      → AreRangesOf (change_soup p.name (change_entry u change) s) (change_ranges sig (entry_renewed u g) rows)
  entry_replaced u change g e keeps at same =
      soup_changed s rows sig p (change_entry u change) (entry_renewed u g) formed found
      (λ r is. soup_renewed p (change_entry u change p) (graphs_of p) (graphs_of (change_entry u change p)) r u g refl refl refl (graphs_changed p u change g e keeps at same) is) are

  -- a declaration more
  pub declared : (spec : IndexSpec) (v : Sorted) → IsRange (Some spec) (graphs_of p) v
      → AreRangesOf (change_soup p.name (λ q. record q { specs = q.specs ++ spec ∷ [] }) s) (change_ranges sig (with_range v) rows)
  declared spec v is =
      soup_changed s rows sig p (λ q. record q { specs = q.specs ++ spec ∷ [] }) (with_range v) formed found
      (λ r of. range_more p (record p { specs = p.specs ++ spec ∷ [] }) (graphs_of p) r spec v refl refl refl is of) are

  -- a declaration gone
  pub undeclared : (paths : List Path)
      → AreRangesOf (change_soup p.name (λ q. record q { specs = filter (λ d. not (same_paths (paths_of d) paths)) q.specs }) s) (change_ranges sig (without_range paths) rows)
  undeclared paths =
      soup_changed s rows sig p (λ q. record q { specs = filter (λ d. not (same_paths (paths_of d) paths)) q.specs }) (without_range paths) formed found
      (λ r of. range_fewer p (record p { specs = filter (λ d. not (same_paths (paths_of d) paths)) p.specs }) (graphs_of p) r paths refl refl refl of) are

  -- another tags declaration
  pub tagged : (t : TagTable) (m : Masks) → IsMasks t (graphs_of p) m → AreRangesOf (change_soup p.name (with_tags (Some t)) s) (change_ranges sig (with_masks m) rows)
  tagged t m is =
      soup_changed s rows sig p (with_tags (Some t)) (with_masks m) formed found
      (λ r of. masks_set p (with_tags (Some t) p) (graphs_of p) r t m refl refl refl is of) are

-- ---- a store that is opened: the soups are known, and entries are added in any order

abbrev NoGraphs : Soup → Graphs
NoGraphs p uid = None

indexes_none : (ds : List IndexSpec) → AreIndexes (λ uid. None) ds (map (λ d. no_pairs (Some d)) ds)
indexes_none [] = tt
indexes_none (d ∷ ds) = (range_none (Some d) (λ uid. None) (λ w. refl), indexes_none ds)

-- one soup more, whose entries are not known yet
pub soup_listed : (ps : List Soup) (rows : List SoupRanges) (p : Soup) → AreRanges NoGraphs ps rows → AreRanges NoGraphs (ps ++ p ∷ []) (rows ++ no_ranges p.sig p.specs p.tags ∷ [])
soup_listed ps rows p are =
    ranges_more NoGraphs ps rows p (no_ranges p.sig p.specs p.tags)
    (record { of_sig = refl; all = range_none None (λ uid. None) (λ w. refl); indexes = indexes_none p.specs; masks = masks_none (λ uid. None) p.tags (λ w. refl) }) are

-- one entry more
pub entry_listed : (old new : Soup → Graphs) (ps : List Soup) (rows : List SoupRanges) (sig u : ℕ) (g : RawGraph) → OnePasses (of_sig sig) ps
    → ((p : Soup) → Among ps p → p.sig ≡ sig → (old p u ≡ None) × AreGraphsWith u (Some g) (old p) (new p))
    → ((p : Soup) → Among ps p → (p.sig ≡ sig → ⊥) → (w : ℕ) → old p w ≡ new p w)
    → AreRanges old ps rows → AreRanges new ps (change_ranges sig (entry_kept u g) rows)
entry_listed old new ps rows sig u g one here others are =
    ranges_filled old new sig (entry_kept u g) ps rows one
    (λ p r m e is. let h = here p m (eqb-true p.sig sig e) in soup_added p p (old p) (new p) r u g refl refl refl h.0 h.1 is)
    (λ p r m e is. graphs_told p p (old p) (new p) r refl refl refl (others p m (λ same. both-ways (sym e ∙ eq-eqb p.sig sig same))) is)
    are

-- what the graphs of the directory's soups were told to be are those of the store
pub opened : (s : Store) (rows : List SoupRanges) (told : ℕ → Graphs) → ((p : Soup) → Among s.soups p → (w : ℕ) → told p.sig w ≡ graphs_of p w)
    → AreRanges (λ p. told p.sig) (bare s).soups rows → AreRangesOf s rows
opened s rows told same are = go s.soups rows same are
  where
    go : (ps : List Soup) (rows : List SoupRanges) → ((p : Soup) → Among ps p → (w : ℕ) → told p.sig w ≡ graphs_of p w)
        → AreRanges (λ p. told p.sig) (map bare_soup ps) rows → AreRanges graphs_of ps rows
    go [] [] h are = tt
    go (p ∷ ps) (r ∷ rows) h are = (
      graphs_told (bare_soup p) p (told p.sig) (graphs_of p) r refl refl refl (h p (inl refl)) are.0,
      go ps rows (λ q m. h q (inr m)) are.1,
    )
    go [] (r ∷ rows) h are = absurd are
    go (p ∷ ps) [] h are = absurd are
