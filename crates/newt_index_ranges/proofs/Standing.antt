-- Changes of ranges are the changes of what they stand for.
use Rattle.std.proofs.Common.{◌≡◌, ℕ, ◌==◌, Bool, true, false, not, cond, List, [], ◌∷◌, ◌++◌, map, filter, find, Option, Some, None, option_map, option_and_then, refl, sym, ◌∙◌, ap, subst, inl, inr}
use Rattle.newt_graph.specs.Graph.{RawGraph}
use Rattle.newt_spec_graph.specs.Lists.{Pairs, Among}
use Rattle.std.proofs.lemmas.Bool.{eq-eqb}
use Rattle.newt_spec_graph.proofs.Lists.{each-at, both-ways}
use Rattle.newt_spec_store.specs.Keys.{Key, IndexSpec, Path, paths_of, same_paths}
use Rattle.newt_spec_store.specs.Store.{Soup, TagTable, change_first}
use Rattle.newt_index.specs.Pairs.{key_at, Sorted, parts_of, with_pair}
use Rattle.newt_tags.specs.Masks.{mask_of}
use Rattle.newt_index_ranges.specs.Masks.{Masks, IsMasks, no_masks, with_mask, without_mask}
use Rattle.newt_index_ranges.specs.Range.{key_by}
use Rattle.newt_index_ranges.specs.declared.rows.SoupRanges.{SoupRanges}
use Rattle.newt_index_ranges.specs.Rows.{no_pairs, with_entry, without_entry, has_paths, change_kept, entry_kept, entry_forgotten, entry_renewed, with_range, without_range, with_masks, ranges_of, change_ranges, drop_ranges}
use Rattle.newt_index_ranges.specs.Stands.{Graphs, IsRange, AreIndexes, AreMasks, IsRangesOf, AreRanges}
use Rattle.newt_index_ranges.proofs.Kept.{mark-added, mark-removed}
use Rattle.newt_index_ranges.proofs.Lookups.{agree, key_added, key_filtered, once_added, once_filtered}

-- ---- graphs that change

-- each id has the graph that it had, but this one
abbrev pub AreGraphsWith : ℕ → Option RawGraph → Graphs → Graphs → Type 0
AreGraphsWith uid graph old new = (w : ℕ) → new w ≡ cond (uid == w) graph (old w)

-- the keys of an id's graph
abbrev keys_by : Option IndexSpec → Option RawGraph → Option Key
keys_by spec graph = option_and_then (key_by spec) graph

-- the key of what was chosen is chosen
chosen : (spec : Option IndexSpec) (c : Bool) (one other : Option RawGraph) → cond c (keys_by spec one) (keys_by spec other) ≡ keys_by spec (cond c one other)
chosen spec true one other = refl
chosen spec false one other = refl

-- the keys of the graphs after a change of one
then_keys : (spec : Option IndexSpec) (old new : Graphs) (u : ℕ) (graph : Option RawGraph) (w : ℕ) → AreGraphsWith u graph old new
    → cond (u == w) (keys_by spec graph) (keys_by spec (old w)) ≡ keys_by spec (new w)
then_keys spec old new u graph w h = chosen spec (u == w) graph (old w) ∙ ap (keys_by spec) (sym (h w))

-- ---- one range

-- a range stands for all graphs that have the same keys
pub same_keys : (spec : Option IndexSpec) (old new : Graphs) (v : Sorted) → ((w : ℕ) → keys_by spec (old w) ≡ keys_by spec (new w)) → IsRange spec old v → IsRange spec new v
same_keys spec old new v h is = record { declared = is.declared; once = is.once; keys = λ w. is.keys w ∙ h w }

pub same_graphs : (spec : Option IndexSpec) (old new : Graphs) (v : Sorted) → ((w : ℕ) → old w ≡ new w) → IsRange spec old v → IsRange spec new v
same_graphs spec old new v h is = same_keys spec old new v (λ w. ap (keys_by spec) (h w)) is

pub range_none : (spec : Option IndexSpec) (graphs : Graphs) → ((w : ℕ) → graphs w ≡ None) → IsRange spec graphs (no_pairs spec)
range_none spec graphs h = record { declared = refl; once = tt; keys = λ w. ap (keys_by spec) (sym (h w)) }

pub has_none : (spec : Option IndexSpec) (graphs : Graphs) (v : Sorted) (u : ℕ) → graphs u ≡ None → IsRange spec graphs v → key_at v.pairs u ≡ None
has_none spec graphs v u h is = is.keys u ∙ ap (keys_by spec) h

-- the entry of an id more
pub range_added : (spec : Option IndexSpec) (old new : Graphs) (v : Sorted) (u : ℕ) (g : RawGraph) → old u ≡ None → AreGraphsWith u (Some g) old new → IsRange spec old v
    → IsRange spec new (with_entry u g v)
range_added spec old new v u g none h is = go (key_by v.spec g) (ap (λ s. key_by s g) is.declared)
  where
    there : key_at v.pairs u ≡ None
    there = has_none spec old v u none is

    same : (c : Bool) (w : ℕ) → (u == w) ≡ c → keys_by spec (old w) ≡ cond c None (keys_by spec (old w))
    same true w e = ap (λ (w : ℕ). keys_by spec (old w)) (sym (agree u w e)) ∙ ap (keys_by spec) none
    same false w e = refl

    go : (o : Option Key) → o ≡ key_by spec g → IsRange spec new (elim o [ None ↦ v | Some k ↦ record v { pairs = with_pair (parts_of v.spec) v.pairs (k, u) } ])
    go None e = record {
      declared = is.declared;
      once = is.once;
      keys = λ w. is.keys w ∙ same (u == w) w refl ∙ ap (λ (o : Option Key). cond (u == w) o (keys_by spec (old w))) e ∙ then_keys spec old new u (Some g) w h;
    }
    go (Some k) e = record {
      declared = is.declared;
      once = once_added (parts_of v.spec) v.pairs k u there is.once;
      keys = λ w. key_added (parts_of v.spec) v.pairs k u w there ∙ ap (λ (o : Option Key). cond (u == w) (Some k) o) (is.keys w)
          ∙ ap (λ (o : Option Key). cond (u == w) o (keys_by spec (old w))) e ∙ then_keys spec old new u (Some g) w h;
    }

-- the entry of an id gone
pub range_removed : (spec : Option IndexSpec) (old new : Graphs) (v : Sorted) (u : ℕ) → AreGraphsWith u None old new → IsRange spec old v → IsRange spec new (without_entry u v)
range_removed spec old new v u h is = record {
  declared = is.declared;
  once = once_filtered v.pairs u is.once;
  keys = λ w. key_filtered v.pairs u w ∙ ap (λ (o : Option Key). cond (u == w) None o) (is.keys w) ∙ then_keys spec old new u None w h;
}

-- ---- masks

-- the mask of an id's graph
abbrev mask_if : TagTable → Option RawGraph → Option ℕ
mask_if t graph = option_map (mask_of t) graph

chosen_mask : (t : TagTable) (c : Bool) (one other : Option RawGraph) → cond c (mask_if t one) (mask_if t other) ≡ mask_if t (cond c one other)
chosen_mask t true one other = refl
chosen_mask t false one other = refl

-- masks stand for all graphs that have the same masks
pub same_masks : (t : TagTable) (old new : Graphs) (m : Masks) → ((w : ℕ) → mask_if t (old w) ≡ mask_if t (new w)) → IsMasks t old m → IsMasks t new m
same_masks t old new m h is = record { declared = is.declared; masks = λ w. is.masks w ∙ h w }

pub masks_of_same : (t : TagTable) (old new : Graphs) (m : Masks) → ((w : ℕ) → old w ≡ new w) → IsMasks t old m → IsMasks t new m
masks_of_same t old new m h is = same_masks t old new m (λ w. ap (mask_if t) (h w)) is

pub is_no_masks : (t : TagTable) (graphs : Graphs) → ((w : ℕ) → graphs w ≡ None) → IsMasks t graphs (no_masks t)
is_no_masks t graphs h = record { declared = refl; masks = λ w. ap (mask_if t) (sym (h w)) }

-- the mask of an id more, and gone
pub mask_added : (t : TagTable) (old new : Graphs) (m : Masks) (u : ℕ) (g : RawGraph) → AreGraphsWith u (Some g) old new → IsMasks t old m → IsMasks t new (with_mask u g m)
mask_added t old new m u g h is = record {
  declared = is.declared;
  masks = λ w. mark-added m.masks u (mask_of m.table g) w ∙ ap (λ (o : Option ℕ). cond (u == w) (Some (mask_of m.table g)) o) (is.masks w)
      ∙ ap (λ (x : TagTable). cond (u == w) (Some (mask_of x g)) (mask_if t (old w))) is.declared
      ∙ chosen_mask t (u == w) (Some g) (old w) ∙ ap (mask_if t) (sym (h w));
}

pub mask_removed : (t : TagTable) (old new : Graphs) (m : Masks) (u : ℕ) → AreGraphsWith u None old new → IsMasks t old m → IsMasks t new (without_mask u m)
mask_removed t old new m u h is = record {
  declared = is.declared;
  masks = λ w. mark-removed m.masks u w ∙ ap (λ (o : Option ℕ). cond (u == w) None o) (is.masks w) ∙ chosen_mask t (u == w) None (old w) ∙ ap (mask_if t) (sym (h w));
}

-- masks changed, and not changed, where there are some
masks_changed : (old new : Graphs) (mark : Masks → Masks) (tags : Option TagTable) (o : Option Masks) → ((t : TagTable) (m : Masks) → IsMasks t old m → IsMasks t new (mark m))
    → AreMasks old tags o → AreMasks new tags (option_map mark o)
masks_changed old new mark None None h are = tt
masks_changed old new mark (Some t) (Some m) h are = h t m are
masks_changed old new mark None (Some m) h are = absurd are
masks_changed old new mark (Some t) None h are = absurd are

masks_kept : (old new : Graphs) (tags : Option TagTable) (o : Option Masks) → ((t : TagTable) (m : Masks) → IsMasks t old m → IsMasks t new m) → AreMasks old tags o → AreMasks new tags o
masks_kept old new None None h are = tt
masks_kept old new (Some t) (Some m) h are = h t m are
masks_kept old new None (Some m) h are = absurd are
masks_kept old new (Some t) None h are = absurd are

pub masks_none : (graphs : Graphs) (tags : Option TagTable) → ((w : ℕ) → graphs w ≡ None) → AreMasks graphs tags (option_map no_masks tags)
masks_none graphs None h = tt
masks_none graphs (Some t) h = is_no_masks t graphs h

-- ---- the ranges of one soup

-- each index is changed
pub indexes_changed : (old new : Graphs) (change : Sorted → Sorted) (ds : List IndexSpec) (vs : List Sorted) → ((spec : Option IndexSpec) (v : Sorted) → IsRange spec old v → IsRange spec new (change v))
    → AreIndexes old ds vs → AreIndexes new ds (map change vs)
indexes_changed old new change [] [] h are = tt
indexes_changed old new change (d ∷ ds) (v ∷ vs) h are = (h (Some d) v are.0, indexes_changed old new change ds vs h are.1)
indexes_changed old new change [] (v ∷ vs) h are = absurd are
indexes_changed old new change (d ∷ ds) [] h are = absurd are

-- no index is changed
pub indexes_kept : (old new : Graphs) (ds : List IndexSpec) (vs : List Sorted) → ((spec : Option IndexSpec) (v : Sorted) → IsRange spec old v → IsRange spec new v)
    → AreIndexes old ds vs → AreIndexes new ds vs
indexes_kept old new [] [] h are = tt
indexes_kept old new (d ∷ ds) (v ∷ vs) h are = (h (Some d) v are.0, indexes_kept old new ds vs h are.1)
indexes_kept old new [] (v ∷ vs) h are = absurd are
indexes_kept old new (d ∷ ds) [] h are = absurd are

-- the ranges of a soup stand for another that has its signature and declarations
pub each_changed : (p q : Soup) (old new : Graphs) (change : Sorted → Sorted) (mark : Masks → Masks) (r : SoupRanges) → q.sig ≡ p.sig → q.specs ≡ p.specs → q.tags ≡ p.tags
    → ((spec : Option IndexSpec) (v : Sorted) → IsRange spec old v → IsRange spec new (change v)) → ((t : TagTable) (m : Masks) → IsMasks t old m → IsMasks t new (mark m))
    → IsRangesOf p old r → IsRangesOf q new (change_kept change mark r)
each_changed p q old new change mark r sig specs tags h k is = record {
  of_sig = is.of_sig ∙ sym sig;
  all = h None r.all is.all;
  indexes = subst (λ (ds : List IndexSpec). AreIndexes new ds (map change r.indexes)) (sym specs) (indexes_changed old new change p.specs r.indexes h is.indexes);
  masks = subst (λ (ts : Option TagTable). AreMasks new ts (option_map mark r.masks)) (sym tags) (masks_changed old new mark p.tags r.masks k is.masks);
}

pub none_changed : (p q : Soup) (old new : Graphs) (r : SoupRanges) → q.sig ≡ p.sig → q.specs ≡ p.specs → q.tags ≡ p.tags
    → ((spec : Option IndexSpec) (v : Sorted) → IsRange spec old v → IsRange spec new v) → ((t : TagTable) (m : Masks) → IsMasks t old m → IsMasks t new m)
    → IsRangesOf p old r → IsRangesOf q new r
none_changed p q old new r sig specs tags h k is = record {
  of_sig = is.of_sig ∙ sym sig;
  all = h None r.all is.all;
  indexes = subst (λ (ds : List IndexSpec). AreIndexes new ds r.indexes) (sym specs) (indexes_kept old new p.specs r.indexes h is.indexes);
  masks = subst (λ (ts : Option TagTable). AreMasks new ts r.masks) (sym tags) (masks_kept old new p.tags r.masks k is.masks);
}

-- the ranges of a soup stand for another that has the same graphs
pub graphs_told : (p q : Soup) (old new : Graphs) (r : SoupRanges) → q.sig ≡ p.sig → q.specs ≡ p.specs → q.tags ≡ p.tags → ((w : ℕ) → old w ≡ new w) → IsRangesOf p old r → IsRangesOf q new r
graphs_told p q old new r sig specs tags h is =
    none_changed p q old new r sig specs tags (λ spec v. same_graphs spec old new v h) (λ t m. masks_of_same t old new m h) is

-- what is kept of an entry more, of one gone, and of one with another graph
pub soup_added : (p q : Soup) (old new : Graphs) (r : SoupRanges) (u : ℕ) (g : RawGraph) → q.sig ≡ p.sig → q.specs ≡ p.specs → q.tags ≡ p.tags → old u ≡ None → AreGraphsWith u (Some g) old new
    → IsRangesOf p old r → IsRangesOf q new (entry_kept u g r)
soup_added p q old new r u g sig specs tags none h is =
    each_changed p q old new (with_entry u g) (with_mask u g) r sig specs tags (λ spec v. range_added spec old new v u g none h) (λ t m. mask_added t old new m u g h) is

pub soup_removed : (p q : Soup) (old new : Graphs) (r : SoupRanges) (u : ℕ) → q.sig ≡ p.sig → q.specs ≡ p.specs → q.tags ≡ p.tags → AreGraphsWith u None old new
    → IsRangesOf p old r → IsRangesOf q new (entry_forgotten u r)
soup_removed p q old new r u sig specs tags h is =
    each_changed p q old new (without_entry u) (without_mask u) r sig specs tags (λ spec v. range_removed spec old new v u h) (λ t m. mask_removed t old new m u h) is

pub soup_renewed : (p q : Soup) (old new : Graphs) (r : SoupRanges) (u : ℕ) (g : RawGraph) → q.sig ≡ p.sig → q.specs ≡ p.specs → q.tags ≡ p.tags → AreGraphsWith u (Some g) old new
    → IsRangesOf p old r → IsRangesOf q new (entry_renewed u g r)
soup_renewed p q old new r u g sig specs tags h is =
    let between : Graphs = λ w. cond (u == w) None (old w) in
    soup_added p q between new (entry_forgotten u r) u g sig specs tags (gone (u == u) refl) (λ w. h w ∙ again (u == w) w) (soup_removed p p old between r u refl refl refl (λ w. refl) is)
  where
    gone : (c : Bool) → (u == u) ≡ c → cond c None (old u) ≡ None
    gone true e = refl
    gone false e = absurd (both-ways (sym e ∙ eq-eqb u u refl))

    again : (c : Bool) (w : ℕ) → cond c (Some g) (old w) ≡ cond c (Some g) (cond c None (old w))
    again true w = refl
    again false w = refl

-- the masks of another declaration
pub masks_set : (p q : Soup) (graphs : Graphs) (r : SoupRanges) (t : TagTable) (m : Masks) → q.sig ≡ p.sig → q.specs ≡ p.specs → q.tags ≡ Some t → IsMasks t graphs m
    → IsRangesOf p graphs r → IsRangesOf q graphs (with_masks m r)
masks_set p q graphs r t m sig specs tags is of = record {
  of_sig = of.of_sig ∙ sym sig;
  all = of.all;
  indexes = subst (λ (ds : List IndexSpec). AreIndexes graphs ds r.indexes) (sym specs) of.indexes;
  masks = subst (λ (ts : Option TagTable). AreMasks graphs ts (Some m)) (sym tags) is;
}

-- a range more
indexes_more : (graphs : Graphs) (ds : List IndexSpec) (vs : List Sorted) (d : IndexSpec) (v : Sorted) → IsRange (Some d) graphs v → AreIndexes graphs ds vs
    → AreIndexes graphs (ds ++ d ∷ []) (vs ++ v ∷ [])
indexes_more graphs [] [] d v is are = (is, tt)
indexes_more graphs (e ∷ ds) (w ∷ vs) d v is are = (are.0, indexes_more graphs ds vs d v is are.1)
indexes_more graphs [] (w ∷ vs) d v is are = absurd are
indexes_more graphs (e ∷ ds) [] d v is are = absurd are

pub range_more : (p q : Soup) (graphs : Graphs) (r : SoupRanges) (d : IndexSpec) (v : Sorted) → q.sig ≡ p.sig → q.specs ≡ p.specs ++ d ∷ [] → q.tags ≡ p.tags → IsRange (Some d) graphs v
    → IsRangesOf p graphs r → IsRangesOf q graphs (with_range v r)
range_more p q graphs r d v sig specs tags is of = record {
  of_sig = of.of_sig ∙ sym sig;
  all = of.all;
  indexes = subst (λ (ds : List IndexSpec). AreIndexes graphs ds (r.indexes ++ v ∷ [])) (sym specs) (indexes_more graphs p.specs r.indexes d v is of.indexes);
  masks = subst (λ (ts : Option TagTable). AreMasks graphs ts r.masks) (sym tags) of.masks;
}

-- the ranges by some declarations gone
indexes_fewer : (graphs : Graphs) (paths : List Path) (ds : List IndexSpec) (vs : List Sorted) → AreIndexes graphs ds vs
    → AreIndexes graphs (filter (λ d. not (same_paths (paths_of d) paths)) ds) (filter (λ v. not (has_paths paths v)) vs)
indexes_fewer graphs paths [] [] are = tt
indexes_fewer graphs paths (d ∷ ds) (v ∷ vs) are =
    go (same_paths (paths_of d) paths) (has_paths paths v) (ap (λ (s : Option IndexSpec). same_paths (paths_of (parts_of s)) paths) (sym are.0.declared)) (indexes_fewer graphs paths ds vs are.1)
  where
    go : (b c : Bool) → b ≡ c → AreIndexes graphs (filter (λ d. not (same_paths (paths_of d) paths)) ds) (filter (λ v. not (has_paths paths v)) vs)
        → AreIndexes graphs (cond (not b) (d ∷ filter (λ d. not (same_paths (paths_of d) paths)) ds) (filter (λ d. not (same_paths (paths_of d) paths)) ds))
        (cond (not c) (v ∷ filter (λ v. not (has_paths paths v)) vs) (filter (λ v. not (has_paths paths v)) vs))
    go true true e rest = rest
    go false false e rest = (are.0, rest)
    go true false e rest = cc
    go false true e rest = cc
indexes_fewer graphs paths [] (v ∷ vs) are = absurd are
indexes_fewer graphs paths (d ∷ ds) [] are = absurd are

pub range_fewer : (p q : Soup) (graphs : Graphs) (r : SoupRanges) (paths : List Path) → q.sig ≡ p.sig → q.specs ≡ filter (λ d. not (same_paths (paths_of d) paths)) p.specs → q.tags ≡ p.tags
    → IsRangesOf p graphs r → IsRangesOf q graphs (without_range paths r)
range_fewer p q graphs r paths sig specs tags of = record {
  of_sig = of.of_sig ∙ sym sig;
  all = of.all;
  indexes = subst (λ (ds : List IndexSpec). AreIndexes graphs ds (filter (λ v. not (has_paths paths v)) r.indexes)) (sym specs) (indexes_fewer graphs paths p.specs r.indexes of.indexes);
  masks = subst (λ (ts : Option TagTable). AreMasks graphs ts r.masks) (sym tags) of.masks;
}

-- ---- the ranges of all soups

abbrev pub of_sig : ℕ → Soup → Bool
of_sig sig p = p.sig == sig

-- what is found for a signature on both sides
abbrev pub AreFound : (Soup → Graphs) → List Soup → Option Soup → Option SoupRanges → Type 0
AreFound graphs ps None None = Unit {0}
AreFound graphs ps (Some p) (Some r) = IsRangesOf p (graphs p) r × Among ps p
AreFound graphs ps _ _ = ⊥

found_later : (graphs : Soup → Graphs) (ps : List Soup) (q : Soup) (o : Option Soup) (s : Option SoupRanges) → AreFound graphs ps o s → AreFound graphs (q ∷ ps) o s
found_later graphs ps q None None h = tt
found_later graphs ps q (Some p) (Some r) h = (h.0, inr h.1)
found_later graphs ps q None (Some r) h = absurd h
found_later graphs ps q (Some p) None h = absurd h

pub found_both : (graphs : Soup → Graphs) (sig : ℕ) (ps : List Soup) (rs : List SoupRanges) → AreRanges graphs ps rs → AreFound graphs ps (find (of_sig sig) ps) (ranges_of sig rs)
found_both graphs sig [] [] are = tt
found_both graphs sig (p ∷ ps) (r ∷ rs) are =
    go (p.sig == sig) (r.sig == sig) (ap (λ n. n == sig) (sym are.0.of_sig)) (found_both graphs sig ps rs are.1)
  where
    go : (b c : Bool) → b ≡ c → AreFound graphs ps (find (of_sig sig) ps) (ranges_of sig rs)
        → AreFound graphs (p ∷ ps) (cond b (Some p) (find (of_sig sig) ps)) (cond c (Some r) (ranges_of sig rs))
    go true true e rest = (are.0, inl refl)
    go false false e rest = found_later graphs ps p (find (of_sig sig) ps) (ranges_of sig rs) rest
    go true false e rest = cc
    go false true e rest = cc
found_both graphs sig [] (r ∷ rs) are = absurd are
found_both graphs sig (p ∷ ps) [] are = absurd are

-- the soup of a signature changed, and its ranges
pub ranges_changed : (graphs : Soup → Graphs) (sig : ℕ) (change : Soup → Soup) (changed : SoupRanges → SoupRanges) (ps : List Soup) (rs : List SoupRanges)
    → ((p : Soup) (r : SoupRanges) → find (of_sig sig) ps ≡ Some p → IsRangesOf p (graphs p) r → IsRangesOf (change p) (graphs (change p)) (changed r))
    → AreRanges graphs ps rs → AreRanges graphs (change_first (of_sig sig) change ps) (change_ranges sig changed rs)
ranges_changed graphs sig change changed [] [] h are = tt
ranges_changed graphs sig change changed (p ∷ ps) (r ∷ rs) h are =
    go (p.sig == sig) (r.sig == sig) refl (ap (λ n. n == sig) (sym are.0.of_sig)) (λ k. ranges_changed graphs sig change changed ps rs k are.1) h
  where
    go : (b c : Bool) → (p.sig == sig) ≡ b → b ≡ c
        → (((q : Soup) (s : SoupRanges) → find (of_sig sig) ps ≡ Some q → IsRangesOf q (graphs q) s → IsRangesOf (change q) (graphs (change q)) (changed s))
        → AreRanges graphs (change_first (of_sig sig) change ps) (change_ranges sig changed rs))
        → ((q : Soup) (s : SoupRanges) → cond b (Some p) (find (of_sig sig) ps) ≡ Some q → IsRangesOf q (graphs q) s → IsRangesOf (change q) (graphs (change q)) (changed s))
        → AreRanges graphs (cond b (change p ∷ ps) (p ∷ change_first (of_sig sig) change ps)) (cond c (changed r ∷ rs) (r ∷ change_ranges sig changed rs))
    go true true e f more here = (here p r refl are.0, are.1)
    go false false e f more here = (are.0, more here)
    go true false e f more here = absurd (both-ways (sym f))
    go false true e f more here = absurd (both-ways f)
ranges_changed graphs sig change changed [] (r ∷ rs) h are = absurd are
ranges_changed graphs sig change changed (p ∷ ps) [] h are = absurd are

-- the graphs are told anew, and have the same keys
pub kept_all : (old new : Soup → Graphs) (ps : List Soup) (rs : List SoupRanges) → ((p : Soup) (r : SoupRanges) → Among ps p → IsRangesOf p (old p) r → IsRangesOf p (new p) r)
    → AreRanges old ps rs → AreRanges new ps rs
kept_all old new [] [] h are = tt
kept_all old new (p ∷ ps) (r ∷ rs) h are = (h p r (inl refl) are.0, kept_all old new ps rs (λ q s m. h q s (inr m)) are.1)
kept_all old new [] (r ∷ rs) h are = absurd are
kept_all old new (p ∷ ps) [] h are = absurd are

-- a soup more, and its ranges
pub ranges_more : (graphs : Soup → Graphs) (ps : List Soup) (rs : List SoupRanges) (p : Soup) (r : SoupRanges) → IsRangesOf p (graphs p) r → AreRanges graphs ps rs
    → AreRanges graphs (ps ++ p ∷ []) (rs ++ r ∷ [])
ranges_more graphs [] [] p r is are = (is, tt)
ranges_more graphs (q ∷ ps) (s ∷ rs) p r is are = (are.0, ranges_more graphs ps rs p r is are.1)
ranges_more graphs [] (s ∷ rs) p r is are = absurd are
ranges_more graphs (q ∷ ps) [] p r is are = absurd are

-- the soup of a signature gone, and its ranges
pub ranges_fewer : (graphs : Soup → Graphs) (sig : ℕ) (test : Soup → Bool) (ps : List Soup) (rs : List SoupRanges) → ((p : Soup) → Among ps p → test p ≡ (p.sig == sig))
    → AreRanges graphs ps rs → AreRanges graphs (filter (λ p. not (test p)) ps) (drop_ranges sig rs)
ranges_fewer graphs sig test [] [] h are = tt
ranges_fewer graphs sig test (p ∷ ps) (r ∷ rs) h are =
    go (test p) (r.sig == sig) (h p (inl refl) ∙ ap (λ n. n == sig) (sym are.0.of_sig)) (ranges_fewer graphs sig test ps rs (λ q m. h q (inr m)) are.1)
  where
    go : (b c : Bool) → b ≡ c → AreRanges graphs (filter (λ p. not (test p)) ps) (drop_ranges sig rs)
        → AreRanges graphs (cond (not b) (p ∷ filter (λ p. not (test p)) ps) (filter (λ p. not (test p)) ps)) (cond (not c) (r ∷ drop_ranges sig rs) (drop_ranges sig rs))
    go true true e rest = rest
    go false false e rest = (are.0, rest)
    go true false e rest = cc
    go false true e rest = cc
ranges_fewer graphs sig test [] (r ∷ rs) h are = absurd are
ranges_fewer graphs sig test (p ∷ ps) [] h are = absurd are

-- the ranges of a signature changed, where the soups stay and their graphs are told anew
pub ranges_filled : (old new : Soup → Graphs) (sig : ℕ) (changed : SoupRanges → SoupRanges) (ps : List Soup) (rs : List SoupRanges)
    → Pairs (λ p q. (p.sig == sig) ≡ true → (q.sig == sig) ≡ true → ⊥) ps
    → ((p : Soup) (r : SoupRanges) → Among ps p → (p.sig == sig) ≡ true → IsRangesOf p (old p) r → IsRangesOf p (new p) (changed r))
    → ((p : Soup) (r : SoupRanges) → Among ps p → (p.sig == sig) ≡ false → IsRangesOf p (old p) r → IsRangesOf p (new p) r)
    → AreRanges old ps rs → AreRanges new ps (change_ranges sig changed rs)
ranges_filled old new sig changed [] [] once h k are = tt
ranges_filled old new sig changed (p ∷ ps) (r ∷ rs) once h k are =
    go (p.sig == sig) (r.sig == sig) refl (ap (λ n. n == sig) (sym are.0.of_sig))
    (ranges_filled old new sig changed ps rs once.1 (λ q s m. h q s (inr m)) (λ q s m. k q s (inr m)) are.1)
    (λ e. kept_all old new ps rs (λ q s m. k q s (inr m) (not_it q.sig (q.sig == sig) refl (each-at (λ (q : Soup). (p.sig == sig) ≡ true → (q.sig == sig) ≡ true → ⊥) ps q once.0 m e))) are.1)
  where
    not_it : (n : ℕ) (b : Bool) → (n == sig) ≡ b → ((n == sig) ≡ true → ⊥) → (n == sig) ≡ false
    not_it n true e f = absurd (f e)
    not_it n false e f = e

    go : (b c : Bool) → (p.sig == sig) ≡ b → b ≡ c → AreRanges new ps (change_ranges sig changed rs) → ((p.sig == sig) ≡ true → AreRanges new ps rs)
        → AreRanges new (p ∷ ps) (cond c (changed r ∷ rs) (r ∷ change_ranges sig changed rs))
    go true true e f rest others = (h p r (inl refl) e are.0, others e)
    go false false e f rest others = (k p r (inl refl) e are.0, rest)
    go true false e f rest others = absurd (both-ways (sym f))
    go false true e f rest others = absurd (both-ways f)
ranges_filled old new sig changed [] (r ∷ rs) once h k are = absurd are
ranges_filled old new sig changed (p ∷ ps) [] once h k are = absurd are
