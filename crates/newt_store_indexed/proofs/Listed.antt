-- The ranges of a store whose entries were told are the store's.
use Rattle.std.proofs.Common.{◌≡◌, ℕ, ◌==◌, Bool, true, false, cond, List, [], ◌∷◌, map, Option, Some, None, option_map, option_and_then, refl, sym, ◌∙◌, ap, inl, inr}
use Rattle.std.proofs.lemmas.Bool.{eqb-true, eq-eqb}
use Rattle.newt_graph.specs.Graph.{RawGraph}
use Rattle.newt_graph.specs.declared.node.Node.{Node}
use Rattle.newt_graph.specs.declared.node.Node.TheVariants.{Symbol, Str, Binary, Large, Array, Frame}
use Rattle.newt_spec_nsof.specs.Lengths.{bare as bare_node, skeleton}
use Rattle.newt_spec_graph.specs.Lists.{Among}
use Rattle.newt_spec_graph.proofs.Lists.{both-ways}
use Rattle.newt_spec_store.specs.Keys.{IndexSpec}
use Rattle.newt_spec_store.specs.Laid.{bare, bare_soup as emptied}
use Rattle.newt_spec_store.specs.Store.{Entry, Soup, Store, TagTable, entry_of, entry_at}
use Rattle.newt_spec_store.specs.Valid.{well_formed}
use Rattle.newt_laws_images.proofs.Both.{Both}
use Rattle.newt_laws_images.proofs.Skeletons.{Like}
use Rattle.newt_laws_images.proofs.Known.{bare-good}
use Rattle.newt_laws_images.proofs.Stores.{is-store}
use Rattle.newt_laws_images.proofs.Chosen.{one-sig-of, there-soup}
use Rattle.newt_soupdir.specs.Bare.{bare_store, bare_soup}
use Rattle.newt_soupdir.specs.declared.rows.Directory.{Directory}
use Rattle.newt_soupdir.specs.declared.rows.SoupRow.{SoupRow}
use Rattle.newt_tags.specs.Masks.{mask_of}
use Rattle.newt_index.specs.Pairs.{parts_of}
use Rattle.newt_index_ranges.specs.Range.{key_by}
use Rattle.newt_index_ranges.specs.declared.rows.SoupRanges.{SoupRanges}
use Rattle.newt_index_ranges.specs.Rows.{no_ranges, entry_kept, change_ranges}
use Rattle.newt_index_ranges.specs.Stands.{graphs_of, IsRangesOf, AreRanges, AreRangesOf}
use Rattle.newt_index_ranges.proofs.Laws.{soup_listed, entry_listed}
use Rattle.newt_index_ranges.proofs.Seen.{AreLike, like-key, like-mask}
use Rattle.newt_index_ranges.proofs.Standing.{same_keys, same_masks, none_changed}
use Rattle.newt_store_catalog.specs.Gathering.{Graphs, nothing, IsOneMore}
use Rattle.newt_store.specs.Calls.{AreGathered}
use Rattle.newt_store_indexed.specs.Listing.{Lists}

-- ---- one entry after the other

-- ranges without entries
none-listed : (rows : List SoupRow) → AreRanges (λ p. nothing p.sig) (map bare_soup rows) (map (λ row. no_ranges row.sig row.specs row.tags) rows)
none-listed rows = go rows
  where
    front : (a : Soup) (ps : List Soup) (r : SoupRanges) (rs : List SoupRanges) → IsRangesOf a (nothing a.sig) r → AreRanges (λ p. nothing p.sig) ps rs → AreRanges (λ p. nothing p.sig) (a ∷ ps) (r ∷ rs)
    front a ps r rs is are = (is, are)

    go : (rows : List SoupRow) → AreRanges (λ p. nothing p.sig) (map bare_soup rows) (map (λ row. no_ranges row.sig row.specs row.tags) rows)
    go [] = tt
    go (row ∷ rows) = front (bare_soup row) (map bare_soup rows) (no_ranges row.sig row.specs row.tags) (map (λ row. no_ranges row.sig row.specs row.tags) rows)
        (soup_listed [] [] (bare_soup row) tt).0 (go rows)

pub listed-none : (d : Directory) (rows : List SoupRanges) → rows ≡ map (λ (row : SoupRow). no_ranges row.sig row.specs row.tags) d.soups → Lists (bare_store d) nothing rows
listed-none d rows is formed = rw is (none-listed d.soups)

-- one entry more
pub listed-more : (d : Store) (told more : Graphs) (old new : List SoupRanges) (sig u : ℕ) (g : RawGraph) → new ≡ change_ranges sig (entry_kept u g) old
    → Lists d told old → IsOneMore sig u g told more → Lists d more new
listed-more d told more old new sig u g is are one formed =
    rw is (entry_listed (λ p. told p.sig) (λ p. more p.sig) d.soups old sig u g (one-sig-of sig d.next_soup d.soups (is-store d formed).sigs)
    (λ p m same. (ap (λ (t : ℕ). told t u) same ∙ one.none, λ w. here p.sig w same))
    (λ p m differ w. sym (one.others p.sig w (λ same k. differ same))) (are formed))
  where
    here : (t w : ℕ) → t ≡ sig → more t w ≡ cond (u == w) (Some g) (told t w)
    here t w same = go (u == w) refl
      where
        go : (b : Bool) → (u == w) ≡ b → more t w ≡ cond b (Some g) (told t w)
        go true e = ap (λ (v : ℕ). more t v) (sym (eqb-true u w e)) ∙ ap (λ (s : ℕ). more s u) same ∙ one.one
        go false e = one.others t w (λ s k. both-ways (sym e ∙ eq-eqb u w (sym k)))

-- ---- all entries of a store

-- a graph is seen as it is without the bytes of its large binaries
bare-like : (g : RawGraph) → AreLike (skeleton g) g
bare-like g = record { root = refl; nodes = go g.nodes }
  where
    like : (n : Node) → Like (bare_node n) n
    like (Symbol s) = refl
    like (Str s) = refl
    like (Binary c b) = refl
    like (Large c b) = (b, refl)
    like (Array c v) = refl
    like (Frame t v) = refl

    go : (ns : List Node) → Both Like (map bare_node ns) ns
    go [] = tt
    go (n ∷ ns) = (like n, go ns)

-- what is seen of entries is seen of their graphs without these bytes
module _ {Y : Type 0} (see : RawGraph → Option Y) (alike : (g h : RawGraph) → AreLike g h → see g ≡ see h) where
  same-seen : (o : Option Entry) → option_and_then see (option_map (λ e. skeleton e.graph) o) ≡ option_and_then see (option_map (λ e. e.graph) o)
  same-seen None = refl
  same-seen (Some e) = alike (skeleton e.graph) e.graph (bare-like e.graph)

  told-seen : (s : Store) (told : Graphs) → well_formed s ≡ true → ((sig uid : ℕ) → told sig uid ≡ option_map (λ e. skeleton e.graph) (entry_at sig uid s))
      → (p : Soup) → Among s.soups p → (w : ℕ) → option_and_then see (told p.sig w) ≡ option_and_then see (graphs_of p w)
  told-seen s told formed are p m w =
      ap (option_and_then see) (are p.sig w ∙ ap (λ (o : Option Soup). option_map (λ e. skeleton e.graph) (option_and_then (entry_of w) o)) (there-soup s p formed m)) ∙ same-seen (entry_of w p)

-- a mask of a graph, if there is one
masked : (t : TagTable) (o : Option RawGraph) → option_and_then (λ g. Some (mask_of t g)) o ≡ option_map (mask_of t) o
masked t None = refl
masked t (Some g) = refl

pub all-listed : {L : Type 0} (rows_of : L → List SoupRanges) (s : Store) (listing : L) → well_formed s ≡ true → AreGathered (λ d told l. Lists d told (rows_of l)) s listing → AreRangesOf s (rows_of listing)
all-listed rows_of s listing formed h = go s.soups (rows_of listing) (λ p m. m) (h.gathered (bare-good s formed))
  where
    keys : (p : Soup) → Among s.soups p → (spec : Option IndexSpec) (w : ℕ) → option_and_then (key_by spec) (h.told p.sig w) ≡ option_and_then (key_by spec) (graphs_of p w)
    keys p m spec w = told-seen (key_by spec) (λ g k like. like-key g k like (parts_of spec)) s h.told formed h.are p m w

    masks : (p : Soup) → Among s.soups p → (t : TagTable) (w : ℕ) → option_map (mask_of t) (h.told p.sig w) ≡ option_map (mask_of t) (graphs_of p w)
    masks p m t w =
        sym (masked t (h.told p.sig w)) ∙ told-seen (λ g. Some (mask_of t g)) (λ g k like. ap Some (like-mask g k like t)) s h.told formed h.are p m w ∙ masked t (graphs_of p w)

    go : (ps : List Soup) (rows : List SoupRanges) → ((p : Soup) → Among ps p → Among s.soups p) → AreRanges (λ p. h.told p.sig) (map emptied ps) rows → AreRanges graphs_of ps rows
    go [] [] within are = tt
    go (p ∷ ps) (r ∷ rows) within are = (
      none_changed (emptied p) p (h.told p.sig) (graphs_of p) r refl refl refl
          (λ spec v. same_keys spec (h.told p.sig) (graphs_of p) v (keys p (within p (inl refl)) spec))
          (λ t m. same_masks t (h.told p.sig) (graphs_of p) m (masks p (within p (inl refl)) t)) are.0,
      go ps rows (λ q m. within q (inr m)) are.1,
    )
    go [] (r ∷ rows) within are = absurd are
    go (p ∷ ps) [] within are = absurd are
