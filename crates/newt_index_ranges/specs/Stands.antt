-- What ranges stand for. An entry's graph is looked up by its id, so it does not matter in what
-- order entries are added.
use Rattle.std.specs.Prelude.{◌≡◌, ℕ, List, [], ◌∷◌, Option, Some, None, option_map, option_and_then}
use Rattle.newt_graph.specs.Graph.{RawGraph}
use Rattle.newt_spec_graph.specs.Lists.{Pairs}
use Rattle.newt_spec_store.specs.Keys.{IndexSpec}
use Rattle.newt_spec_store.specs.Store.{Soup, Store, TagTable, entry_of}
use Rattle.newt_index.specs.Pairs.{Sorted, key_at}
use Rattle.newt_index_ranges.specs.Masks.{Masks, IsMasks}
use Rattle.newt_index_ranges.specs.Range.{key_by}
use Rattle.newt_index_ranges.specs.declared.rows.SoupRanges.{SoupRanges}

-- the graphs of a soup's entries, by their ids (a word of these definitions)
abbrev pub Graphs : Type 0
Graphs = ℕ → Option RawGraph

-- the graphs of the entries of a soup (a word of these definitions)
abbrev pub graphs_of : Soup → Graphs
graphs_of p uid = option_map (λ e. e.graph) (entry_of uid p)

-- The range is by this declaration, and has each id at most once. It has the key of an id's graph
-- under that id, if there are a graph and a key. (this project's own)
pub record IsRange (spec : Option IndexSpec) (graphs : Graphs) (v : Sorted) : Type 0 where
  pub declared : v.spec ≡ spec
  pub once : Pairs (λ p q. p.1 ≡ q.1 → ⊥) v.pairs
  pub keys : (uid : ℕ) → key_at v.pairs uid ≡ option_and_then (key_by spec) (graphs uid)

-- there is such a range for each declaration, in order (a word of these definitions)
abbrev pub AreIndexes : Graphs → List IndexSpec → List Sorted → Type 0
AreIndexes graphs [] [] = Unit {0}
AreIndexes graphs (d ∷ ds) (v ∷ vs) = IsRange (Some d) graphs v × AreIndexes graphs ds vs
AreIndexes graphs _ _ = ⊥

-- there are masks where there is a tags declaration (a word of these definitions)
abbrev pub AreMasks : Graphs → Option TagTable → Option Masks → Type 0
AreMasks graphs None None = Unit {0}
AreMasks graphs (Some table) (Some m) = IsMasks table graphs m
AreMasks graphs _ _ = ⊥

-- The ranges are of a soup with these graphs: that of all entries, and one for each of its
-- declarations, with the masks by its tags declaration. (this project's own)
pub record IsRangesOf (p : Soup) (graphs : Graphs) (r : SoupRanges) : Type 0 where
  pub of_sig : r.sig ≡ p.sig
  pub all : IsRange None graphs r.all
  pub indexes : AreIndexes graphs p.specs r.indexes
  pub masks : AreMasks graphs p.tags r.masks

-- the ranges are of these soups, in order, whose graphs are given (a word of these definitions)
abbrev pub AreRanges : (Soup → Graphs) → List Soup → List SoupRanges → Type 0
AreRanges graphs [] [] = Unit {0}
AreRanges graphs (p ∷ ps) (r ∷ rs) = IsRangesOf p (graphs p) r × AreRanges graphs ps rs
AreRanges graphs _ _ = ⊥

-- the ranges are those of a store (this project's own)
abbrev pub AreRangesOf : Store → List SoupRanges → Type 0
AreRangesOf s rows = AreRanges graphs_of s.soups rows
