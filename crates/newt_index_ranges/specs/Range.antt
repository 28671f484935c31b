-- The range of a soup by a declaration, which is the sorted list of exactly the soup's entries that
-- have a key; and the masks of its entries.
use Rattle.std.specs.Prelude.{ℕ, ◌==◌, Option, Some, None, option_map, option_and_then}
use Rattle.std.specs.List.{find}
use Rattle.newt_graph.specs.Graph.{RawGraph}
use Rattle.newt_spec_store.specs.Keys.{Key, IndexSpec, key, same_spec}
use Rattle.newt_spec_store.specs.Store.{Soup, Store, soup_of, entry_at}
use Rattle.newt_index.specs.Pairs.{Sorted, parts_of}
use Rattle.newt_index.specs.Range.{range_of}
use Rattle.newt_tags.specs.Masks.{mask_by}

-- the key of a graph by a declaration; without one the empty key (this project's own)
abbrev pub key_by : Option IndexSpec → RawGraph → Option Key
key_by spec g = key g (parts_of spec)

-- The range of a soup by its declaration that agrees with this one, if there is one; without a
-- declaration, that of all entries by id. (this project's own)
abbrev pub range_of_soup : Option IndexSpec → Soup → Option Sorted
range_of_soup None p = Some (range_of None p.entries)
range_of_soup (Some spec) p = option_map (λ d. range_of (Some d) p.entries) (find (same_spec spec) p.specs)

-- the range of the soup of this signature, if it is there and carries the declaration (this
-- project's own)
abbrev pub range_in : ℕ → Option IndexSpec → Store → Option Sorted
range_in sig spec s = option_and_then (range_of_soup spec) (find (λ p. p.sig == sig) s.soups)

-- the mask of an entry by the tags declaration of its soup, if the entry is there (this project's
-- own)
abbrev pub mask_at : ℕ → ℕ → Store → Option ℕ
mask_at sig uid s =
    option_map (λ e. mask_by (option_and_then (λ p. p.tags) (soup_of sig s)) e.graph) (entry_at sig uid s)
