-- The range of a soup for a declaration: its entries that have a key, in order.
use Rattle.std.specs.Prelude.{List, filter_map, Option, option_map}
use Rattle.newt_spec_store.specs.Keys.{IndexSpec, key}
use Rattle.newt_spec_store.specs.Store.{Entry}
use Rattle.newt_spec_store.specs.Sorted.{sorted_by}
use Rattle.newt_index.specs.Pairs.{Pair, Sorted, parts_of, pair_cmp}

-- the pair of an entry: its key and its id, where it has a key (this project's own)
abbrev pub entry_pair : IndexSpec → Entry → Option Pair
entry_pair spec e = option_map (λ k. (k, e.uid)) (key e.graph spec)

-- the pairs of exactly those entries that have a key (this project's own)
abbrev pub entry_pairs : IndexSpec → List Entry → List Pair
entry_pairs spec entries = filter_map (entry_pair spec) entries

-- the index of some entries for a declaration: those pairs, in order (this project's own)
abbrev pub range_of : Option IndexSpec → List Entry → Sorted
range_of spec entries = record { spec = spec; pairs = sorted_by (pair_cmp (parts_of spec)) (entry_pairs (parts_of spec) entries) }
