-- The ranges of a store's soups, and the changes of them.
use Rattle.std.specs.Prelude.{ℕ, ◌==◌, Bool, false, not, List, [], ◌∷◌, ◌++◌, map, filter, Option, Some, None, option_map, option_and_then}
use Rattle.std.specs.List.{find}
use Rattle.newt_graph.specs.Graph.{RawGraph}
use Rattle.newt_spec_store.specs.Keys.{Path, IndexSpec, paths_of, same_paths, same_spec}
use Rattle.newt_spec_store.specs.Store.{TagTable, change_first}
use Rattle.newt_index.specs.Pairs.{Sorted, key_at, parts_of, with_pair}
use Rattle.newt_index_ranges.specs.Masks.{Masks, kept_mask, no_masks, with_mask, without_mask}
use Rattle.newt_index_ranges.specs.Range.{key_by}
use Rattle.newt_index_ranges.specs.declared.rows.SoupRanges.{SoupRanges}

-- ---- one range

-- a range without entries (a word of these definitions)
abbrev pub no_pairs : Option IndexSpec → Sorted
no_pairs spec = record { spec = spec; pairs = [] }

-- the entry of this id and graph is in the range, where it has a key (this project's own)
abbrev pub with_entry : ℕ → RawGraph → Sorted → Sorted
with_entry uid g v = elim (key_by v.spec g) [
  | None ↦ v
  | Some k ↦ record v { pairs = with_pair (parts_of v.spec) v.pairs (k, uid) }
]

-- no entry of this id is in the range (this project's own)
abbrev pub without_entry : ℕ → Sorted → Sorted
without_entry uid v = record v { pairs = filter (λ q. not (q.1 == uid)) v.pairs }

-- the range is by a declaration that agrees with this one (this project's own)
abbrev pub carries : IndexSpec → Sorted → Bool
carries spec v = elim v.spec [ None ↦ false | Some d ↦ same_spec spec d ]

-- the range is by a declaration of these paths (this project's own)
abbrev pub has_paths : List Path → Sorted → Bool
has_paths paths v = same_paths (paths_of (parts_of v.spec)) paths

-- ---- the ranges of one soup

-- the ranges of a soup of these declarations that has no entries (this project's own)
abbrev pub no_ranges : ℕ → List IndexSpec → Option TagTable → SoupRanges
no_ranges sig specs tags =
    record { sig = sig; all = no_pairs None; indexes = map (λ d. no_pairs (Some d)) specs; masks = option_map no_masks tags }

-- each range changed, and the masks (a word of these definitions)
abbrev pub change_kept : (Sorted → Sorted) → (Masks → Masks) → SoupRanges → SoupRanges
change_kept change mark r = record r { all = change r.all; indexes = map change r.indexes; masks = option_map mark r.masks }

-- the entry of this id and graph is in each range where it has a key, and its mask is kept (this
-- project's own)
abbrev pub entry_kept : ℕ → RawGraph → SoupRanges → SoupRanges
entry_kept uid g r = change_kept (with_entry uid g) (with_mask uid g) r

-- nothing is kept of the entry of this id (this project's own)
abbrev pub entry_forgotten : ℕ → SoupRanges → SoupRanges
entry_forgotten uid r = change_kept (without_entry uid) (without_mask uid) r

-- the entry of this id has this graph in place of its own (this project's own)
abbrev pub entry_renewed : ℕ → RawGraph → SoupRanges → SoupRanges
entry_renewed uid g r = entry_kept uid g (entry_forgotten uid r)

-- with one range more, at the end (this project's own)
abbrev pub with_range : Sorted → SoupRanges → SoupRanges
with_range v r = record r { indexes = r.indexes ++ v ∷ [] }

-- the range by the declaration of these paths is gone (this project's own)
abbrev pub without_range : List Path → SoupRanges → SoupRanges
without_range paths r = record r { indexes = filter (λ v. not (has_paths paths v)) r.indexes }

-- these masks in place of those that were kept (this project's own)
abbrev pub with_masks : Masks → SoupRanges → SoupRanges
with_masks m r = record r { masks = Some m }

-- the range by a declaration that agrees with this one; without a declaration, that of all entries
-- (this project's own)
abbrev pub find_range : Option IndexSpec → SoupRanges → Option Sorted
find_range None r = Some r.all
find_range (Some spec) r = find (carries spec) r.indexes

-- the mask of an id: the one that is kept, or 0 where none are kept and the id is among those of
-- all entries (this project's own)
abbrev pub mask_by_id : Option Masks → Sorted → ℕ → Option ℕ
mask_by_id None all uid = option_map (λ k. 0) (key_at all.pairs uid)
mask_by_id (Some m) all uid = kept_mask uid m

-- the mask of an entry of the soup (this project's own)
abbrev pub find_mask : ℕ → SoupRanges → Option ℕ
find_mask uid r = mask_by_id r.masks r.all uid

-- ---- the ranges of all soups

-- the ranges of the soup of this signature (a word of these definitions)
abbrev pub ranges_of : ℕ → List SoupRanges → Option SoupRanges
ranges_of sig rows = find (λ r. r.sig == sig) rows

-- the ranges of the soup of this signature, changed (a word of these definitions)
abbrev pub change_ranges : ℕ → (SoupRanges → SoupRanges) → List SoupRanges → List SoupRanges
change_ranges sig change rows = change_first (λ r. r.sig == sig) change rows

-- the ranges of the soup of this signature are gone (a word of these definitions)
abbrev pub drop_ranges : ℕ → List SoupRanges → List SoupRanges
drop_ranges sig rows = filter (λ r. not (r.sig == sig)) rows

-- the range that is found for a soup and a declaration (this project's own)
abbrev pub range_found : ℕ → Option IndexSpec → List SoupRanges → Option Sorted
range_found sig spec rows = option_and_then (find_range spec) (ranges_of sig rows)

-- the mask that is found for a soup and an id (this project's own)
abbrev pub mask_found : ℕ → ℕ → List SoupRanges → Option ℕ
mask_found sig uid rows = option_and_then (find_mask uid) (ranges_of sig rows)
