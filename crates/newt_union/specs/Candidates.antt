-- What each member has to offer to a search, and the best of it.
use Rattle.std.specs.Prelude.{Option, Some, None, option_map, cond}
use Rattle.std.specs.declared.cmp.Ordering.{Ordering}
use Rattle.std.specs.Ordering.{nat_cmp, ordering_then, is_lt, match_ordering}
use Rattle.newt_spec_store.specs.Keys.{Key}
use Rattle.newt_spec_query.specs.Hits.{Hit, hit_cmp}
use Rattle.newt_index.specs.Pairs.{Pair, parts_of}
use Rattle.newt_index.specs.Pairs as pairs
use Rattle.newt_union.specs.Merged.{Member, hit}

-- how the store and the soup of a hit compare to those of a member (a word of these definitions)
abbrev pub side : Hit → Member → Ordering
side h m = ordering_then (nat_cmp h.store m.store) (nat_cmp h.soup m.soup)

-- a member's least pair after a hit: where keys tie, the stores and soups decide, and then the ids
-- (this project's own)
abbrev pub pair_after : Hit → Member → Option Pair
pair_after h m =
    match_ordering (side h m)
    (pairs.at_or_after (parts_of m.range.spec) m.range.pairs h.key)
    (pairs.after (parts_of m.range.spec) m.range.pairs (h.key, h.uid))
    (pairs.after (parts_of m.range.spec) m.range.pairs (h.key, 4294967295))

-- a member's greatest pair before a hit (this project's own)
abbrev pub pair_before : Hit → Member → Option Pair
pair_before h m =
    match_ordering (side h m)
    (pairs.before (parts_of m.range.spec) m.range.pairs (h.key, 0))
    (pairs.before (parts_of m.range.spec) m.range.pairs (h.key, h.uid))
    (pairs.at_or_before (parts_of m.range.spec) m.range.pairs h.key)

-- ---- candidates

-- a member's first hit (a word of these definitions)
abbrev pub first_in : Member → Option Hit
first_in m = option_map (hit m) (pairs.first m.range.pairs)

-- a member's last hit (a word of these definitions)
abbrev pub last_in : Member → Option Hit
last_in m = option_map (hit m) (pairs.last m.range.pairs)

-- a member's least hit after a hit (a word of these definitions)
abbrev pub after_in : Hit → Member → Option Hit
after_in h m = option_map (hit m) (pair_after h m)

-- a member's greatest hit before a hit (a word of these definitions)
abbrev pub before_in : Hit → Member → Option Hit
before_in h m = option_map (hit m) (pair_before h m)

-- a member's first hit whose key is not before the given one (a word of these definitions)
abbrev pub at_or_after_in : Key → Member → Option Hit
at_or_after_in key m = option_map (hit m) (pairs.at_or_after (parts_of m.range.spec) m.range.pairs key)

-- ---- the best

-- the lesser of two; the one that is there, where only one is; the first, where they tie (a word of
-- these definitions)
abbrev pub lesser : {X : Type 0} → (X → X → Ordering) → Option X → Option X → Option X
lesser cmp None b = b
lesser cmp (Some a) None = Some a
lesser cmp (Some a) (Some b) = cond (is_lt (cmp b a)) (Some b) (Some a)

-- the greater of two, likewise (a word of these definitions)
abbrev pub greater : {X : Type 0} → (X → X → Ordering) → Option X → Option X → Option X
greater cmp a b = lesser (λ x y. cmp y x) a b

-- the lesser of what was found and a member's candidate (a word of these definitions)
abbrev pub with_lesser : (Member → Option Hit) → Option Hit → Member → Option Hit
with_lesser candidate found m = lesser (hit_cmp (parts_of m.range.spec)) found (candidate m)

-- the greater of what was found and a member's candidate (a word of these definitions)
abbrev pub with_greater : (Member → Option Hit) → Option Hit → Member → Option Hit
with_greater candidate found m = greater (hit_cmp (parts_of m.range.spec)) found (candidate m)
