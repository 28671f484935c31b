-- The ranges of some soups put into one order, and its searches. It is Newton's that a union soup
-- shows the entries of its members as one soup (Newton Programmer's Guide 2.0, union soups).
use Rattle.std.specs.Prelude.{◌≡◌, ℕ, not, ⊤, List, [], ◌∷◌, filter, flat_map, map, Option, All}
use Rattle.std.specs.Ordering.{is_lt, is_gt}
use Rattle.newt_spec_store.specs.Keys.{Key, IndexSpec, key_cmp}
use Rattle.newt_spec_store.specs.Sorted.{sorted_by}
use Rattle.newt_spec_query.specs.Hits.{Hit, hit_cmp}
use Rattle.newt_index.specs.Pairs.{Pair, Sorted, parts_of, first, last}
use Rattle.newt_index.specs.Kept.{IsProbeOf}

-- a soup that takes part: the signatures of its store and its own, and its range (Newton
-- Programmer's Guide 2.0, union soups)
pub record Member : Type 0 where
  pub store : ℕ
  pub soup : ℕ
  pub range : Sorted

-- the hit that a pair of a member's range is (a word of these definitions)
abbrev pub hit : Member → Pair → Hit
hit m p = record { key = p.0; store = m.store; soup = m.soup; uid = p.1 }

-- the hits of a member (a word of these definitions)
abbrev pub hits_of : Member → List Hit
hits_of m = map (hit m) m.range.pairs

-- the hits of all members, in the order of hits (this project's own)
abbrev pub merged : IndexSpec → List Member → List Hit
merged spec ms = sorted_by (hit_cmp spec) (flat_map hits_of ms)

-- ---- declarations

-- two declarations have the same types and orders, part by part, which is all that the order of
-- keys looks at (this project's own)
abbrev pub Agree : IndexSpec → IndexSpec → Type 0
Agree [] [] = ⊤
Agree (p ∷ ps) (q ∷ qs) = (p.kind ≡ q.kind) × (p.direction ≡ q.direction) × Agree ps qs
Agree _ _ = ⊥

-- the declarations of all members agree with this one (this project's own)
abbrev pub AllAgree : IndexSpec → List Member → Type 0
AllAgree spec ms = All (λ (m : Member). Agree spec (parts_of m.range.spec)) ms

-- the bytes are those of a key of each member's declaration (this project's own)
abbrev pub IsProbeIn : List Member → Key → List ℕ → Type 0
IsProbeIn ms key bytes = All (λ (m : Member). IsProbeOf m.range.spec key bytes) ms

-- ---- searches

-- the first hit that is greater (a word of these definitions)
abbrev pub after : IndexSpec → List Member → Hit → Option Hit
after spec ms h = first (filter (λ g. is_lt (hit_cmp spec h g)) (merged spec ms))

-- the last hit that is less (a word of these definitions)
abbrev pub before : IndexSpec → List Member → Hit → Option Hit
before spec ms h = last (filter (λ g. is_gt (hit_cmp spec h g)) (merged spec ms))

-- the first hit whose key is not before the given one (a word of these definitions)
abbrev pub at_or_after : IndexSpec → List Member → Key → Option Hit
at_or_after spec ms key = first (filter (λ (g : Hit). not (is_lt (key_cmp spec g.key key))) (merged spec ms))
