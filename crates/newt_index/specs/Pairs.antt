-- An index as a sorted list of keys with the ids of their entries.
use Rattle.std.specs.Prelude.{◌≡◌, ◌<◌, ◌^◌, ℕ, not, ◌==◌, List, [], ◌∷◌, filter, Option, Some, None, cond, All, unwrap_or}
use Rattle.std.specs.declared.cmp.Ordering.{Ordering}
use Rattle.std.specs.declared.cmp.Ordering.TheVariants.{Less}
use Rattle.std.specs.Ordering.{nat_cmp, ordering_then, match_ordering, is_lt, is_eq, is_gt}
use Rattle.newt_spec_graph.specs.Lists.{Pairs}
use Rattle.newt_spec_store.specs.Keys.{Key, IndexSpec, key_cmp}
use Rattle.newt_keys.specs.KeyForm.{IsKeyOf}

-- a key and the id of its entry (a word of these definitions)
abbrev pub Pair : Type 0
Pair = Key × ℕ

-- the parts of a declaration; with none every key is empty (this project's own)
abbrev pub parts_of : Option IndexSpec → IndexSpec
parts_of spec = unwrap_or spec []

-- the order of pairs: by key, and then by id (this project's own)
abbrev pub pair_cmp : IndexSpec → Pair → Pair → Ordering
pair_cmp spec a b = ordering_then (key_cmp spec a.0 b.0) (nat_cmp a.1 b.1)

-- ---- the list's operations

-- the list with a pair at its place, where it is not there yet (a word of these definitions)
abbrev pub with_pair : IndexSpec → List Pair → Pair → List Pair
with_pair spec [] p = p ∷ []
with_pair spec (q ∷ qs) p = match_ordering (pair_cmp spec p q) (p ∷ q ∷ qs) (q ∷ qs) (q ∷ with_pair spec qs p)

-- the list without its first pair that is this one (a word of these definitions)
abbrev pub removed : IndexSpec → List Pair → Pair → List Pair
removed spec [] p = []
removed spec (q ∷ qs) p = cond (is_eq (pair_cmp spec p q)) qs (q ∷ removed spec qs p)

-- the first, if there is one (a word of these definitions)
abbrev pub first : {A : Type 0} → List A → Option A
first [] = None
first (a ∷ as') = Some a

-- the last, if there is one (a word of these definitions)
abbrev pub last : {A : Type 0} → List A → Option A
last [] = None
last (a ∷ []) = Some a
last (a ∷ b ∷ as') = last (b ∷ as')

-- the least pair after the given one (a word of these definitions)
abbrev pub after : IndexSpec → List Pair → Pair → Option Pair
after spec pairs p = first (filter (λ q. is_lt (pair_cmp spec p q)) pairs)

-- the greatest pair before the given one (a word of these definitions)
abbrev pub before : IndexSpec → List Pair → Pair → Option Pair
before spec pairs p = last (filter (λ q. is_gt (pair_cmp spec p q)) pairs)

-- the first pair whose key is not before the given one (a word of these definitions)
abbrev pub at_or_after : IndexSpec → List Pair → Key → Option Pair
at_or_after spec pairs k = first (filter (λ q. not (is_lt (key_cmp spec q.0 k))) pairs)

-- the last pair whose key is not after the given one (a word of these definitions)
abbrev pub at_or_before : IndexSpec → List Pair → Key → Option Pair
at_or_before spec pairs k = last (filter (λ q. not (is_gt (key_cmp spec q.0 k))) pairs)

-- the key of the first pair with this id (a word of these definitions)
abbrev pub key_at : List Pair → ℕ → Option Key
key_at [] uid = None
key_at (q ∷ qs) uid = cond (q.1 == uid) (Some q.0) (key_at qs uid)

-- ---- the value of an index

-- an index: its declaration, and the pairs in order (this project's own)
pub record Sorted : Type 0 where
  pub spec : Option IndexSpec
  pub pairs : List Pair

-- a pair of an index: a key of its declaration, and an id of 32 bits (this project's own)
pub record IsPair (spec : IndexSpec) (p : Pair) : Type 0 where
  pub is_key : IsKeyOf spec p.0
  pub fits : p.1 < 2 ^ 32

-- each pair is one of the declaration, and they rise by key and then by id (this project's own)
pub record IsSorted (v : Sorted) : Type 0 where
  pub each : All (IsPair (parts_of v.spec)) v.pairs
  pub rise : Pairs (λ p q. pair_cmp (parts_of v.spec) p q ≡ Less) v.pairs
