-- How the definition sees the hits and members of the code.
use Rattle.std.specs.Prelude.{ℕ, List, [], Option, None, Some, All}
use Rattle.newt_spec_query.specs.Hits as spec
use Rattle.newt_spec_store.specs.Keys.{Key}
use Rattle.newt_index.specs.Pairs.{IsSorted}
use Rattle.newt_index.specs.Kept.{IsProbeOf}
use Rattle.newt_union.specs.Merged as merged
use Rattle.newt_union.specs.declared.hit.Hit.{Hit}
use Rattle.newt_union.specs.declared.member.Member.{Member}

-- a hit that lends its key (a word of these definitions)
abbrev pub shown : Hit → spec.Hit
shown h = record { key = h.key.now; store = h.store; soup = h.soup; uid = h.uid }

-- a member that lends its range (a word of these definitions)
abbrev pub seen : Member → merged.Member
seen m = record { store = m.store; soup = m.soup; range = m.index.now }

-- the member on a place; an unused place is a soup without a pair (a word of these definitions)
abbrev pub seen_place : Option Member → merged.Member
seen_place None = record { store = 0; soup = 0; range = record { spec = None; pairs = [] } }
seen_place (Some m) = seen m

-- each range is in order (a word of these definitions)
abbrev pub AreSorted : List merged.Member → Type 0
AreSorted ms = All (λ (m : merged.Member). IsSorted m.range) ms

-- the bytes are those of a key of the declaration of each member on these places (a word of these
-- definitions)
abbrev pub HaveProbe : Key → List ℕ → List (Option Member) → Type 0
HaveProbe key bytes places = All (λ (p : Option Member). IsProbeOf (seen_place p).range.spec key bytes) places
