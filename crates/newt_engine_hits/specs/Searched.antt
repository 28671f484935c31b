-- What is searched: the soups that take part in a query, and the entry of a hit in the store of one unit.
use Rattle.std.specs.Prelude.{ℕ, Bool, true, false, ◌&&◌, List, Option, Some, None, option_map, option_and_then, cond}
use Rattle.std.specs.Borrow.{Bor}
use Rattle.newt_spec_store.specs.Keys.{IndexSpec, same_spec}
use Rattle.newt_spec_graph.specs.Lists.{Among}
use Rattle.newt_spec_store.specs.Store.{Store, entry_of, soup_named, soup_of}
use Rattle.newt_spec_query.specs.Hits.{Query, Hit, above, below, in_scope}
use Rattle.newt_spec_world.specs.World.{World, mounted_stores}
use Rattle.newt_index.specs.Pairs.{Sorted}
use Rattle.newt_union.specs.Merged.{Member, AllAgree, merged}
use Rattle.newt_union.specs.Seen.{AreSorted}
use Rattle.newt_laws_hits.specs.Located.{Located}
use Rattle.newt_laws_hits.specs.Stripped.{entry_passes}
use Rattle.newt_laws_hits.specs.Taking.{member_of, members_of}

-- the soup of the query's name in a store in scope, with its range (Newton Programmer's Guide 2.0, union soups)
abbrev pub member_in : Query → Store → Option Member
member_in q s = cond (in_scope q.scope s) (option_and_then (member_of q s) (soup_named q.name s)) None

-- the signatures of a store and a soup with a range that is lent, as a member (a word of these definitions)
abbrev pub seen_member : ℕ × ℕ × Bor Sorted → Member
seen_member m = record { store = m.0; soup = m.1; range = m.2.now }

-- two declarations agree, or both are none (this project's own)
abbrev pub agrees : Option IndexSpec → Option IndexSpec → Bool
agrees (Some d) (Some spec) = same_spec spec d
agrees None None = true
agrees _ _ = false

-- the ranges are in order, and their declarations agree with the index (this project's own)
pub record AreMembers (index : IndexSpec) (ms : List Member) : Type 0 where
  pub agree : AllAgree index ms
  pub sorted : AreSorted ms

-- the hit is one of the ranges of the soups that take part in a query (this project's own)
abbrev pub IsIndexed : World → Query → Hit → Type 0
IsIndexed w q h = Among (merged q.spec.index (members_of (mounted_stores w) q)) h

-- the entry of this id in the soup of this signature of a store (a word of these definitions)
abbrev pub located_in : Store → ℕ → ℕ → Option Located
located_in s soup uid = option_and_then (λ p. option_map (λ e. record { store = s; soup = p; entry = e }) (entry_of uid p)) (soup_of soup s)

-- the hit's key is in the range, and its entry is in the store and passes (this project's own)
abbrev pub keeps_in : Query → Store → Hit → Bool
keeps_in q s h = above q.spec.index q.spec.lower h.key && below q.spec.index q.spec.upper h.key && entry_passes q (located_in s h.soup h.uid)
