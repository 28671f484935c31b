-- The members of the union that a query searches.
use Rattle.std.specs.Prelude.{[], List, filter, filter_map, Option, Some, None, option_map, option_and_then}
use Rattle.newt_spec_store.specs.Keys.{IndexSpec}
use Rattle.newt_spec_store.specs.Store.{Soup, Store, soup_named}
use Rattle.newt_spec_query.specs.Hits.{Query, in_scope}
use Rattle.newt_union.specs.Merged.{Member}
use Rattle.newt_index_ranges.specs.Range.{range_in}

-- the declaration that a query's index stands for: none where it asks for no index (this project's
-- own)
abbrev pub declared : IndexSpec → Option IndexSpec
declared [] = None
declared spec = Some spec

-- the range of a soup by the query's index, with the signatures of its store and its own, if it
-- carries that index (this project's own)
abbrev pub member_of : Query → Store → Soup → Option Member
member_of q s p = option_map (λ r. record { store = s.sig; soup = p.sig; range = r }) (range_in p.sig (declared q.spec.index) s)

-- the soup of the query's name in each store in scope, in order of the stores (Newton Programmer's
-- Guide 2.0, union soups)
abbrev pub members_of : List Store → Query → List Member
members_of stores q = filter_map (λ s. option_and_then (member_of q s) (soup_named q.name s)) (filter (in_scope q.scope) stores)
