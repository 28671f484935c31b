-- What a hit of a query is.
use Rattle.std.specs.Prelude.{◌≡◌, List, IsTrue, Some}
use Rattle.newt_base.specs.Names.{equal_text}
use Rattle.newt_spec_store.specs.Keys.{key}
use Rattle.newt_spec_store.specs.Store.{Entry, Soup, Store}
use Rattle.newt_spec_query.specs.Hits.{Query, Hit, in_scope, carries, above, below, passes}
use Rattle.newt_spec_graph.specs.Lists.{Among}

-- A hit is an entry of a soup of the query's name, in a store in its scope. The soup carries the
-- query's index. The entry has a key, is in bounds and passes.
pub record IsHit (stores : List Store) (q : Query) (h : Hit) : Type 0 where
  pub «in» : Store
  pub of : Soup
  pub entry : Entry
  pub is_store : Among stores «in»
  pub scoped : IsTrue (in_scope q.scope «in»)
  pub is_soup : Among «in».soups of
  pub named : IsTrue (equal_text of.name q.name)
  pub carried : IsTrue (carries q.spec.index of)
  pub is_entry : Among of.entries entry
  pub keyed : key entry.graph q.spec.index ≡ Some h.key
  pub is_above : IsTrue (above q.spec.index q.spec.lower h.key)
  pub is_below : IsTrue (below q.spec.index q.spec.upper h.key)
  pub passed : IsTrue (passes q.spec of.tags entry.graph)
  pub store_is : h.store ≡ «in».sig
  pub soup_is : h.soup ≡ of.sig
  pub uid_is : h.uid ≡ entry.uid
