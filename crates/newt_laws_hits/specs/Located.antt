-- A hit by its identity: the store is found by its signature, the soup by its own, and the entry by
-- its id.
use Rattle.std.specs.Prelude.{ℕ, Bool, ◌&&◌, ◌==◌, List, find, Option, None, option_map, option_and_then, cond}
use Rattle.newt_base.specs.Names.{equal_text}
use Rattle.newt_spec_store.specs.Store.{Entry, Soup, Store, entry_of, soup_of}
use Rattle.newt_spec_query.specs.Hits.{Query, Hit, hit_of, in_scope, carries}

-- an entry with its soup and its store (a word of these definitions)
pub record Located : Type 0 where
  pub store : Store
  pub soup : Soup
  pub entry : Entry

-- the entry of this id in the soup of this signature in the store of this signature (this project's
-- own)
abbrev pub located : List Store → ℕ → ℕ → ℕ → Option Located
located stores store soup uid =
    option_and_then (λ s. option_and_then (λ p. option_map (λ e. record { store = s; soup = p; entry = e }) (entry_of uid p)) (soup_of soup s))
    (find (λ s. s.sig == store) stores)

-- the soup is one that the query looks into (this project's own)
abbrev pub takes_part : Query → Store → Soup → Bool
takes_part q s p = in_scope q.scope s && (equal_text p.name q.name && carries q.spec.index p)

-- a located entry as a hit; none where it is not a hit (this project's own)
abbrev pub located_hit : Query → Located → Option Hit
located_hit q f = cond (takes_part q f.store f.soup) (hit_of q.spec f.store f.soup f.entry) None

-- the hit of this identity, looked up (this project's own)
abbrev pub looked_up : List Store → Query → ℕ → ℕ → ℕ → Option Hit
looked_up stores q store soup uid = option_and_then (located_hit q) (located stores store soup uid)
