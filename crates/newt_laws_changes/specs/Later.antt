-- What a store has after a change of what it had before, and what is gone from it.
use Rattle.std.specs.Prelude.{◌≡◌, ℕ, ◌<◌, ◌≤◌, ◌⊎◌}
use Rattle.newt_spec_store.specs.Store.{Store, Soup, Entry}
use Rattle.newt_spec_graph.specs.Lists.{Among}

-- q is p, later: each id in it was there, or is new (this project's own)
pub record SoupLater (p q : Soup) : Type 0 where
  pub sig_same : q.sig ≡ p.sig
  pub next : p.next_uid ≤ q.next_uid
  pub uids : (e : Entry) → Among q.entries e → ((d : Entry) × Among p.entries d × (d.uid ≡ e.uid)) ⊎ (p.next_uid ≤ e.uid)

-- t is s, later: each soup in it was there, or is new (this project's own)
pub record StoreLater (s t : Store) : Type 0 where
  pub sig_same : t.sig ≡ s.sig
  pub next : s.next_soup ≤ t.next_soup
  pub soups : (q : Soup) → Among t.soups q → ((p : Soup) × Among s.soups p × SoupLater p q) ⊎ (s.next_soup ≤ q.sig)

-- No soup of this signature has an entry of this id, though both have been given. (this project's
-- own)
pub record EntryGone (sig uid : ℕ) (s : Store) : Type 0 where
  pub sig_given : sig < s.next_soup
  pub uid_given : (p : Soup) → Among s.soups p → p.sig ≡ sig → uid < p.next_uid
  pub not_there : (p : Soup) (e : Entry) → Among s.soups p → p.sig ≡ sig → Among p.entries e → e.uid ≡ uid → ⊥

-- No soup has this signature, though it has been given. (this project's own)
pub record SoupGone (sig : ℕ) (s : Store) : Type 0 where
  pub sig_given : sig < s.next_soup
  pub not_there : (p : Soup) → Among s.soups p → p.sig ≡ sig → ⊥
