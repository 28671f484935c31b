-- The hits of a query: a filter of all entries, put in order. A query finds the entries of a soup
-- or a union soup in the order of an index (Newton Programmer's Guide 2.0, queries and union
-- soups). Which soups take part, which entries have a key, and the order of ties are this project's
-- own.
use Rattle.std.specs.Prelude.{ℕ, Bool, true, not, ◌&&◌, ◌==◌, List, [], filter, flat_map, filter_map, Option, Some, None, option_map, cond}
use Rattle.std.specs.List.{list_all, list_any}
use Rattle.std.specs.declared.cmp.Ordering.{Ordering}
use Rattle.std.specs.Ordering.{nat_cmp, ordering_then, is_lt, is_gt}
use Rattle.newt_base.specs.Names.{equal_text}
use Rattle.newt_graph.specs.declared.node.Node.{Node}
use Rattle.newt_graph.specs.declared.node.Node.TheVariants.{Str}
use Rattle.newt_graph.specs.Graph.{RawGraph}
use Rattle.newt_spec_store.specs.Keys.{IndexSpec, Key, key, key_cmp, same_spec, folded}
use Rattle.newt_spec_store.specs.Store.{Entry, Soup, Store, TagTable}
use Rattle.newt_spec_store.specs.Sorted.{sorted_by}
use Rattle.newt_base.specs.Words.{has_text, has_word}
use Rattle.newt_spec_query.specs.Tags.{tags_of, tags_pass}
use Rattle.newt_spec_query.specs.Spec.{Spec, Bound, unbounded, including, excluding}

-- a query: one store by its signature or all mounted stores, the name of its soups, and what it
-- says (Newton Programmer's Guide 2.0, queries and union soups)
pub record Query : Type 0 where
  -- one store by its signature, or all mounted stores
  pub scope : Option ℕ
  pub name : List ℕ
  pub spec : Spec

-- a hit: its key and its identity, which is the signatures of its store and soup and its entry id
-- (this project's own)
pub record Hit : Type 0 where
  pub key : Key
  pub store : ℕ
  pub soup : ℕ
  pub uid : ℕ

-- the key is not below the lower end of the range (Newton Programmer's Guide 2.0, query specs)
abbrev pub above : IndexSpec → Bound → Key → Bool
above index unbounded k = true
above index (including b) k = not (is_lt (key_cmp index k b))
above index (excluding b) k = is_gt (key_cmp index k b)

-- the key is not above the upper end of the range (Newton Programmer's Guide 2.0, query specs)
abbrev pub below : IndexSpec → Bound → Key → Bool
below index unbounded k = true
below index (including b) k = not (is_gt (key_cmp index k b))
below index (excluding b) k = is_lt (key_cmp index k b)

-- all strings of the graph, each of them folded as a whole (Newton Programmer's Guide 2.0, query
-- specs; the folding is this project's own)
abbrev pub strings : RawGraph → List (List ℕ)
strings g = filter_map folded_string g.nodes
  where
    folded_string : Node → Option (List ℕ)
    folded_string (Str units) = Some (folded units)
    folded_string _ = None

-- each word and each text stands in at least one string (Newton Programmer's Guide 2.0, query
-- specs)
abbrev pub text_passes : Spec → RawGraph → Bool
text_passes q g =
    list_all (λ word. list_any (λ text. has_word text word q.entire) (strings g)) q.words
    && list_all (λ part. list_any (λ text. has_text text part) (strings g)) q.texts

-- the entry passes the tags, the words and the texts (Newton Programmer's Guide 2.0, query specs)
abbrev pub passes : Spec → Option TagTable → RawGraph → Bool
passes q table g = tags_pass q.tags (tags_of table g) && text_passes q g

-- ---- the hits of one entry, one soup, all members

-- the key of an entry, where it has one in the range and the entry passes the other tests (Newton
-- Programmer's Guide 2.0, queries)
abbrev pub kept : Spec → Soup → Entry → Option Key → Option Key
kept q p e None = None
kept q p e (Some k) = cond (above q.index q.lower k && below q.index q.upper k && passes q p.tags e.graph) (Some k) None

-- an entry as a hit; none where it is not a hit (a word of these definitions)
abbrev pub hit_of : Spec → Store → Soup → Entry → Option Hit
hit_of q s p e =
    option_map (λ k. record { key = k; store = s.sig; soup = p.sig; uid = e.uid }) (kept q p e (key e.graph q.index))

-- the soup has an index that agrees with this one; with no index every soup takes part (this
-- project's own)
abbrev pub carries : IndexSpec → Soup → Bool
carries [] p = true
carries index p = list_any (same_spec index) p.specs

-- the store is in the scope of the query (Newton Programmer's Guide 2.0, union soups)
abbrev pub in_scope : Option ℕ → Store → Bool
in_scope None s = true
in_scope (Some sig) s = s.sig == sig

-- the hits among the entries of a soup (Newton Programmer's Guide 2.0, queries)
abbrev pub soup_hits : Query → Store → Soup → List Hit
soup_hits q s p = cond (equal_text p.name q.name && carries q.spec.index p) (filter_map (hit_of q.spec s p) p.entries) []

-- ---- order

-- The order of hits: by key, then by the signature of the store, that of the soup and the entry id.
-- These three rise, whatever the direction of the index. (this project's own)
abbrev pub hit_cmp : IndexSpec → Hit → Hit → Ordering
hit_cmp index a b =
    ordering_then (key_cmp index a.key b.key)
    (ordering_then (nat_cmp a.store b.store) (ordering_then (nat_cmp a.soup b.soup) (nat_cmp a.uid b.uid)))

-- the hits in the mounted stores (Newton Programmer's Guide 2.0, queries and union soups; the order
-- of ties is this project's own)
abbrev pub hits : List Store → Query → List Hit
hits stores q =
    sorted_by (hit_cmp q.spec.index) (flat_map (λ s. flat_map (soup_hits q s) s.soups) (filter (in_scope q.scope) stores))
