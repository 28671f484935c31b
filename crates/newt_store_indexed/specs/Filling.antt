-- What is added where entries are read one after another.
use Rattle.std.specs.Prelude.{ℕ, List, [], ◌∷◌, Option, Some, None}
use Rattle.newt_graph.specs.Graph.{RawGraph}
use Rattle.newt_spec_store.specs.Store.{Entry, Store, entry_at}

-- one range, or the masks, to which an entry is added by its id and graph

-- with the entry that was read under an id, if there is one (this project's own)
abbrev pub with_read : {T : Type 0} → (ℕ → RawGraph → T → T) → ℕ → Option Entry → T → T
with_read add uid None v = v
with_read add uid (Some e) v = add uid e.graph v

-- with the entries of a soup that have these ids (this project's own)
abbrev pub with_all : {T : Type 0} → (ℕ → RawGraph → T → T) → ℕ → Store → List ℕ → T → T
with_all add sig s [] v = v
with_all add sig s (uid ∷ uids) v = with_all add sig s uids (with_read add uid (entry_at sig uid s) v)
