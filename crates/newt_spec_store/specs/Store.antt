-- A store as a plain value, and the changes of it. Stores, soups, entries, their names and
-- signatures are Newton's (Newton Programmer's Guide 2.0, data storage and retrieval). Three rules
-- are this project's own. Entry ids and soup signatures rise from 0 and are never used again. An
-- entry's id and time stand beside its frame. A tags declaration names a path and symbols.
use Rattle.std.specs.Prelude.{ℕ, ◌+◌, Bool, ◌==◌, List, [], ◌∷◌, ◌++◌, filter, length, Option, None, Some, option_and_then, cond, not}
use Rattle.std.specs.List.{find}
use Rattle.newt_base.specs.Names.{equal_text}
use Rattle.newt_graph.specs.Graph.{RawGraph}
use Rattle.newt_spec_store.specs.Keys.{IndexSpec, Path, paths_of, same_paths}

-- An entry: its id, the minute of its last change, and its frame. Minutes are counted from midnight
-- of 1 January 1904. (Newton Programmer's Guide 2.0, entries; that id and time stand beside the
-- frame is this project's own)
pub record Entry : Type 0 where
  pub uid : ℕ
  pub time : ℕ
  pub graph : RawGraph

-- a tags declaration: which symbols at which path are an entry's tags (this project's own)
pub record TagTable : Type 0 where
  pub path : Path
  pub symbols : List (List ℕ)

-- A soup: its name and signature, the id of its next entry, its indexes, its tags declaration and
-- info frame, and its entries in order of making. The declaration and the info frame may be
-- missing. (Newton Programmer's Guide 2.0, soups; its signature and next id are this project's own)
pub record Soup : Type 0 where
  pub name : List ℕ
  pub sig : ℕ
  pub next_uid : ℕ
  pub specs : List IndexSpec
  pub tags : Option TagTable
  pub info : Option RawGraph
  pub entries : List Entry

-- a store: its name, its signature, the signature of the next soup, and its soups in order of
-- making (Newton Programmer's Guide 2.0, stores; the signatures are this project's own)
pub record Store : Type 0 where
  pub name : List ℕ
  pub sig : ℕ
  pub next_soup : ℕ
  pub soups : List Soup

-- ---- to find and to change

-- the soup of this name (Newton Programmer's Guide 2.0, soups)
abbrev pub soup_named : List ℕ → Store → Option Soup
soup_named name s = find (λ p. equal_text p.name name) s.soups

-- the entry of this id (Newton Programmer's Guide 2.0, entries)
abbrev pub entry_of : ℕ → Soup → Option Entry
entry_of uid p = find (λ e. e.uid == uid) p.entries

-- the list with the first element that passes the test changed (a word of these definitions)
abbrev pub change_first : {X : Type 0} → (X → Bool) → (X → X) → List X → List X
change_first test change [] = []
change_first test change (x ∷ xs) = cond (test x) (change x ∷ xs) (x ∷ change_first test change xs)

-- the store with the soup of this name changed (a word of these definitions)
abbrev pub change_soup : List ℕ → (Soup → Soup) → Store → Store
change_soup name change s = record s { soups = change_first (λ p. equal_text p.name name) change s.soups }

-- the soup with the entry of this id changed (a word of these definitions)
abbrev pub change_entry : ℕ → (Entry → Entry) → Soup → Soup
change_entry uid change p = record p { entries = change_first (λ e. e.uid == uid) change p.entries }

-- the store with a new soup at the end, with the next signature and no indexes, tags, info or
-- entries (Newton Programmer's Guide 2.0, soups; the signature that it gets is this project's own)
abbrev pub make_soup : List ℕ → Store → Store
make_soup name s =
    let soup : Soup = record { name = name; sig = s.next_soup; next_uid = 0; specs = []; tags = None; info = None; entries = [] } in
    record s { next_soup = s.next_soup + 1; soups = s.soups ++ soup ∷ [] }

-- the store without the soup of this name and its entries (Newton Programmer's Guide 2.0, soups)
abbrev pub drop_soup : List ℕ → Store → Store
drop_soup name s = record s { soups = filter (λ p. not (equal_text p.name name)) s.soups }

-- the soup with a new entry at the end, with the next id (Newton Programmer's Guide 2.0, entries;
-- the id that it gets is this project's own)
abbrev pub add_entry : ℕ → RawGraph → Soup → Soup
add_entry time graph p =
    let entry : Entry = record { uid = p.next_uid; time = time; graph = graph } in
    record p { next_uid = p.next_uid + 1; entries = p.entries ++ entry ∷ [] }

-- the soup without the entry of this id (Newton Programmer's Guide 2.0, entries)
abbrev pub remove_entry : ℕ → Soup → Soup
remove_entry uid p = record p { entries = filter (λ e. not (e.uid == uid)) p.entries }

-- an entry with this graph, at this minute; it keeps its id (this project's own)
abbrev pub with_graph : ℕ → RawGraph → Entry → Entry
with_graph time graph e = record e { time = time; graph = graph }

-- the soup with the declaration of an index appended (Newton Programmer's Guide 2.0, indexes)
abbrev pub with_index : IndexSpec → Soup → Soup
with_index spec p = record p { specs = p.specs ++ spec ∷ [] }

-- the soup without the declaration of these paths (Newton Programmer's Guide 2.0, indexes)
abbrev pub without_index : List Path → Soup → Soup
without_index paths p = record p { specs = filter (λ spec. not (same_paths (paths_of spec) paths)) p.specs }

-- the soup with this tags declaration, or with none (this project's own)
abbrev pub with_tags : Option TagTable → Soup → Soup
with_tags tags p = record p { tags = tags }

-- the soup with this info frame, or with none (Newton Programmer's Guide 2.0, soups)
abbrev pub with_info : Option RawGraph → Soup → Soup
with_info info p = record p { info = info }

-- a store of this name and signature, without soups (Newton Programmer's Guide 2.0, stores)
abbrev pub new_store : List ℕ → ℕ → Store
new_store name sig = record { name = name; sig = sig; next_soup = 0; soups = [] }

-- ---- soups by their signatures: a well-formed store has one soup of a name and one of a
-- signature, so both find the same

-- the soup of this signature (this project's own)
abbrev pub soup_of : ℕ → Store → Option Soup
soup_of sig s = find (λ p. p.sig == sig) s.soups

-- the entry of this id in the soup of this signature (this project's own)
abbrev pub entry_at : ℕ → ℕ → Store → Option Entry
entry_at sig uid s = option_and_then (entry_of uid) (soup_of sig s)

-- how many entries a soup has; 0 where there is no soup (a word of these definitions)
abbrev pub count_in : Option Soup → ℕ
count_in None = 0
count_in (Some p) = length p.entries

-- the id that the next entry of a soup gets; 0 where there is no soup (a word of these definitions)
abbrev pub next_uid_of : Option Soup → ℕ
next_uid_of None = 0
next_uid_of (Some p) = p.next_uid

-- the store with the soup of this signature changed (this project's own)
abbrev pub change_soup_of : ℕ → (Soup → Soup) → Store → Store
change_soup_of sig change s = record s { soups = change_first (λ p. p.sig == sig) change s.soups }

-- the store without the soup of this signature (this project's own)
abbrev pub without_soup : ℕ → Store → Store
without_soup sig s = record s { soups = filter (λ p. not (p.sig == sig)) s.soups }

-- the soup after its next entry id was taken (this project's own)
abbrev pub uid_taken : Soup → Soup
uid_taken p = record p { next_uid = p.next_uid + 1 }

-- the store after the next entry id of the soup of this signature was taken (this project's own)
abbrev pub take_uid_of : ℕ → Store → Store
take_uid_of sig s = record s { soups = change_first (λ p. p.sig == sig) uid_taken s.soups }
