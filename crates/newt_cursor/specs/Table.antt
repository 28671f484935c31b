-- The rows of a desk: each entry on which cursors stand, with its cursors. All of it is this
-- project's own.
use Rattle.std.specs.Prelude.{◌≡◌, ℕ, ◌<◌, Bool, true, false, not, ◌&&◌, ◌||◌, ◌==◌, nat_lt}
use Rattle.std.specs.Prelude.{List, filter, find, length, map, Option, Some, None, option_map, unwrap_or, cond}
use Rattle.std.specs.List.{insert, list_any, position_or_len}
use Rattle.newt_spec_graph.specs.Lists.{Each, Pairs}
use Rattle.newt_spec_query.specs.Cursor.{Place, on, Cursor}
use Rattle.newt_tags.specs.Masks.{number}
use Rattle.newt_cursor.specs.Desk.{stands_on}
use Rattle.newt_cursor.specs.declared.table.Row.{Row}

-- the entry that a place is on (a word of these definitions)
abbrev pub entry_on : Place → Option (ℕ × ℕ × ℕ)
entry_on (on hit) = Some (hit.store, hit.soup, hit.uid)
entry_on place = None

-- the entry on which a cursor stands (a word of these definitions)
abbrev pub entry_of : Option Cursor → Option (ℕ × ℕ × ℕ)
entry_of None = None
entry_of (Some k) = entry_on k.place

-- the row is that of an entry (a word of these definitions)
abbrev pub is_row : ℕ → ℕ → ℕ → Row → Bool
is_row store soup uid row = (row.store == store) && (row.soup == soup) && (row.uid == uid)

-- the cursors of the row of an entry; none where it has no row (a word of these definitions)
abbrev pub held : ℕ → ℕ → ℕ → List Row → ℕ
held store soup uid rows =
    unwrap_or (option_map (λ row. row.cursors) (find (is_row store soup uid) rows)) 0

-- the cursors that stand on an entry (a word of these definitions)
abbrev pub standing : ℕ → ℕ → ℕ → List (Option Cursor) → ℕ
standing store soup uid cursors = number (map (stands_on store soup uid) cursors)

-- a row has the cursors that stand on its entry, and at least one does
abbrev pub IsRight : List (Option Cursor) → Row → Type 0
IsRight cursors row =
    (row.cursors ≡ standing row.store row.soup row.uid cursors) × (0 < row.cursors)

-- a row is before another: by the store, then by the soup, then by the id
abbrev pub is_before : Row → Row → Bool
is_before a b = nat_lt a.store b.store
    || (a.store == b.store) && (nat_lt a.soup b.soup
    || (a.soup == b.soup) && nat_lt a.uid b.uid)

-- the rows of other entries (a word of these definitions)
abbrev pub others : ℕ → ℕ → ℕ → List Row → List Row
others store soup uid rows = filter (λ row. not (is_row store soup uid row)) rows

-- the rows of other entries, and this one at its place unless it has no cursors
abbrev pub with_row : Row → List Row → List Row
with_row row rows = let rest = others row.store row.soup row.uid rows in
    cond (nat_lt 0 row.cursors) (insert rest (position_or_len (is_before row) rest) row) rest

-- the same, said of rows in order
abbrev pub IsBefore : Row → Row → Type 0
IsBefore a b = is_before a b ≡ true

-- The rows are in order. Each entry on which a cursor stands has one row, which is right, and no
-- other entry has one.
pub record IsTable (cursors : List (Option Cursor)) (rows : List Row) : Type 0 where
  pub ordered : Pairs IsBefore rows
  pub right : Each (IsRight cursors) rows
  pub whole : (store soup uid : ℕ) → list_any (is_row store soup uid) rows ≡ false
      → standing store soup uid cursors ≡ 0

-- the same, except for one entry
pub record IsTableBut (store soup uid : ℕ) (cursors : List (Option Cursor)) (rows : List Row)
    : Type 0 where
  pub ordered : Pairs IsBefore rows
  pub right : Each (λ row. is_row store soup uid row ≡ false → IsRight cursors row) rows
  pub whole : (a b c : ℕ) → ((a == store) && (b == soup) && (c == uid)) ≡ false
      → list_any (is_row a b c) rows ≡ false → standing a b c cursors ≡ 0

-- there are 32 places, and the rows are theirs
pub record IsDesk (cursors : List (Option Cursor)) (rows : List Row) : Type 0 where
  pub places : length cursors ≡ 32
  pub table : IsTable cursors rows
