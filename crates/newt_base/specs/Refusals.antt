-- The refusals: their numbers and words, and the first of several that holds. The table is this
-- project's own.
use Rattle.std.specs.Prelude.{ℕ, Bool, true, false, List, [], ◌∷◌, ◌++◌, codes, Option, Some, None}
use Rattle.newt_base.specs.Text.{decimal_text}
use Rattle.newt_base.specs.declared.Refusal.{Refusal}
use Rattle.newt_base.specs.declared.Refusal.TheVariants.{Longline, Command, Line, Malformed, Compressed, Literal, Backup, Unit as NoUnit, Blocks, Mounted, Notmounted, Nostore, Store, Stores, Signature, Cursor, Watch, Copy, Soup, Exists, Entry, Changed, Notframe, Info, Path, Range, Spec, Index, Key, Limit, Size, Ids, Full}

-- the one table: the number and the word of each refusal
abbrev pub refusal_row : Refusal → ℕ × List ℕ
refusal_row Longline = (12, codes "longline")
refusal_row Command = (10, codes "command")
refusal_row Line = (11, codes "line")
refusal_row Malformed = (1, codes "malformed")
refusal_row Compressed = (2, codes "compressed")
refusal_row Literal = (3, codes "literal")
refusal_row Backup = (51, codes "backup")
refusal_row NoUnit = (20, codes "unit")
refusal_row Blocks = (27, codes "blocks")
refusal_row Mounted = (21, codes "mounted")
refusal_row Notmounted = (25, codes "notmounted")
refusal_row Nostore = (22, codes "nostore")
refusal_row Store = (26, codes "store")
refusal_row Stores = (23, codes "stores")
refusal_row Signature = (24, codes "signature")
refusal_row Cursor = (42, codes "cursor")
refusal_row Watch = (47, codes "watch")
refusal_row Copy = (46, codes "copy")
refusal_row Soup = (30, codes "soup")
refusal_row Exists = (31, codes "exists")
refusal_row Entry = (32, codes "entry")
refusal_row Changed = (45, codes "changed")
refusal_row Notframe = (37, codes "notframe")
refusal_row Info = (44, codes "info")
refusal_row Path = (38, codes "path")
refusal_row Range = (39, codes "range")
refusal_row Spec = (41, codes "spec")
refusal_row Index = (40, codes "index")
refusal_row Key = (43, codes "key")
refusal_row Limit = (36, codes "limit")
refusal_row Size = (34, codes "size")
refusal_row Ids = (35, codes "ids")
refusal_row Full = (33, codes "full")

-- the number of a refusal
abbrev pub refusal_number : Refusal → ℕ
refusal_number refusal = (refusal_row refusal).0

-- the word of a refusal
abbrev pub refusal_word : Refusal → List ℕ
refusal_word refusal = (refusal_row refusal).1

-- a refusal in a reply line: its number, a space, its word
abbrev pub refusal_text : Refusal → List ℕ
refusal_text refusal = decimal_text (refusal_number refusal) ++ 32 ∷ refusal_word refusal

-- the refusals of a row, in the order in which they are tried, each with its test
abbrev pub Checks : Type 0
Checks = List (Refusal × Bool)

-- the first refusal whose test holds; none where no test does
abbrev pub first_of : Checks → Option Refusal
first_of [] = None
first_of (check ∷ checks) = elim check.1 [ true ↦ Some check.0 | false ↦ first_of checks ]
