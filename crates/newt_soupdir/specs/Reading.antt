-- The rows of a directory, read from the front of bytes as a program reads them: names, symbols and
-- counts are tested as they are met.
use Rattle.std.specs.Prelude.{◌≡◌, ℕ, zero, suc, Bool, ◌&&◌, nat_le, List, length, Option, Some, None, Result, Ok, Err}
use Rattle.newt_graph.specs.Graph.{RawGraph}
use Rattle.newt_base.specs.Names.{is_name, same_name, is_identifier}
use Rattle.newt_spec_graph.specs.Lists.{all_apart}
use Rattle.newt_spec_store.specs.declared.Kind.{Kind}
use Rattle.newt_spec_store.specs.declared.Order.{Order}
use Rattle.newt_spec_store.specs.Keys.{IndexSpec, Path}
use Rattle.newt_spec_store.specs.Store.{TagTable}
use Rattle.newt_spec_store.specs.StoreOf.{only}
use Rattle.newt_spec_store.specs.Reading.{Take, ◌>>=◌, give, refuse, number, some_bytes, times, whole, kind_of, direction_of, graph}
use Rattle.newt_spec_store.specs.Valid.{well_formed, keeps_version}
use Rattle.newt_nsof_flat.specs.Stream.{stream_graph}
use Rattle.newt_keys.specs.Seen.{declared_all}
use Rattle.newt_keys.specs.declared.types.IndexPart.{IndexPart}
use Rattle.newt_soupdir.specs.declared.fault.DirFault.{DirFault}
use Rattle.newt_soupdir.specs.declared.fault.DirFault.TheVariants.{Bad, Memory}
use Rattle.newt_soupdir.specs.declared.rows.SoupRow.{SoupRow}
use Rattle.newt_soupdir.specs.declared.rows.Directory.{Directory}
use Rattle.newt_soupdir.specs.Bare.{bare_store}

-- bytes are bad where nothing is read
abbrev pub Fails : {Y : Type 0} → DirFault → Option Y → Type 0
Fails Bad read = read ≡ None
Fails Memory read = Unit {0}

-- What a function returned, seen by view, is what reading gives, unless memory ran out.
abbrev pub Gives : {X Y : Type 0} → (X → Y) → Result X DirFault → Option Y → Type 0
Gives view (Ok x) read = read ≡ Some (view x)
Gives view (Err e) read = Fails e read

-- a value that passes a test
abbrev pub passing : {A : Type 0} → (A → Bool) → Take A → Take A
passing test item bytes = only (λ r. test r.0) (item bytes)

-- there are as many elements as are allowed
abbrev pub is_count : {A : Type 0} → ℕ → ℕ → List A → Bool
is_count least most xs = nat_le least (length xs) && nat_le (length xs) most

-- ---- numbers and names

-- a number of one byte
unfoldable pub byte_at : Take ℕ
byte_at = number 1

-- a number of two bytes
unfoldable pub number16_at : Take ℕ
number16_at = number 2

-- a number of four bytes
unfoldable pub number32_at : Take ℕ
number32_at = number 4

-- a text, after a byte that says its length
unfoldable pub text_at : Take (List ℕ)
text_at = byte_at >>= some_bytes

-- a text that is the name of a store or soup
unfoldable pub name_at : Take (List ℕ)
name_at = passing is_name text_at

-- ---- indexes and tags

-- a text that is an identifier
unfoldable pub symbol_at : Take (List ℕ)
symbol_at = passing is_identifier text_at

-- a path: a count of 1 to 8, and as many symbols
unfoldable pub path_at : Take Path
path_at = passing (is_count 1 8) (byte_at >>= λ n. times n symbol_at)

-- a type, by its byte
unfoldable pub kind_at : Take Kind
kind_at = byte_at >>= kind_of

-- a direction, by its byte
unfoldable pub order_at : Take Order
order_at = byte_at >>= direction_of

-- a part of an index: its type, its direction and its path
unfoldable pub part_at : Take IndexPart
part_at = do
  kind ← kind_at
  order ← order_at
  path ← path_at
  give (record { path = path; kind = kind; order = order })

-- an index: a count of 1 to 4, and as many parts
unfoldable pub spec_at : Take IndexSpec
spec_at = passing (is_count 1 4) (byte_at >>= λ n. times n part_at >>= λ parts. give (declared_all parts))

-- the indexes of a soup, after their count
unfoldable pub specs_at : Take (List IndexSpec)
specs_at = byte_at >>= λ n. times n spec_at

-- symbols, no two of which are alike but for the case of letters
unfoldable pub tag_symbols_at : Take (List (List ℕ))
tag_symbols_at = passing (λ symbols. nat_le (length symbols) 64 && all_apart same_name symbols) (byte_at >>= λ n. times n symbol_at)

-- a tags declaration: its path and its symbols
unfoldable pub table_at : Take TagTable
table_at = do
  path ← path_at
  symbols ← tag_symbols_at
  give (record { path = path; symbols = symbols })

-- ---- info frames

-- an info frame: two bytes of the length of its text, and the text
unfoldable pub info_at : Take RawGraph
info_at = number16_at >>= graph stream_graph

-- a tags declaration and an info frame, as far as the byte before them says that there are any
abbrev pub extra_from : ℕ → Take (Option TagTable × Option RawGraph)
extra_from zero = give (None, None)
extra_from (suc zero) = table_at >>= λ table. give (Some table, None)
extra_from (suc (suc zero)) = info_at >>= λ info. give (None, Some info)
extra_from (suc (suc (suc zero))) = table_at >>= λ table. info_at >>= λ info. give (Some table, Some info)
extra_from _ = refuse

-- a byte that says what there is of a tags declaration and an info frame, and these
unfoldable pub extra_at : Take (Option TagTable × Option RawGraph)
extra_at = byte_at >>= extra_from

-- ---- the directory

-- a soup: its name, its signature in two bytes, its next id in four, its indexes, and the rest
unfoldable pub soup_at : Take SoupRow
soup_at = do
  name ← name_at
  sig ← number16_at
  next ← number32_at
  specs ← specs_at
  extra ← extra_at
  give (record { name = name; sig = sig; next_uid = next; specs = specs; tags = extra.0; info = extra.1 })

-- soups, after their count
unfoldable pub soups_at : Take (List SoupRow)
soups_at = byte_at >>= λ n. times n soup_at

-- a directory: the store's name, its signature in four bytes, the next soup's in two, and the soups
unfoldable pub rows_at : Take Directory
rows_at = do
  name ← name_at
  sig ← number32_at
  next ← number16_at
  soups ← soups_at
  give (record { name = name; sig = sig; next_soup = next; soups = soups })

-- the rows that all of the bytes give, where they are rows of this version and make a well formed
-- store
unfoldable pub directory_at : ℕ → List ℕ → Option Directory
directory_at version bytes = only (λ d. well_formed (bare_store d)) (only (λ d. keeps_version version (bare_store d)) (whole rows_at bytes))
