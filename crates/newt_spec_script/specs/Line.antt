-- What a line says: a command, a command whose last part is still to be read, or a refusal. The
-- commands are this project's own.
use Rattle.std.specs.Prelude.{ℕ, Bool, true, false, not, ◌==◌, nat_lt, List, [], ◌∷◌, length, take}
use Rattle.std.specs.Prelude.{drop, find, Option, Some, None, Result, Ok, Err, codes, bytes_eq}
use Rattle.std.specs.Prelude.{if◌then◌else◌}
use Rattle.std.specs.List.{prefix_len}
use Rattle.newt_base.specs.declared.Refusal.{Refusal}
use Rattle.newt_base.specs.declared.Refusal.TheVariants.{Longline, Command as NoCommand}
use Rattle.newt_base.specs.declared.Refusal.TheVariants.{Line as NotTheForm}
use Rattle.newt_base.specs.Names.{same_name}
use Rattle.newt_base.specs.Text.{decimal_value, signed_value}
use Rattle.newt_graph.specs.Graph.{RawGraph}
use Rattle.newt_spec_graph.specs.Lists.{all_apart}
use Rattle.newt_path.specs.Names.{path_of}
use Rattle.newt_spec_world.specs.declared.command.Command.{Command}
use Rattle.newt_spec_world.specs.declared.command.Command.TheVariants as command
use Rattle.newt_spec_script.specs.Words.{Reader, is_blank, skip_blanks, trimmed, word, of1, of2}
use Rattle.newt_spec_script.specs.Words.{of3, of4, of5, of6, decimal_to, one_to, unit_digit, name}
use Rattle.newt_spec_script.specs.Words.{part, symbol, several}

-- ---- the forms of single words

-- a unit, 0 to 7 (this project's own)
abbrev pub unit : Reader ℕ
unit = word unit_digit

-- a number below 2^32 (this project's own)
abbrev pub number : Reader ℕ
number = word decimal_value

-- the signature of a store, at most 536,870,911 (this project's own)
abbrev pub sig : Reader ℕ
sig = word (decimal_to 536_870_911)

-- how many bytes are read, at most 60,000 (this project's own)
abbrev pub len : Reader ℕ
len = word (decimal_to 60_000)

-- a cursor, 0 to 31 (this project's own)
abbrev pub cursor : Reader ℕ
cursor = word (decimal_to 31)

-- how many notes a watch keeps, from 1 to 64 (this project's own)
abbrev pub most : Reader ℕ
most = word (one_to 64)

-- a watch, 0 to 7 (this project's own)
abbrev pub watch : Reader ℕ
watch = word (decimal_to 7)

-- a working copy, 0 to 15 (this project's own)
abbrev pub copy : Reader ℕ
copy = word (decimal_to 15)

-- ---- rows

-- what a line gives before its last part is read (this project's own)
pub data Parsed : Type 0 where
  -- a command, or a refusal
  ready : Result Command Refusal → Parsed
  -- the rest of the line is a literal
  literal : List ℕ → (RawGraph → Command) → Parsed
  -- the rest of the line is an object stream in hexadecimal
  stream : List ℕ → (RawGraph → Command) → Parsed
  -- the rest of the line is bytes in hexadecimal
  bytes : List ℕ → (List ℕ → Command) → Parsed

-- what the words give, where nothing but blanks follows them (this project's own)
abbrev pub ended : Result (Command × List ℕ) Refusal → Parsed
ended (Err r) = ready (Err r)
ended (Ok (c, rest)) = if length (trimmed rest) == 0 then ready (Ok c) else ready (Err NotTheForm)

-- what the words give, with the rest of the line as a literal, which is not empty
-- (this project's own)
abbrev pub with_literal : Result ((RawGraph → Command) × List ℕ) Refusal → Parsed
with_literal (Err r) = ready (Err r)
with_literal (Ok (f, rest)) =
    if length (trimmed rest) == 0 then ready (Err NotTheForm) else literal (trimmed rest) f

-- what the words give, with the rest of the line as an object stream in hexadecimal
-- (this project's own)
abbrev pub with_stream : Result ((RawGraph → Command) × List ℕ) Refusal → Parsed
with_stream (Err r) = ready (Err r)
with_stream (Ok (f, rest)) = stream (trimmed rest) f

-- what the words give, with the rest of the line as bytes in hexadecimal (this project's own)
abbrev pub with_bytes : Result ((List ℕ → Command) × List ℕ) Refusal → Parsed
with_bytes (Err r) = ready (Err r)
with_bytes (Ok (f, rest)) = bytes (trimmed rest) f

-- a row of words alone: nothing follows them (this project's own)
abbrev pub whole : Reader Command → List ℕ → Parsed
whole reader cs = ended (reader cs)

-- a row that ends in a literal (this project's own)
abbrev pub and_literal : Reader (RawGraph → Command) → List ℕ → Parsed
and_literal reader cs = with_literal (reader cs)

-- a row that ends in an object stream (this project's own)
abbrev pub and_stream : Reader (RawGraph → Command) → List ℕ → Parsed
and_stream reader cs = with_stream (reader cs)

-- a row that ends in bytes (this project's own)
abbrev pub and_bytes : Reader (List ℕ → Command) → List ℕ → Parsed
and_bytes reader cs = with_bytes (reader cs)

-- a row of no words (a word of these definitions)
abbrev pub alone : {A : Type 0} → A → Reader A
alone a cs = Ok (a, cs)

-- symbols, no two of which are one (this project's own)
abbrev pub if_distinct : Result (List (List ℕ) × List ℕ) Refusal
    → Result (List (List ℕ) × List ℕ) Refusal
if_distinct (Err r) = Err r
if_distinct (Ok (names, rest)) =
    if all_apart same_name names then Ok (names, rest) else Err NotTheForm

-- the symbols of a tags declaration (this project's own)
abbrev pub distinct : Reader (List (List ℕ))
distinct cs = if_distinct (several 140_000 symbol cs)

-- the first row where it reads a command, else the second (this project's own)
abbrev pub or_row : Parsed → Parsed → Parsed
or_row (ready (Ok c)) other = ready (Ok c)
or_row _ other = other

-- the two rows of `tags`: the first where nothing follows the soup's name (this project's own)
abbrev pub tags_row : List ℕ → Parsed
tags_row cs =
    or_row
    (whole (of2 unit name command.Tags) cs)
    (whole (of4 unit name (word path_of) distinct command.SetTags) cs)

-- the two rows of `info`: the first where nothing follows the soup's name (this project's own)
abbrev pub info_row : List ℕ → Parsed
info_row cs =
    or_row
    (whole (of2 unit name command.Info) cs)
    (and_literal (of2 unit name (λ u s g. command.SetInfo u s g)) cs)

-- the word that stands for all mounted stores (this project's own)
abbrev pub star : List ℕ → Option ℕ
star w = if bytes_eq w (codes "*") then Some 0 else None

-- a query of all mounted stores after a star, else of the store on a unit (this project's own)
abbrev pub query_by : Result (ℕ × List ℕ) Refusal → List ℕ → Parsed
query_by (Ok (_, rest)) cs = and_literal (of1 name (λ s g. command.QueryAll s g)) rest
query_by (Err _) cs = and_literal (of2 unit name (λ u s g. command.Query u s g)) cs

-- the two rows of `query`: the second where a star stands in place of the unit (this project's own)
abbrev pub query_row : List ℕ → Parsed
query_row cs = query_by (word star cs) cs

-- the first word of a command, and what is read after it (this project's own)
abbrev pub Row : Type 0
Row = List ℕ × (List ℕ → Parsed)

-- the table of commands (this project's own)
abbrev pub rows : List Row
rows =
    (codes "nsof", and_stream (alone command.Nsof))
    ∷ (codes "lit", and_literal (alone command.Lit))
    ∷ (codes "time", whole (of1 number command.Time))
    ∷ (codes "format", whole (of3 unit name sig command.Format))
    ∷ (codes "mount", whole (of1 unit command.Mount))
    ∷ (codes "unmount", whole (of1 unit command.Unmount))
    ∷ (codes "stores", whole (alone command.Stores))
    ∷ (codes "default", whole (of1 unit command.Default))
    ∷ (codes "soup", whole (of2 unit name command.Soup))
    ∷ (codes "soups", whole (of1 unit command.Soups))
    ∷ (codes "drop", whole (of2 unit name command.Drop))
    ∷ (codes "index", whole (of3 unit name (several 4 part) command.Index))
    ∷ (codes "unindex", whole (of3 unit name (several 4 path_of) command.Unindex))
    ∷ (codes "indexes", whole (of2 unit name command.Indexes))
    ∷ (codes "tags", tags_row)
    ∷ (codes "info", info_row)
    ∷ (codes "add", and_literal (of2 unit name (λ u s g. command.Add u s g)))
    ∷ (codes "addx", and_stream (of2 unit name (λ u s g. command.Addx u s g)))
    ∷ (codes "addu", and_literal (of1 name (λ s g. command.Addu s g)))
    ∷ (codes "get", whole (of3 unit name number command.Get))
    ∷ (codes "getx", whole (of3 unit name number command.Getx))
    ∷ (codes "set", and_literal (of4 unit name number (word path_of) (λ u s n p g. command.Set u s n p g)))
    ∷ (codes "change", and_literal (of3 unit name number (λ u s n g. command.Change u s n g)))
    ∷ (codes "remove", whole (of3 unit name number command.Remove))
    ∷ (codes "copy", whole (of5 unit name number unit name command.Copy))
    ∷ (codes "move", whole (of5 unit name number unit name command.Move))
    ∷ (codes "vread", whole (of6 unit name number (word path_of) number len command.Vread))
    ∷ (codes "vwrite", and_bytes (of5 unit name number (word path_of) number (λ u s n p a b. command.Vwrite u s n p a b)))
    ∷ (codes "alias", whole (of3 unit name number command.Alias))
    ∷ (codes "resolve", and_literal (alone command.Resolve))
    ∷ (codes "query", query_row)
    ∷ (codes "entry", whole (of1 cursor command.Entry))
    ∷ (codes "next", whole (of1 cursor command.Next))
    ∷ (codes "prev", whole (of1 cursor command.Prev))
    ∷ (codes "reset", whole (of1 cursor command.Reset))
    ∷ (codes "end", whole (of1 cursor command.End))
    ∷ (codes "moveby", whole (of2 cursor (word signed_value) command.Moveby))
    ∷ (codes "goto", whole (of3 cursor unit number command.Goto))
    ∷ (codes "gotokey", and_literal (of1 cursor (λ c g. command.Gotokey c g)))
    ∷ (codes "count", whole (of1 cursor command.Count))
    ∷ (codes "which", whole (of1 cursor command.Which))
    ∷ (codes "clone", whole (of1 cursor command.Clone))
    ∷ (codes "close", whole (of1 cursor command.Close))
    ∷ (codes "watch", whole (of2 name most command.Watch))
    ∷ (codes "notes", whole (of1 watch command.Notes))
    ∷ (codes "unwatch", whole (of1 watch command.Unwatch))
    ∷ (codes "open", whole (of3 unit name number command.Open))
    ∷ (codes "draft", whole (of1 copy command.Draft))
    ∷ (codes "edit", and_literal (of2 copy (word path_of) (λ n p g. command.Edit n p g)))
    ∷ (codes "save", whole (of1 copy command.Save))
    ∷ (codes "revert", whole (of1 copy command.Revert))
    ∷ (codes "discard", whole (of1 copy command.Discard))
    ∷ (codes "quit", whole (alone command.Quit))
    ∷ []

-- ---- lines

-- the first word of a line, and what follows it (this project's own)
abbrev pub first_word : List ℕ → List ℕ × List ℕ
first_word cs =
    let text = skip_blanks cs in
    let n = prefix_len (λ c. not (is_blank c)) text in
    (take n text, drop n text)

-- a line of blanks alone, or whose first other byte is `%` (this project's own)
abbrev pub says_nothing : List ℕ → Bool
says_nothing cs = elim (skip_blanks cs) [ [] ↦ true | c ∷ _ ↦ c == 37 ]

-- what a row reads; a word without a row is not a command (this project's own)
abbrev pub read_row : Option Row → List ℕ → Parsed
read_row None rest = ready (Err NoCommand)
read_row (Some r) rest = r.1 rest

-- what the row of a word reads (this project's own)
abbrev pub row_of : List ℕ → List ℕ → Parsed
row_of w rest = read_row (find (λ (r : Row). bytes_eq r.0 w) rows) rest

-- a line that is too long is refused before its words are read (this project's own)
abbrev pub within_length : Bool → List ℕ → Parsed
within_length true line = ready (Err Longline)
within_length false line = let w = first_word line in row_of w.0 w.1

-- nothing, or what the words say (this project's own)
abbrev pub if_said : Bool → List ℕ → Option Parsed
if_said true line = None
if_said false line = Some (within_length (nat_lt 140_000 (length line)) line)

-- what a line says; none for a line that gives no command (this project's own)
abbrev pub parsed : List ℕ → Option Parsed
parsed line = if_said (says_nothing line) line
