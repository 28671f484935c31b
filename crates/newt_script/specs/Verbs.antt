-- The words of commands, and the commands that they begin.
use Rattle.std.specs.Prelude.{ℕ, Bool, List, [], ◌∷◌, codes, bytes_eq}
use Rattle.std.specs.List.{list_any}
use Rattle.newt_spec_world.specs.declared.command.Command.{Command}
use Rattle.newt_spec_world.specs.declared.command.Command.TheVariants as command
use Rattle.newt_script.specs.declared.verbs.Verb.{Verb}
use Rattle.newt_script.specs.declared.verbs.Verb.TheVariants as verb
use Rattle.newt_script.specs.declared.verbs.UnitVerb.{UnitVerb}
use Rattle.newt_script.specs.declared.verbs.UnitVerb.TheVariants as unit_verb
use Rattle.newt_script.specs.declared.verbs.SoupVerb.{SoupVerb}
use Rattle.newt_script.specs.declared.verbs.SoupVerb.TheVariants as soup_verb
use Rattle.newt_script.specs.declared.verbs.EntryVerb.{EntryVerb}
use Rattle.newt_script.specs.declared.verbs.EntryVerb.TheVariants as entry_verb
use Rattle.newt_script.specs.declared.verbs.TransferVerb.{TransferVerb}
use Rattle.newt_script.specs.declared.verbs.TransferVerb.TheVariants as transfer_verb
use Rattle.newt_script.specs.declared.verbs.CursorVerb.{CursorVerb}
use Rattle.newt_script.specs.declared.verbs.CursorVerb.TheVariants as cursor_verb
use Rattle.newt_script.specs.declared.verbs.WatchVerb.{WatchVerb}
use Rattle.newt_script.specs.declared.verbs.WatchVerb.TheVariants as watch_verb
use Rattle.newt_script.specs.declared.verbs.CopyVerb.{CopyVerb}
use Rattle.newt_script.specs.declared.verbs.CopyVerb.TheVariants as copy_verb

-- ---- the verbs that are followed by the same words

-- followed by U
abbrev pub unit_word : UnitVerb → List ℕ
unit_word unit_verb.Mount = codes "mount"
unit_word unit_verb.Unmount = codes "unmount"
unit_word unit_verb.Default = codes "default"
unit_word unit_verb.Soups = codes "soups"

-- the commands that these begin
abbrev pub unit_command : UnitVerb → ℕ → Command
unit_command unit_verb.Mount u = command.Mount u
unit_command unit_verb.Unmount u = command.Unmount u
unit_command unit_verb.Default u = command.Default u
unit_command unit_verb.Soups u = command.Soups u

-- followed by U S
abbrev pub soup_word : SoupVerb → List ℕ
soup_word soup_verb.Soup = codes "soup"
soup_word soup_verb.Drop = codes "drop"
soup_word soup_verb.Indexes = codes "indexes"

-- the commands that these begin
abbrev pub soup_command : SoupVerb → ℕ → List ℕ → Command
soup_command soup_verb.Soup u s = command.Soup u s
soup_command soup_verb.Drop u s = command.Drop u s
soup_command soup_verb.Indexes u s = command.Indexes u s

-- followed by U S UID
abbrev pub entry_word : EntryVerb → List ℕ
entry_word entry_verb.Get = codes "get"
entry_word entry_verb.Getx = codes "getx"
entry_word entry_verb.Remove = codes "remove"
entry_word entry_verb.Alias = codes "alias"
entry_word entry_verb.Open = codes "open"

-- the commands that these begin
abbrev pub entry_command : EntryVerb → ℕ → List ℕ → ℕ → Command
entry_command entry_verb.Get u s uid = command.Get u s uid
entry_command entry_verb.Getx u s uid = command.Getx u s uid
entry_command entry_verb.Remove u s uid = command.Remove u s uid
entry_command entry_verb.Alias u s uid = command.Alias u s uid
entry_command entry_verb.Open u s uid = command.Open u s uid

-- followed by U S UID U S
abbrev pub transfer_word : TransferVerb → List ℕ
transfer_word transfer_verb.Copy = codes "copy"
transfer_word transfer_verb.Move = codes "move"

-- the commands that these begin
abbrev pub transfer_command : TransferVerb → ℕ → List ℕ → ℕ → ℕ → List ℕ → Command
transfer_command transfer_verb.Copy u s uid v q = command.Copy u s uid v q
transfer_command transfer_verb.Move u s uid v q = command.Move u s uid v q

-- followed by C
abbrev pub cursor_word : CursorVerb → List ℕ
cursor_word cursor_verb.Entry = codes "entry"
cursor_word cursor_verb.Next = codes "next"
cursor_word cursor_verb.Prev = codes "prev"
cursor_word cursor_verb.Reset = codes "reset"
cursor_word cursor_verb.End = codes "end"
cursor_word cursor_verb.Count = codes "count"
cursor_word cursor_verb.Which = codes "which"
cursor_word cursor_verb.Clone = codes "clone"
cursor_word cursor_verb.Close = codes "close"

-- the commands that these begin
abbrev pub cursor_command : CursorVerb → ℕ → Command
cursor_command cursor_verb.Entry c = command.Entry c
cursor_command cursor_verb.Next c = command.Next c
cursor_command cursor_verb.Prev c = command.Prev c
cursor_command cursor_verb.Reset c = command.Reset c
cursor_command cursor_verb.End c = command.End c
cursor_command cursor_verb.Count c = command.Count c
cursor_command cursor_verb.Which c = command.Which c
cursor_command cursor_verb.Clone c = command.Clone c
cursor_command cursor_verb.Close c = command.Close c

-- followed by the number of a watch
abbrev pub watch_word : WatchVerb → List ℕ
watch_word watch_verb.Notes = codes "notes"
watch_word watch_verb.Unwatch = codes "unwatch"

-- the commands that these begin
abbrev pub watch_command : WatchVerb → ℕ → Command
watch_command watch_verb.Notes n = command.Notes n
watch_command watch_verb.Unwatch n = command.Unwatch n

-- followed by the number of a working copy
abbrev pub copy_word : CopyVerb → List ℕ
copy_word copy_verb.Draft = codes "draft"
copy_word copy_verb.Save = codes "save"
copy_word copy_verb.Revert = codes "revert"
copy_word copy_verb.Discard = codes "discard"

-- the commands that these begin
abbrev pub copy_command : CopyVerb → ℕ → Command
copy_command copy_verb.Draft n = command.Draft n
copy_command copy_verb.Save n = command.Save n
copy_command copy_verb.Revert n = command.Revert n
copy_command copy_verb.Discard n = command.Discard n

-- ---- all of them

-- the word of a verb
abbrev pub word_of : Verb → List ℕ
word_of verb.Quit = codes "quit"
word_of verb.Stores = codes "stores"
word_of verb.Time = codes "time"
word_of verb.Nsof = codes "nsof"
word_of verb.Lit = codes "lit"
word_of verb.Resolve = codes "resolve"
word_of verb.Format = codes "format"
word_of verb.Add = codes "add"
word_of verb.Addx = codes "addx"
word_of verb.Addu = codes "addu"
word_of verb.Set = codes "set"
word_of verb.Change = codes "change"
word_of verb.Vread = codes "vread"
word_of verb.Vwrite = codes "vwrite"
word_of verb.Index = codes "index"
word_of verb.Unindex = codes "unindex"
word_of verb.Tags = codes "tags"
word_of verb.Info = codes "info"
word_of verb.Query = codes "query"
word_of verb.Moveby = codes "moveby"
word_of verb.Goto = codes "goto"
word_of verb.Gotokey = codes "gotokey"
word_of verb.Watch = codes "watch"
word_of verb.Edit = codes "edit"
word_of (verb.Unit v) = unit_word v
word_of (verb.Soup v) = soup_word v
word_of (verb.Entry v) = entry_word v
word_of (verb.Transfer v) = transfer_word v
word_of (verb.Cursor v) = cursor_word v
word_of (verb.OfWatch v) = watch_word v
word_of (verb.OfCopy v) = copy_word v

-- the words of the commands that hold a name, a path, a list, a graph or bytes; the rows of all
-- other words take no memory
abbrev pub memory_words : List (List ℕ)
memory_words =
    codes "nsof" ∷ codes "lit" ∷ codes "format" ∷ codes "soup" ∷ codes "drop" ∷ codes "query"
    ∷ codes "gotokey" ∷ codes "add" ∷ codes "addx" ∷ codes "addu" ∷ codes "get" ∷ codes "getx"
    ∷ codes "set" ∷ codes "change" ∷ codes "remove"
    ∷ codes "copy" ∷ codes "move" ∷ codes "alias" ∷ codes "resolve" ∷ codes "vread" ∷ codes "vwrite"
    ∷ codes "index" ∷ codes "unindex" ∷ codes "indexes" ∷ codes "tags" ∷ codes "info"
    ∷ codes "watch" ∷ codes "open" ∷ codes "edit" ∷ []

-- the word is one of these
abbrev pub is_memory_word : List ℕ → Bool
is_memory_word word = list_any (bytes_eq word) memory_words
