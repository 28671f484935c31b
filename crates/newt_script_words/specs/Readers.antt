-- What the readers of words read: those of the definition, under names that stay closed in proofs.
use Rattle.std.specs.Prelude.{ℕ, ℤ, Bool, ◌==◌, List, length}
use Rattle.newt_base.specs.Text.{signed_value}
use Rattle.newt_path.specs.Names.{path_of}
use Rattle.newt_spec_script.specs.Words.{Reader, of2, of3, word, name, trimmed}
use Rattle.newt_spec_script.specs.Line.{unit, number, sig, len, cursor, most, watch, copy, star}

-- U
unfoldable pub unit_of : Reader ℕ
unit_of = unit

-- UID, T and AT
unfoldable pub number_of : Reader ℕ
number_of = number

-- SIG
unfoldable pub sig_of : Reader ℕ
sig_of = sig

-- LEN
unfoldable pub length_of : Reader ℕ
length_of = len

-- C
unfoldable pub cursor_of : Reader ℕ
cursor_of = cursor

-- LIMIT of a watch
unfoldable pub most_of : Reader ℕ
most_of = most

-- W of a watch
unfoldable pub watch_of : Reader ℕ
watch_of = watch

-- W of a working copy
unfoldable pub copy_of : Reader ℕ
copy_of = copy

-- K
unfoldable pub steps_of : Reader ℤ
steps_of = word signed_value

-- the word that stands for all mounted stores
unfoldable pub star_of : Reader ℕ
star_of = word star

-- PATH
unfoldable pub path_word : Reader (List (List ℕ))
path_word = word path_of

-- S and NAME
unfoldable pub name_of : Reader (List ℕ)
name_of = name

-- U S
unfoldable pub soup_of : Reader (ℕ × List ℕ)
soup_of = of2 unit_of name_of (λ u s. (u, s))

-- U S UID
unfoldable pub entry_of : Reader (ℕ × List ℕ × ℕ)
entry_of = of3 unit_of name_of number_of (λ u s uid. (u, s, uid))

-- the rest of a line, without the blanks at its ends
unfoldable pub rest_of : List ℕ → List ℕ
rest_of = trimmed

-- nothing but blanks is left
unfoldable pub is_ended : List ℕ → Bool
is_ended rest = length (rest_of rest) == 0
