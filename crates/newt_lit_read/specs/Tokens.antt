-- Tokens from left to right: a value and the characters after it, or none.
use Rattle.std.specs.Prelude.{ℕ, zero, suc, ◌+◌, ◌*◌, ◌%◌, ◌&&◌, ◌||◌, ◌==◌, nat_lt, nat_le, List, [], ◌∷◌, ◌++◌, length, take, drop, replicate, Option, Some, None, if◌then◌else◌, ℤ, pos, neg_ℤ, codes, bytes_eq}
use Rattle.std.specs.Int.{w32, cast_signed}
use Rattle.std.specs.List.{list_all}
use Rattle.std.specs.Char.{is_ascii_hexdigit}
use Rattle.newt_base.specs.Names.{is_identifier}
use Rattle.newt_graph.specs.Limits.{most_data}
use Rattle.newt_graph.specs.Steps.{◌>>=◌}
use Rattle.newt_spec_literal.specs.Words.{skip, word_len, is_number, number, hex_number, is_barred, is_shown, is_label, is_count}

-- the first character, and what follows it
abbrev pub first_of : List ℕ → Option (ℕ × List ℕ)
first_of [] = None
first_of (c ∷ rest) = Some (c, rest)

-- the rest of a text whose first character is this one
abbrev pub after_mark : ℕ → Option (ℕ × List ℕ) → Option (List ℕ)
after_mark c None = None
after_mark c (Some mark) = if mark.0 == c then Some mark.1 else None

-- the first character after blanks, and what follows it
abbrev pub mark_at : List ℕ → Option (ℕ × List ℕ)
mark_at text = first_of (skip text)

-- ---- words

-- the word in front of a text, and what follows it
abbrev pub word_at : List ℕ → List ℕ × List ℕ
word_at text = (take (word_len text) text, drop (word_len text) text)

-- the immediate that a word stands for
unfoldable pub word_value : List ℕ → Option ℤ
word_value word =
    if bytes_eq word (codes "nil") then Some (pos 2)
    else if bytes_eq word (codes "true") then Some (pos 26)
    else if is_number word && nat_le (number word) 536_870_911 then Some (pos (4 * number word))
    else None

-- `nil`, `true` or an integer
abbrev pub plain_at : List ℕ → Option (ℤ × List ℕ)
plain_at text = word_value (word_at text).0 >>= λ w. Some (w, (word_at text).1)

-- an integer, after its '-'
unfoldable pub negative_at : List ℕ → Option (ℤ × List ℕ)
negative_at text = if is_number (word_at text).0 && nat_le (number (word_at text).0) 536_870_912 then Some (neg_ℤ (pos (4 * number (word_at text).0)), (word_at text).1) else None

-- a label's number, the mark after it, and the rest
unfoldable pub label_at : List ℕ → Option (ℕ × ℕ × List ℕ)
label_at text = if is_label (word_at text).0 then (first_of (word_at text).1 >>= λ m. Some (number (word_at text).0, m.0, m.1)) else None

-- ---- hexadecimal digits

-- so many hexadecimal digits
unfoldable pub hex_at : ℕ → List ℕ → Option (ℕ × List ℕ)
hex_at count text = if nat_lt (length text) count then None else if list_all is_ascii_hexdigit (take count text) then Some (hex_number (take count text), drop count text) else None

-- an immediate by its word, after its '&'
unfoldable pub code_word_at : List ℕ → Option (ℤ × List ℕ)
code_word_at text = hex_at 8 text >>= λ n. if n.0 % 4 == 1 then None else Some (cast_signed w32 n.0, n.1)

-- a character, after its '$'
unfoldable pub character_at : List ℕ → Option (ℤ × List ℕ)
character_at [] = None
character_at (c ∷ rest) = if c == 92 then (hex_at 4 rest >>= λ n. Some (pos (16 * n.0 + 6), n.1)) else if is_shown c then Some (pos (16 * c + 6), rest) else None

-- ---- pieces up to a closing mark

-- reads the next piece: its code, or none after the closing mark, and the rest
abbrev pub Next : Type 0
Next = List ℕ → Option (Option ℕ × List ℕ)

-- the values of a piece and of those after it
abbrev pub after_next : (ℕ → List ℕ) → (List ℕ → Option (List ℕ × List ℕ)) → Option ℕ × List ℕ → Option (List ℕ × List ℕ)
after_next value more (None, rest) = Some ([], rest)
after_next value more (Some code, rest) = more rest >>= λ u. Some (value code ++ u.0, u.1)

-- The values of all pieces. Each piece takes at least one character, so as many turns as there are
-- characters are enough.
unfoldable pub pieces_at : (ℕ → List ℕ) → Next → ℕ → List ℕ → Option (List ℕ × List ℕ)
pieces_at value next zero text = None
pieces_at value next (suc turns) text = next text >>= after_next value (pieces_at value next turns)

-- a code as its own value
abbrev pub single : ℕ → List ℕ
single n = n ∷ []

-- a code that was read, as the next piece
abbrev pub piece : Option (ℕ × List ℕ) → Option (Option ℕ × List ℕ)
piece read = read >>= λ p. Some (Some p.0, p.1)

-- the byte after a backslash in a name
abbrev pub escaped_in_name : List ℕ → Option (ℕ × List ℕ)
escaped_in_name [] = None
escaped_in_name (c ∷ rest) = if (c == 124) || (c == 92) then Some (c, rest) else None

-- the next byte of a name
unfoldable pub next_in_name : Next
next_in_name [] = None
next_in_name (c ∷ rest) = if c == 124 then Some (None, rest) else if c == 92 then piece (escaped_in_name rest) else if is_barred c then Some (Some c, rest) else None

-- the code after a backslash in a string
abbrev pub escaped_in_string : List ℕ → Option (ℕ × List ℕ)
escaped_in_string [] = None
escaped_in_string (c ∷ rest) = if (c == 34) || (c == 92) then Some (c, rest) else if c == 117 then hex_at 4 rest else None

-- the next character of a string
unfoldable pub next_in_string : Next
next_in_string [] = None
next_in_string (c ∷ rest) = if c == 34 then Some (None, rest) else if c == 92 then piece (escaped_in_string rest) else if nat_lt c 32 then None else if nat_le c 1_114_111 then Some (Some c, rest) else None

-- the next byte in hexadecimal
unfoldable pub next_byte : Next
next_byte [] = None
next_byte (c ∷ rest) = if c == 62 then Some (None, rest) else piece (hex_at 2 (c ∷ rest))

-- ---- names

-- an identifier
abbrev pub identifier_at : List ℕ → Option (List ℕ × List ℕ)
identifier_at text = if is_identifier (word_at text).0 then Some (word_at text) else None

-- a name, after its opening bar
unfoldable pub barred_at : List ℕ → Option (List ℕ × List ℕ)
barred_at text = pieces_at single next_in_name (length text) text >>= λ n. if nat_lt 0 (length n.0) && nat_lt (length n.0) 255 then Some n else None

-- a name: an identifier, or between bars
unfoldable pub name_at : List ℕ → Option (List ℕ × List ℕ)
name_at [] = None
name_at (c ∷ rest) = if c == 124 then barred_at rest else identifier_at (c ∷ rest)

-- the name, where a colon follows it
abbrev pub if_colon : List ℕ → Option (ℕ × List ℕ) → Option (List ℕ × List ℕ)
if_colon name None = None
if_colon name (Some mark) = if mark.0 == 58 then Some (name, mark.1) else None

-- a name and its colon
unfoldable pub tag_at : List ℕ → Option (List ℕ × List ℕ)
tag_at text = name_at (skip text) >>= λ name. if_colon name.0 (mark_at name.1)

-- ---- bytes

-- bytes in hexadecimal, up to a closing angle bracket
abbrev pub bytes_at : List ℕ → Option (List ℕ × List ℕ)
bytes_at text = pieces_at single next_byte (length text) text

-- a count of zero bytes, after its '*', up to a closing angle bracket
unfoldable pub zeros_at : List ℕ → Option (List ℕ × List ℕ)
zeros_at text = if is_count (word_at text).0 && nat_le (number (word_at text).0) most_data then (after_mark 62 (first_of (word_at text).1) >>= λ rest. Some (replicate (number (word_at text).0) 0, rest)) else None

-- the bytes of a large binary
unfoldable pub large_bytes_at : List ℕ → Option (List ℕ × List ℕ)
large_bytes_at [] = None
large_bytes_at (c ∷ rest) = if c == 42 then zeros_at rest else bytes_at (c ∷ rest)
