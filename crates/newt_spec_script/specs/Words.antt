-- The words of a line, and the readers of them. The forms are this project's own.
use Rattle.std.specs.Prelude.{ℕ, ◌+◌, ◌-◌, Bool, true, false, not, ◌&&◌, ◌||◌, ◌==◌, nat_le, List}
use Rattle.std.specs.Prelude.{[], ◌∷◌, length, reverse, take, filter, map, Option, Some, None}
use Rattle.std.specs.Prelude.{option_map, option_and_then, Result, Ok, Err, if◌then◌else◌, codes}
use Rattle.std.specs.Prelude.{bytes_eq, drop}
use Rattle.std.specs.List.{list_all, prefix_len}
use Rattle.newt_base.specs.declared.Refusal.{Refusal}
use Rattle.newt_base.specs.declared.Refusal.TheVariants.{Line as NotTheForm}
use Rattle.newt_base.specs.Names.{is_name, is_identifier, needs_quotes}
use Rattle.newt_base.specs.Text.{below, digits_value}
use Rattle.newt_spec_store.specs.declared.Kind.{Kind}
use Rattle.newt_spec_store.specs.declared.Kind.TheVariants as kind
use Rattle.newt_spec_store.specs.declared.Order.{Order}
use Rattle.newt_spec_store.specs.declared.Order.TheVariants as order
use Rattle.newt_path.specs.Names.{path_of}
use Rattle.newt_spec_world.specs.declared.command.PartWord.{PartWord}

-- a space or a tab (this project's own)
abbrev pub is_blank : ℕ → Bool
is_blank c = (c == 32) || (c == 9)

-- a text from its first byte on that is not a blank (a word of these definitions)
abbrev pub skip_blanks : List ℕ → List ℕ
skip_blanks cs = drop (prefix_len is_blank cs) cs

-- a text without the blanks at its ends (a word of these definitions)
abbrev pub trimmed : List ℕ → List ℕ
trimmed cs = reverse (skip_blanks (reverse (skip_blanks cs)))

-- ---- readers: a value from the front of a text, and the rest, or why not

-- reads a value from the front of a text: the value and the rest, or why not
-- (a word of these definitions)
abbrev pub Reader : Type 0 → Type 0
Reader A = List ℕ → Result (A × List ℕ) Refusal

-- goes on with the value and the rest (a word of these definitions)
abbrev pub then_read : {A B : Type 0} → Result (A × List ℕ) Refusal
    → (A → List ℕ → Result (B × List ℕ) Refusal) → Result (B × List ℕ) Refusal
then_read (Err r) f = Err r
then_read (Ok x) f = f x.0 x.1

-- one reader, and what is made of its value; the words below it read more, one after another
-- (a word of these definitions)
abbrev pub of1 : {A R : Type 0} → Reader A → (A → R) → Reader R
of1 p f cs = then_read (p cs) (λ a rest. Ok (f a, rest))

-- two readers in a row (a word of these definitions)
abbrev pub of2 : {A B R : Type 0} → Reader A → Reader B → (A → B → R) → Reader R
of2 p q f cs = then_read (p cs) (λ a. of1 q (f a))

-- three readers (a word of these definitions)
abbrev pub of3 : {A B C R : Type 0} → Reader A → Reader B → Reader C → (A → B → C → R) → Reader R
of3 p q r f cs = then_read (p cs) (λ a. of2 q r (f a))

-- four readers (a word of these definitions)
abbrev pub of4 : {A B C D R : Type 0} → Reader A → Reader B → Reader C → Reader D
    → (A → B → C → D → R) → Reader R
of4 p q r s f cs = then_read (p cs) (λ a. of3 q r s (f a))

-- five readers (a word of these definitions)
abbrev pub of5 : {A B C D E R : Type 0} → Reader A → Reader B → Reader C → Reader D → Reader E
    → (A → B → C → D → E → R) → Reader R
of5 p q r s t f cs = then_read (p cs) (λ a. of4 q r s t (f a))

-- six readers (a word of these definitions)
abbrev pub of6 : {A B C D E F R : Type 0} → Reader A → Reader B → Reader C → Reader D → Reader E
    → Reader F → (A → B → C → D → E → F → R) → Reader R
of6 p q r s t u f cs = then_read (p cs) (λ a. of5 q r s t u (f a))

-- the value, or the refusal of a line that does not have the form (a word of these definitions)
abbrev pub or_not_the_form : {A : Type 0} → Option A → List ℕ → Result (A × List ℕ) Refusal
or_not_the_form None rest = Err NotTheForm
or_not_the_form (Some a) rest = Ok (a, rest)

-- the next word, where it has the form (this project's own)
abbrev pub word : {A : Type 0} → (List ℕ → Option A) → Reader A
word form cs =
    let text = skip_blanks cs in
    let n = prefix_len (λ c. not (is_blank c)) text in
    or_not_the_form (if n == 0 then None else form (take n text)) (drop n text)

-- ---- numbers

-- one to ten digits with a value of at most this (this project's own)
abbrev pub decimal_to : ℕ → List ℕ → Option ℕ
decimal_to most cs = below (most + 1) (digits_value cs)

-- the value where it passes the test (a word of these definitions)
abbrev pub only : {A : Type 0} → (A → Bool) → A → Option A
only test a = if test a then Some a else None

-- one to ten digits with a value from 1 to this (this project's own)
abbrev pub one_to : ℕ → List ℕ → Option ℕ
one_to most cs = option_and_then (only (nat_le 1)) (decimal_to most cs)

-- a unit: one digit from 0 to 7 (this project's own)
abbrev pub unit_digit : List ℕ → Option ℕ
unit_digit (c ∷ []) = if nat_le 48 c && nat_le c 55 then Some (c - 48) else None
unit_digit _ = None

-- ---- names

-- a name without quotes: no space, no quote and no backslash in it (this project's own)
abbrev pub bare_name : List ℕ → Option (List ℕ)
bare_name = only (λ cs. is_name cs && list_all (λ c. not (needs_quotes c)) cs)

-- The text up to the closing quote, and what follows it. A backslash stands only before a quote or
-- a backslash, and is dropped. (this project's own)
abbrev pub quoted : List ℕ → Option (List ℕ × List ℕ)
quoted [] = None
quoted (c ∷ []) = if c == 34 then Some ([], []) else None
quoted (c ∷ d ∷ cs) = elim (c == 34) [
  | true ↦ Some ([], d ∷ cs)
  | false ↦ elim (c == 92) [
    | true ↦ if (d == 34) || (d == 92) then onto d (quoted cs) else None
    | false ↦ onto c (quoted (d ∷ cs))
  ]
]
  where
    onto : ℕ → Option (List ℕ × List ℕ) → Option (List ℕ × List ℕ)
    onto x None = None
    onto x (Some q) = Some (x ∷ q.0, q.1)

-- a blank or the end of the line (this project's own)
abbrev pub ends_word : List ℕ → Bool
ends_word [] = true
ends_word (c ∷ cs) = is_blank c

-- a quoted text that is a name, where the word ends after it (this project's own)
abbrev pub if_name : Option (List ℕ × List ℕ) → Result (List ℕ × List ℕ) Refusal
if_name None = Err NotTheForm
if_name (Some q) = if is_name q.0 && ends_word q.1 then Ok q else Err NotTheForm

-- a name from its first byte on: in quotes, or bare (this project's own)
abbrev pub name_from : List ℕ → Result (List ℕ × List ℕ) Refusal
name_from [] = Err NotTheForm
name_from (c ∷ rest) = if c == 34 then if_name (quoted rest) else word bare_name (c ∷ rest)

-- the name of a store or a soup, bare or in quotes (this project's own)
abbrev pub name : Reader (List ℕ)
name cs = name_from (skip_blanks cs)

-- ---- paths and parts

-- the pieces between the marks (a word of these definitions)
abbrev pub split_at : ℕ → List ℕ → List (List ℕ)
split_at mark [] = [] ∷ []
split_at mark (c ∷ cs) =
    elim (c == mark) [ true ↦ [] ∷ split_at mark cs | false ↦ onto c (split_at mark cs) ]
  where
    onto : ℕ → List (List ℕ) → List (List ℕ)
    onto x [] = (x ∷ []) ∷ []
    onto x (p ∷ ps) = (x ∷ p) ∷ ps

-- a type; the word `real` is read, and gives none (this project's own)
abbrev pub kind_word : List ℕ → Option (Option Kind)
kind_word cs =
    if bytes_eq cs (codes "string") then Some (Some kind.Text)
    else if bytes_eq cs (codes "int") then Some (Some kind.Int)
    else if bytes_eq cs (codes "char") then Some (Some kind.Char)
    else if bytes_eq cs (codes "symbol") then Some (Some kind.Symbol)
    else if bytes_eq cs (codes "real") then Some None else None

-- a direction (this project's own)
abbrev pub order_word : List ℕ → Option Order
order_word cs =
    if bytes_eq cs (codes "ascend") then Some order.Ascend
    else if bytes_eq cs (codes "descend") then Some order.Descend else None

-- a part of an index of three pieces: path, type and direction (this project's own)
abbrev pub part_of : List (List ℕ) → Option PartWord
part_of (p ∷ k ∷ d ∷ []) =
    option_and_then (λ a. option_and_then (λ b.
    option_map (λ c. record { path = a; kind = b; order = c }) (order_word d))
    (kind_word k)) (path_of p)
part_of _ = None

-- a part of an index: its pieces have colons between them (this project's own)
abbrev pub part : List ℕ → Option PartWord
part cs = part_of (split_at 58 cs)

-- the rest of a line as words (this project's own)
abbrev pub words : List ℕ → List (List ℕ)
words cs = filter (λ w. not (length w == 0)) (split_at 32 (map (λ c. if c == 9 then 32 else c) cs))

-- the values of words that all have the form (a word of these definitions)
abbrev pub all_words : {A : Type 0} → (List ℕ → Option A) → List (List ℕ) → Option (List A)
all_words form [] = Some []
all_words form (w ∷ ws) =
    option_and_then (λ a. option_map (λ as'. a ∷ as') (all_words form ws)) (form w)

-- one or more words to the end of the line, at most so many (this project's own)
abbrev pub several : {A : Type 0} → ℕ → (List ℕ → Option A) → Reader (List A)
several most form cs =
    let ws = words cs in
    or_not_the_form
    (if nat_le 1 (length ws) && nat_le (length ws) most then all_words form ws else None) []

-- an identifier of at most 254 bytes (this project's own)
abbrev pub symbol : List ℕ → Option (List ℕ)
symbol = only is_identifier
