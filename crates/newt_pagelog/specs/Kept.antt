-- The pages that a book keeps in memory.
use Rattle.std.specs.Prelude.{◌≡◌, ℕ, ◌+◌, ◌*◌, ◌<◌, Bool, true, false, cond, ◌||◌, List, [], ◌∷◌, length, nat_eq, Option, Some, refl}
use Rattle.std.proofs.Common.{sym, ◌∙◌, ap}
use Rattle.std.specs.Cmp.{nat_cmp_total, unsigned_tied}
use Rattle.newt_pagebook.proofs.Tests.{the_some}
use Rattle.std.specs.Map.{lookup, keys_of}
use Rattle.std.specs.Option.{option_and_then, is_some}
use Rattle.std.specs.List.{filter, IsDistinct}
use Rattle.std.specs.Ordering.{nat_cmp, eq_by_cmp}
use Rattle.std.specs.FinMap as map
use Rattle.std.specs.FinSet as set
use Rattle.newt_spec_image.specs.Pages.{Pages, Change}
use Rattle.newt_pagebook.specs.Book.{Numbers}

abbrev pub Entries : Type 0
Entries = List (ℕ × List ℕ)

-- the page of a number
abbrev pub page_in : Entries → ℕ → Option (List ℕ)
page_in entries number = lookup (nat_eq number) entries

-- all of them as one finite map, and their numbers
abbrev pub map_of : Entries → Pages
map_of entries = map.from_entries entries

abbrev pub numbers_in : {V : Type 0} → List (ℕ × V) → Numbers
numbers_in entries = set.from_list (keys_of entries)

-- each of them is a page number
abbrev pub ArePageNumbers : Numbers → Type 0
ArePageNumbers numbers = (number : ℕ) → set.contains numbers number ≡ true → number < 65536

-- the page at hand, if one is
abbrev pub shown_in : Entries → Option ℕ → Option (List ℕ)
shown_in entries at = option_and_then (page_in entries) at

-- What holds of them: each number stands once, they are fewer than there are page numbers, have page numbers, and are whole pages.
pub record AreSound (entries : Entries) : Type 0 where
  pub unique : IsDistinct nat_eq (keys_of entries)
  pub few : length entries < 65536
  pub small : (number : ℕ) (page : List ℕ) → page_in entries number ≡ Some page → number < 65536
  pub whole : (number : ℕ) (page : List ℕ) → page_in entries number ≡ Some page → length page ≡ 512

-- something is kept under the number
abbrev pub is_kept : {V : Type 0} → List (ℕ × V) → ℕ → Bool
is_kept entries number = is_some (lookup (nat_eq number) entries)

-- a change without the deletes of pages that are not there
abbrev pub needed : {V : Type 0} → List (ℕ × V) → Change → Change
needed entries change = record { puts = change.puts; deletes = filter (is_kept entries) change.deletes }

-- the bytes of a payload that says a change
abbrev pub payload_bytes : Change → ℕ
payload_bytes change = 4 + 516 * length change.puts + 4 * length change.deletes

-- the change that puts all pages
abbrev pub all_of : Entries → Change
all_of entries = record { puts = entries; deletes = [] }

-- the map has the same pages
pub find_in : (q : ℕ) (es : Entries) → map.find nat_cmp q es ≡ page_in es q
find_in q [] = refl
find_in q (e ∷ es) = λ i. cond (unsigned_tied q e.0 i) (Some e.1) (find_in q es i)

pub get_map : (es : Entries) (q : ℕ) → map.get (map_of es) q ≡ page_in es q
get_map es q = map.get-from_entries nat_cmp_total es q ∙ find_in q es

some_or : {V : Type 0} (b : Bool) (x : V) (o : Option V) → is_some (cond b (Some x) o) ≡ (b || is_some o)
some_or true x o = refl
some_or false x o = refl

-- and the numbers are those of the map
pub named_in : (es : Entries) (q : ℕ) → map.contains_key (map_of es) q ≡ set.contains (numbers_in es) q
named_in [] q = ap is_some (map.get-empty nat_cmp q) ∙ sym (set.contains-empty nat_cmp q)
named_in (e ∷ es) q = ap is_some (map.get-insert nat_cmp_total (map.from_entries es) e.0 e.1 q) ∙ some_or (eq_by_cmp nat_cmp q e.0) e.1 (map.get (map.from_entries es) q)
    ∙ ap (λ (b : Bool). eq_by_cmp nat_cmp q e.0 || b) (named_in es q) ∙ sym (set.contains-insert nat_cmp_total (set.from_list (keys_of es)) e.0 q)

pub kept_number : {V : Type 0} (es : List (ℕ × V)) (q : ℕ) → set.contains (numbers_in es) q ≡ is_kept es q
kept_number [] q = set.contains-empty nat_cmp q
kept_number (e ∷ es) q = set.contains-insert nat_cmp_total (set.from_list (keys_of es)) e.0 q ∙ (λ i. unsigned_tied q e.0 i || kept_number es q i) ∙ sym (some_or (nat_eq q e.0) e.1 (lookup (nat_eq q) es))

-- so the numbers are page numbers
pub small_with : (entries : Entries) → AreSound entries → ArePageNumbers (numbers_in entries)
small_with entries sound number is = let page = the_some (page_in entries number) (sym (kept_number entries number) ∙ is) in sound.small number page.0 page.1
