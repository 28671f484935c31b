-- A store put together from its directory and its entries.
use Rattle.std.specs.Prelude.{ℕ, ◌==◌, List, [], ◌∷◌, cond}
use Rattle.newt_spec_store.specs.Store.{Entry, Soup, Store}

-- the entries at the front of a list that are of the soup of this signature
abbrev pub own : ℕ → List (ℕ × Entry) → List Entry
own sig [] = []
own sig (x ∷ xs) = cond (x.0 == sig) (x.1 ∷ own sig xs) []

-- and the entries after them
abbrev pub others : ℕ → List (ℕ × Entry) → List (ℕ × Entry)
others sig [] = []
others sig (x ∷ xs) = cond (x.0 == sig) (others sig xs) (x ∷ xs)

-- soups with the entries of a list, each with those that come next
abbrev pub with_own : List Soup → List (ℕ × Entry) → List Soup
with_own [] xs = []
with_own (p ∷ ps) xs = record p { entries = own p.sig xs } ∷ with_own ps (others p.sig xs)

-- the entries that no soup takes
abbrev pub left_over : List Soup → List (ℕ × Entry) → List (ℕ × Entry)
left_over [] xs = xs
left_over (p ∷ ps) xs = left_over ps (others p.sig xs)

-- a directory with these entries
abbrev pub together : Store → List (ℕ × Entry) → Store
together d xs = record d { soups = with_own d.soups xs }
