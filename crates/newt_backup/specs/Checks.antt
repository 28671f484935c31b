-- Whether a directory and entries are a store, tested soup by soup.
use Rattle.std.specs.Prelude.{ℕ, ◌+◌, Bool, true, false, ◌==◌, ◌&&◌, nat_le, nat_lt, List, [], ◌∷◌, Option, Some, None, if◌then◌else◌}
use Rattle.newt_spec_store.specs.Store.{Entry, Soup}
use Rattle.newt_spec_store.specs.Valid.{valid_entry}

-- an entry may be one of a soup whose entries so far are below `low`
abbrev pub may_follow : ℕ → ℕ → Entry → Bool
may_follow low next e = nat_le low e.uid && nat_lt e.uid next && valid_entry e

-- the entries that are left after those of a soup at the front, where these may be its entries
abbrev pub after : ℕ → ℕ → ℕ → List (ℕ × Entry) → Option (List (ℕ × Entry))
after sig next low [] = Some []
after sig next low (x ∷ xs) = if x.0 == sig then (if may_follow low next x.1 then after sig next (x.1.uid + 1) xs else None) else Some (x ∷ xs)

-- what is left, tested
abbrev pub if_left : (List (ℕ × Entry) → Bool) → Option (List (ℕ × Entry)) → Bool
if_left test None = false
if_left test (Some xs) = test xs

-- a list has no elements
abbrev pub is_nil : {X : Type 0} → List X → Bool
is_nil [] = true
is_nil (x ∷ xs) = false

-- the entries are those of the soups in their order
abbrev pub are_of : List Soup → List (ℕ × Entry) → Bool
are_of [] xs = is_nil xs
are_of (p ∷ ps) xs = if_left (are_of ps) (after p.sig p.next_uid 0 xs)
