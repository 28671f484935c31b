-- Words on lists: what holds of their elements, as facts and as tests that compute.
use Rattle.std.specs.Prelude.{◌≡◌, ℕ, ◌+◌, Bool, true, not, ◌&&◌, nat_lt, nat_le, List, [], ◌∷◌, ⊤, ◌⊎◌}
use Rattle.std.specs.List.{list_any}

-- the fact holds of each element (a word of these definitions)
abbrev pub Each : {X : Type 0} → (X → Type 0) → List X → Type 0
Each P [] = ⊤
Each P (x ∷ xs) = P x × Each P xs

-- the fact holds of each element and each one after it (a word of these definitions)
abbrev pub Pairs : {X : Type 0} → (X → X → Type 0) → List X → Type 0
Pairs R [] = ⊤
Pairs R (x ∷ xs) = Each (R x) xs × Pairs R xs

-- the list has this element (a word of these definitions)
abbrev pub Among : {X : Type 0} → List X → X → Type 0
Among [] z = ⊥
Among (x ∷ xs) z = (x ≡ z) ⊎ Among xs z

-- ---- tests that compute

-- no two elements agree (a word of these definitions)
abbrev pub all_apart : {X : Type 0} → (X → X → Bool) → List X → Bool
all_apart same [] = true
all_apart same (x ∷ xs) = not (list_any (same x) xs) && all_apart same xs

-- each number is above the one before it, and all are at least `low` and below `high` (a word of
-- these definitions)
abbrev pub rises : ℕ → ℕ → List ℕ → Bool
rises low high [] = true
rises low high (n ∷ ns) = nat_le low n && nat_lt n high && rises (n + 1) high ns
