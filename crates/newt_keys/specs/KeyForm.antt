-- The keys of a declaration, and the bytes of a key, which order as the keys do (this project's
-- own).
use Rattle.std.specs.Prelude.{◌≡◌, ℕ, suc, zero, ◌+◌, ◌-◌, ◌^◌, ◌<◌, List, [], ◌∷◌, ◌++◌, map, ℤ, pos, negsuc, FitsSigned, All}
use Rattle.std.specs.Int.{w32}
use Rattle.std.specs.Ordering.{nat_cmp}
use Rattle.std.specs.Cmp.Lexicographic.{slice_cmp}
use Rattle.newt_base.specs.Text.{be16, be32}
use Rattle.newt_spec_store.specs.Keys.{Key, IndexSpec, Part, missing, words, whole, letter, name, key_cmp}
use Rattle.newt_spec_store.specs.declared.Kind.{Kind}
use Rattle.newt_spec_store.specs.declared.Kind.TheVariants as kind
use Rattle.newt_spec_store.specs.declared.Order.{Order}
use Rattle.newt_spec_store.specs.declared.Order.TheVariants as order

-- ---- keys of a declaration

-- a part is missing, or a value of its type as large as the code holds (this project's own)
abbrev pub IsPartOf : Kind → Part → Type 0
IsPartOf k missing = Unit {0}
IsPartOf kind.Text (words bytes) = All (λ b. b < 256) bytes
IsPartOf kind.Int (whole n) = FitsSigned w32 n
IsPartOf kind.Char (letter c) = c < 2 ^ 16
IsPartOf kind.Symbol (name bytes) = All (λ b. b < 256) bytes
IsPartOf _ _ = ⊥

-- each part is one of the declaration's type, and there are as many (this project's own)
abbrev pub AreParts : IndexSpec → Key → Type 0
AreParts [] [] = Unit {0}
AreParts (p ∷ ps) (a ∷ as') = IsPartOf p.kind a × AreParts ps as'
AreParts _ _ = ⊥

-- the first part, where there is one, is not missing (this project's own)
abbrev pub IsFirstThere : Key → Type 0
IsFirstThere (missing ∷ _) = ⊥
IsFirstThere _ = Unit {0}

-- a key of a declaration: its parts, the first of which is there; without a declaration the empty
-- key (this project's own)
abbrev pub IsKeyOf : IndexSpec → Key → Type 0
IsKeyOf spec key = AreParts spec key × IsFirstThere key

-- ---- bytes

-- a byte in the direction of its part (this project's own)
abbrev pub turned : Order → ℕ → ℕ
turned order.Ascend b = b
turned order.Descend b = 255 - b

-- a text ends in 0 0, and a 0 in it is 0 1 (this project's own)
abbrev pub text_bytes : List ℕ → List ℕ
text_bytes [] = 0 ∷ 0 ∷ []
text_bytes (zero ∷ bs) = 0 ∷ 1 ∷ text_bytes bs
text_bytes (suc b ∷ bs) = suc b ∷ text_bytes bs

-- the place of an integer among all of 32 bits (this project's own)
abbrev pub place_of : ℤ → ℕ
place_of (pos n) = 2 ^ 31 + n
place_of (negsuc n) = 2 ^ 31 - 1 - n

-- the bytes of a value (this project's own)
abbrev pub value_bytes : Part → List ℕ
value_bytes missing = []
value_bytes (words bytes) = text_bytes bytes
value_bytes (whole n) = be32 (place_of n)
value_bytes (letter c) = be16 c
value_bytes (name bytes) = text_bytes bytes

-- a mark that sets a missing part before all values in both directions, and the value in its
-- direction (this project's own)
abbrev pub part_bytes : Order → Part → List ℕ
part_bytes d missing = 0 ∷ []
part_bytes d a = 1 ∷ map (turned d) (value_bytes a)

-- the bytes of a key: those of its parts in a row (this project's own)
abbrev pub key_bytes : IndexSpec → Key → List ℕ
key_bytes (p ∷ ps) (a ∷ as') = part_bytes p.direction a ++ key_bytes ps as'
key_bytes _ _ = []

-- ---- the law

-- the bytes of two keys of a declaration order as the keys, and where the keys differ, neither's
-- bytes begin the other's (this project's own)
abbrev pub OrderAsKeys : IndexSpec → Type 0
OrderAsKeys spec =
    (a b : Key) → IsKeyOf spec a → IsKeyOf spec b
    → (slice_cmp nat_cmp (key_bytes spec a) (key_bytes spec b) ≡ key_cmp spec a b)
    × ((after : List ℕ) → key_bytes spec a ++ after ≡ key_bytes spec b → a ≡ b)
