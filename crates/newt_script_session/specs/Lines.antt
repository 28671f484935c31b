-- A text cut into lines at each byte 10.
use Rattle.std.specs.Prelude.{◌≡◌, ◌≢◌, ℕ, ◌<◌, List, [], ◌∷◌, ◌++◌, ◌==◌, length, slice_index, if◌then◌else◌}

-- the lines that end in a text which goes on with a line begun before, without their ends
unfoldable pub ended_lines : (begun text : List ℕ) → List (List ℕ)
ended_lines begun [] = []
ended_lines begun (b ∷ rest) = if b == 10 then begun ∷ ended_lines [] rest else ended_lines (begun ++ b ∷ []) rest

-- the line that the text leaves begun
unfoldable pub unended : (begun text : List ℕ) → List ℕ
unended begun [] = begun
unended begun (b ∷ rest) = if b == 10 then unended [] rest else unended (begun ++ b ∷ []) rest

-- a line, unless it is empty
unfoldable pub last_line : List ℕ → List (List ℕ)
last_line [] = []
last_line (b ∷ rest) = (b ∷ rest) ∷ []

-- the lines that ended, and what follows the last of them where it is not empty
abbrev pub lines_of : List ℕ → List (List ℕ)
lines_of text = ended_lines [] text ++ last_line (unended [] text)

-- no line ends in the text
abbrev pub HasNoEnd : List ℕ → Type 0
HasNoEnd text = (k : ℕ) → k < length text → slice_index text k ≢ 10

-- The text begins with this line and its end, and goes on with more.
pub record BeginsWith (text line more : List ℕ) : Type 0 where
  pub whole : text ≡ line ++ 10 ∷ more
  pub no_end : HasNoEnd line
