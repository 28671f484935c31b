-- Names in quotes, byte by byte.
use Rattle.std.specs.Prelude.{ℕ, List, [], ◌∷◌, ◌++◌, Option, Some, None}
use Rattle.newt_spec_script.specs.Words.{quoted}

-- what is read after some bytes of a quoted text
abbrev pub with_start : List ℕ → Option (List ℕ × List ℕ) → Option (List ℕ × List ℕ)
with_start front None = None
with_start front (Some q) = Some (front ++ q.0, q.1)

-- what a quoted text gives that begins with a byte, or with the closing quote
abbrev pub goes_on : Option ℕ → List ℕ → Option (List ℕ × List ℕ)
goes_on None rest = Some ([], rest)
goes_on (Some byte) rest = with_start (byte ∷ []) (quoted rest)
