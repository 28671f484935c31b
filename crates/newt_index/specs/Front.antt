-- The number by which the bytes of keys are compared first.
use Rattle.std.specs.Prelude.{ℕ, zero, suc, ◌+◌, ◌*◌, List, get_or}

-- the number that the first bytes are up to a place, with zeros after the last (a word of these
-- definitions)
abbrev pub number_to : ℕ → List ℕ → ℕ
number_to zero bytes = get_or bytes 0 0
number_to (suc at) bytes = number_to at bytes * 256 + get_or bytes (suc at) 0

-- the number that the first eight bytes are, with zeros after the last (this project's own)
abbrev pub front_of : List ℕ → ℕ
front_of bytes = number_to 7 bytes
