-- The generated script, and its summary. This project's own.
use Rattle.std.specs.Prelude.{ℕ, zero, suc, ◌+◌, ◌*◌, ◌/◌, ◌%◌, ◌^◌, Bool, ◌==◌, List, [], ◌∷◌}
use Rattle.std.specs.Prelude.{◌++◌, flat_map, length, codes, count_by, sum_by, replicate}
use Rattle.std.specs.Prelude.{if◌then◌else◌}
use Rattle.std.specs.List.{starts_with, enumerate_from}
use Rattle.std.specs.Prelude.{nat_eq}
use Rattle.newt_base.specs.Text.{decimal_text}

-- the next state of the generator (this project's own)
abbrev pub next_state : ℕ → ℕ
next_state x = (1_103_515_245 * x + 12_345) % 2 ^ 31

-- so many numbers drawn after this state (a word of these definitions)
abbrev pub drawn : ℕ → ℕ → List ℕ
drawn zero x = []
drawn (suc n) x = let y = next_state x in y / 65_536 ∷ drawn n y

-- a line with its end (a word of these definitions)
abbrev pub line : List ℕ → List ℕ
line text = text ++ 10 ∷ []

-- the line of the i-th entry, from the number drawn for it (this project's own)
abbrev pub add_line : ℕ × ℕ → List ℕ
add_line (i, q) =
    line (codes "add 0 Names {name: {first: \"F" ++ decimal_text (q % 90)
    ++ codes "\", last: \"L" ++ decimal_text (q % 1000)
    ++ codes "\"}, labels: '" ++ (if q % 2 == 0 then codes "business" else codes "personal")
    ++ codes ", n: " ++ decimal_text i ++ codes "}")

-- the script of a seed and a count of entries (this project's own)
abbrev pub gen_script : ℕ → ℕ → List ℕ
gen_script seed count =
    flat_map (λ text. line (codes text))
    ("format 0 Gen 1" ∷ "mount 0" ∷ "soup 0 Names" ∷ "index 0 Names name.last:string:ascend"
    ∷ "tags 0 Names labels business personal" ∷ [])
    ++ flat_map add_line (enumerate_from 0 (drawn count (seed % 2 ^ 31)))
    ++ line (codes "query 0 Names {indexPath: [pathExpr: 'name, 'last]}") ++ line (codes "entry 0")
    ++ flat_map line (replicate count (codes "next 0")) ++ line (codes "count 0")
    ++ line (codes "unmount 0") ++ line (codes "quit")

-- ---- the summary of the replies

-- the text begins with the word (a word of these definitions)
abbrev pub begins : List ℕ → List ℕ → Bool
begins word text = starts_with nat_eq text word

-- a word and a number (this project's own)
abbrev pub summary_line : List ℕ → ℕ → List ℕ
summary_line word n = line (word ++ 32 ∷ decimal_text n)

-- the four lines for the texts of all replies (this project's own)
abbrev pub summary : List (List ℕ) → List ℕ
summary texts =
    summary_line (codes "commands") (length texts)
    ++ summary_line (codes "ok") (count_by (begins (codes "ok")) texts)
    ++ summary_line (codes "errors") (count_by (begins (codes "error")) texts)
    ++ summary_line (codes "bytes") (sum_by length texts)
