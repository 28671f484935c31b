-- Steps among the hits that are kept, taken from steps among all hits.
use Rattle.std.specs.Prelude.{ℕ, ◌+◌, Bool, List, filter, length, Option, Some, None, cond}
use Rattle.newt_spec_store.specs.Keys.{IndexSpec}
use Rattle.newt_spec_query.specs.Hits.{Hit}
use Rattle.newt_spec_query.specs.Cursor.{Place, on, is_after, is_before}

-- Where a walk is after it came to a hit: on it where it is kept, else where the walk goes on to
-- from there. Where there is no hit, it is `elsewhere`. (this project's own)
abbrev pub walked : (Hit → Bool) → Place → (Place → Place) → Option Hit → Place
walked keep elsewhere go_on None = elsewhere
walked keep elsewhere go_on (Some h) = cond (keep h) (on h) (go_on (on h))

-- How many hits a walk counts after it came to a hit: this one where it is kept, and those that it
-- counts from there. None where there is no hit. (this project's own)
abbrev pub counted : (Hit → Bool) → (Place → ℕ) → Option Hit → ℕ
counted keep go_on None = 0
counted keep go_on (Some h) = cond (keep h) 1 0 + go_on (on h)

-- how many hits stand after a place (a word of these definitions)
abbrev pub count_after : IndexSpec → List Hit → Place → ℕ
count_after index hs place = length (filter (is_after index place) hs)

-- how many hits stand before a place (a word of these definitions)
abbrev pub count_before : IndexSpec → List Hit → Place → ℕ
count_before index hs place = length (filter (is_before index place) hs)
