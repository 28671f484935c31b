-- The places that a query has.
use Rattle.newt_spec_store.specs.Keys.{IndexSpec}
use Rattle.newt_spec_query.specs.Cursor.{Place, on}
use Rattle.newt_keys.specs.KeyForm.{IsKeyOf}

-- a place on a hit has a key of the declaration (this project's own)
abbrev pub PlaceFits : IndexSpec → Place → Type 0
PlaceFits index (on hit) = IsKeyOf index hit.key
PlaceFits index place = Unit {0}
