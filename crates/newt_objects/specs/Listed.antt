-- The ids of objects, listed.
use Rattle.std.specs.Prelude.{ℕ, ◌+◌, List, [], ◌∷◌, Some, None}
use Rattle.newt_spec_image.specs.Objects.{Table}
use Rattle.newt_objects.specs.Extents.{IsNextIn}

-- each is the least id that has an object, from a number on or after the one before; after the last there is none
abbrev pub AreNexts : Table → ℕ → List ℕ → Type 0
AreNexts table from [] = IsNextIn table from None
AreNexts table from (id ∷ ids) = IsNextIn table from (Some id) × AreNexts table (id + 1) ids
