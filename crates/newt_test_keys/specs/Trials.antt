-- What the tests declare.
use Rattle.std.specs.Prelude.{[], ◌∷◌}
use Rattle.newt_spec_store.specs.Keys.{IndexSpec}
use Rattle.newt_spec_store.specs.declared.Kind.TheVariants as kind
use Rattle.newt_spec_store.specs.declared.Order.{Order}

-- the integers at the path `a` (a word of these definitions)
abbrev pub integers : Order → IndexSpec
integers order = record { path = (97 ∷ []) ∷ []; kind = kind.Int; direction = order } ∷ []
