-- The two ways along the hits of a query. All of it is this project's own.
use Rattle.std.specs.Prelude.{Bool, true, false, List, Option}
use Rattle.newt_spec_store.specs.Keys.{IndexSpec}
use Rattle.newt_spec_query.specs.Hits.{Hit}
use Rattle.newt_spec_query.specs.Cursor.{Place, start, finish, first_place, last_place, next_place, previous_place}
use Rattle.newt_spec_world.specs.Changed.{Step}
use Rattle.newt_index.specs.Pairs.{first, last}
use Rattle.newt_union.specs.Merged.{Member, after, before}
use Rattle.newt_engine_hits.specs.declared.ways.Way.{Way}
use Rattle.newt_engine_hits.specs.declared.ways.Way.TheVariants.{On, Back}

-- the hit that the way meets first (a word of these definitions)
abbrev pub met : Way → List Hit → Option Hit
met On hs = first hs
met Back hs = last hs

-- the hit of some soups that the way meets next after another (a word of these definitions)
abbrev pub beyond : Way → IndexSpec → List Member → Hit → Option Hit
beyond On index ms at = after index ms at
beyond Back index ms at = before index ms at

-- where the way begins (a word of these definitions)
abbrev pub outset : Way → Place
outset On = start
outset Back = finish

-- where the way ends (a word of these definitions)
abbrev pub edge : Way → Place
edge On = finish
edge Back = start

-- on the hit that the way meets first, else where it ends (a word of these definitions)
abbrev pub outermost : Way → List Hit → Place
outermost On hs = first_place hs
outermost Back hs = last_place hs

-- one step on the way (a word of these definitions)
abbrev pub stepping : Way → Step
stepping On hs index place = next_place hs index place
stepping Back hs index place = previous_place hs index place

-- the place is where the way ends (a word of these definitions)
abbrev pub is_at_edge : Way → Place → Bool
is_at_edge On finish = true
is_at_edge Back start = true
is_at_edge _ _ = false
