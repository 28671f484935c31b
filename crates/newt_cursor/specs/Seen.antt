-- How the definition sees the queries, places and cursors of the code.
use Rattle.std.specs.Prelude.{ℕ, Option, Some, None, List, map, option_map}
use Rattle.newt_spec_query.specs.Hits as hits
use Rattle.newt_spec_query.specs.Cursor as spec
use Rattle.newt_index.specs.Spots.{spot_hit}
use Rattle.newt_cursor.specs.declared.query.Scope.{Scope}
use Rattle.newt_cursor.specs.declared.query.Scope.TheVariants.{One, All}
use Rattle.newt_cursor.specs.declared.query.Query.{Query}
use Rattle.newt_cursor.specs.declared.place.Place.{Place}
use Rattle.newt_cursor.specs.declared.place.Place.TheVariants.{Start, Finish, On}
use Rattle.newt_cursor.specs.declared.desk.Cursor.{Cursor}

-- the signature of a scope's store; none for all stores (a word of these definitions)
abbrev pub scope_of : Scope → Option ℕ
scope_of (One sig) = Some sig
scope_of All = None

-- a query of the code, as the definition has it (a word of these definitions)
abbrev pub query_of : Query → hits.Query
query_of q = record { scope = scope_of q.scope; name = q.name; spec = q.spec }

-- a place of the code, as the definition has it (a word of these definitions)
abbrev pub place_of : Place → spec.Place
place_of Start = spec.start
place_of Finish = spec.finish
place_of (On spot) = spec.on (spot_hit spot)

-- a cursor of the code, as the definition has it (a word of these definitions)
abbrev pub cursor_of : Cursor → spec.Cursor
cursor_of k = record { query = query_of k.query.value; place = place_of k.place }

-- all places for cursors (a word of these definitions)
abbrev pub cursors_of : List (Option Cursor) → List (Option spec.Cursor)
cursors_of cursors = map (option_map cursor_of) cursors
