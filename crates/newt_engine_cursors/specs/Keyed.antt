-- Where a cursor stands, and the key that it takes.
use Rattle.std.specs.Prelude.{ℕ, zero, suc, List, [], ◌∷◌, map, Option, Some, None, cond, option_map}
use Rattle.std.specs.Borrow.{Bor}
use Rattle.newt_spec_store.specs.Keys.{Key}
use Rattle.newt_spec_query.specs.Hits.{Query, Hit}
use Rattle.newt_spec_query.specs.Cursor.{Cursor, start, finish, on, hit_at}
use Rattle.newt_spec_world.specs.World.{World, hits_of}
use Rattle.newt_laws_reach.specs.Reach.{Reach, is_reached, settle_where}
use Rattle.newt_cursor.specs.Desk.{keyed}
use Rattle.newt_cursor.specs.Seen.{query_of, place_of}
use Rattle.newt_cursor.specs.declared.query.Query as code
use Rattle.newt_cursor.specs.declared.place.Place as codes

-- a query and a place that are lent, as a cursor (a word of these definitions)
abbrev pub seen_cursor : Bor code.Query × Bor codes.Place → Cursor
seen_cursor x = record { query = query_of x.0.now; place = place_of x.1.now }

-- the query and the hit of a cursor that stands on one (a word of these definitions)
abbrev pub stands_on : Cursor → Option (Query × Hit)
stands_on k = elim k.place [ start ↦ None | finish ↦ None | on h ↦ Some (k.query, h) ]

-- the present key of the entry on which a cursor stands; none where it is on no entry, or its entry is no hit (this project's own)
abbrev pub key_now : World → Cursor → Option Key
key_now w k = option_map (λ h. h.key) (hit_at (hits_of w k.query) k.place)

-- the same where the entry is reached (this project's own)
abbrev pub key_where : Reach → World → Cursor → Option Key
key_where r w k = cond (is_reached r k.place) (key_now w k) None

-- a cursor that takes a key, if there is one (a word of these definitions)
abbrev pub given : Option Key → Cursor → Cursor
given None k = k
given (Some key) k = keyed key k

-- the cursors from a place on changed (a word of these definitions)
abbrev pub change_from : ℕ → (Cursor → Cursor) → List (Option Cursor) → List (Option Cursor)
change_from zero f cursors = map (option_map f) cursors
change_from (suc n) f [] = []
change_from (suc n) f (c ∷ cursors) = c ∷ change_from n f cursors

-- each cursor from a place on that is on an entry that is reached is settled (this project's own)
abbrev pub settled_from : Reach → ℕ → World → World
settled_from r n w = record w { cursors = change_from n (settle_where r w) w.cursors }
