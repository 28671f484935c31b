-- Cursors, worked by hand: the order of hits, and where a cursor stands after each move.
use Rattle.std.proofs.Common.{◌≡◌, refl, ℕ, List, [], ◌∷◌, map, codes, Some, None, pos, negsuc}
use Rattle.std.specs.declared.cmp.Ordering.{Ordering}
use Rattle.std.specs.declared.cmp.Ordering.TheVariants.{Less, Equal, Greater}
use Rattle.newt_spec_store.specs.declared.Kind.TheVariants as kind
use Rattle.newt_spec_store.specs.declared.Order.{Order}
use Rattle.newt_spec_store.specs.declared.Order.TheVariants as order
use Rattle.newt_spec_store.specs.Keys.{IndexSpec, whole}
use Rattle.newt_spec_query.specs.Hits.{Hit, hit_cmp}
use Rattle.newt_spec_query.specs.Cursor.{start, finish, on, first_place, last_place, hit_at, moved, next_place, place_at_key, previous_place, settled}

abbrev by_number : Order → IndexSpec
by_number direction = record { path = codes "k" ∷ []; kind = kind.Int; direction = direction } ∷ []

abbrev rising : IndexSpec
rising = by_number order.Ascend

-- a hit with an integer as its key
abbrev hit : (key store soup uid : ℕ) → Hit
hit key store soup uid = record { key = whole (pos key) ∷ []; store = store; soup = soup; uid = uid }

-- ---- the order of hits

abbrev compared : Order → Hit × Hit → Ordering
compared direction (a, b) = hit_cmp (by_number direction) a b

-- by key, then by the signature of the store, that of the soup, and the id
order_of_hits : map (compared order.Ascend) ((hit 1 9 9 9, hit 2 1 1 1) ∷ (hit 5 1 9 9, hit 5 2 1 1) ∷ (hit 5 1 1 9, hit 5 1 2 1) ∷ (hit 5 1 1 1, hit 5 1 1 2) ∷ (hit 5 1 1 1, hit 5 1 1 1) ∷ (hit 5 2 1 1, hit 5 1 9 9) ∷ [])
    ≡ Less ∷ Less ∷ Less ∷ Less ∷ Equal ∷ Greater ∷ []
order_of_hits = refl

-- where the keys fall, all else rises as before
order_of_falling_hits : map (compared order.Descend) ((hit 1 9 9 9, hit 2 1 1 1) ∷ (hit 5 1 9 9, hit 5 2 1 1) ∷ (hit 5 1 1 9, hit 5 1 2 1) ∷ (hit 5 1 1 1, hit 5 1 1 2) ∷ [])
    ≡ Greater ∷ Less ∷ Less ∷ Less ∷ []
order_of_falling_hits = refl

-- ---- places

abbrev first : Hit
first = hit 10 7 0 1

abbrev second : Hit
second = hit 20 7 0 2

abbrev third : Hit
third = hit 30 7 0 3

abbrev three : List Hit
three = first ∷ second ∷ third ∷ []

ends : map first_place (three ∷ [] ∷ []) ≡ on first ∷ finish ∷ []
ends = refl

other_ends : map last_place (three ∷ [] ∷ []) ≡ on third ∷ start ∷ []
other_ends = refl

-- Entry 9 is not among the hits: its place is by its key, and then by its id.
next : map (next_place three rising) (start ∷ on first ∷ on second ∷ on third ∷ finish ∷ on (hit 20 7 0 9) ∷ on (hit 20 7 0 0) ∷ on (hit 30 7 0 9) ∷ [])
    ≡ on first ∷ on second ∷ on third ∷ finish ∷ finish ∷ on third ∷ on second ∷ finish ∷ []
next = refl

previous : map (previous_place three rising) (finish ∷ on third ∷ on second ∷ on first ∷ start ∷ on (hit 20 7 0 9) ∷ on (hit 20 7 0 0) ∷ on (hit 10 7 0 0) ∷ [])
    ≡ on third ∷ on second ∷ on first ∷ start ∷ start ∷ on second ∷ on first ∷ start ∷ []
previous = refl

steps : map (λ n. moved n three rising (on second)) (pos 0 ∷ pos 1 ∷ pos 2 ∷ pos 9 ∷ negsuc 0 ∷ negsuc 1 ∷ negsuc 8 ∷ [])
    ≡ on second ∷ on third ∷ finish ∷ finish ∷ on first ∷ start ∷ start ∷ []
steps = refl

steps_from_an_end : map (λ n. moved n three rising start) (pos 3 ∷ pos 4 ∷ negsuc 0 ∷ []) ≡ on third ∷ finish ∷ start ∷ []
steps_from_an_end = refl

at_keys : map (λ n. place_at_key three rising (whole (pos n) ∷ [])) (0 ∷ 10 ∷ 11 ∷ 20 ∷ 30 ∷ 31 ∷ []) ≡ on first ∷ on first ∷ on second ∷ on second ∷ on third ∷ finish ∷ []
at_keys = refl

-- the keys 30, 20 and 10 of a falling index
at_falling_keys : map (λ n. place_at_key (third ∷ second ∷ first ∷ []) (by_number order.Descend) (whole (pos n) ∷ [])) (31 ∷ 20 ∷ 19 ∷ 9 ∷ []) ≡ on third ∷ on second ∷ on first ∷ finish ∷ []
at_falling_keys = refl

-- An entry is the same by its store, its soup and its id; its place takes its present key, and
-- every other place stays.
settling : map (settled three) (on (hit 99 7 0 2) ∷ on (hit 20 7 0 9) ∷ on (hit 20 7 1 2) ∷ on (hit 20 8 0 2) ∷ start ∷ finish ∷ [])
    ≡ on second ∷ on (hit 20 7 0 9) ∷ on (hit 20 7 1 2) ∷ on (hit 20 8 0 2) ∷ start ∷ finish ∷ []
settling = refl

hits_at : map (hit_at three) (on (hit 99 7 0 2) ∷ on (hit 20 7 0 9) ∷ start ∷ finish ∷ []) ≡ Some second ∷ None ∷ None ∷ None ∷ []
hits_at = refl
