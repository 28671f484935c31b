use Rattle.std.proofs.Common.{◌≡◌, fold, map, take, None}
use Rattle.std.specs.Prelude.{option_map}
use Rattle.newt_union.specs.Candidates.{first_in, with_lesser}
use Rattle.newt_union.specs.Seen.{shown, seen_place}
use Rattle.newt_union.proofs.searches.first_of.Given as goal

abbrev pub invariant-loop-place : goal.invariant-loop-place
invariant-loop-place l = option_map shown l.least ≡ fold (with_lesser first_in) None (map seen_place (take l.place-index l.places))
