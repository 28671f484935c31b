use Rattle.std.proofs.Common.{◌≡◌, fold, map, take, None}
use Rattle.std.specs.Prelude.{option_map}
use Rattle.newt_index.specs.Spots.{spot_hit}
use Rattle.newt_union.specs.Candidates.{before_in, with_greater}
use Rattle.newt_union.specs.Seen.{shown, seen_place}
use Rattle.newt_union.proofs.searches.before_of.Given as goal

abbrev pub invariant-loop-place : goal.invariant-loop-place
invariant-loop-place l = record {
  found : option_map shown l.greatest ≡ fold (with_greater (before_in (spot_hit l.spot))) None (map seen_place (take l.place-index l.places));
  kept : l.probe ≡ l.fn.probe;
}
