use Rattle.std.proofs.Common.{◌≡◌, fold, map, take, None}
use Rattle.std.specs.Prelude.{option_map}
use Rattle.newt_spec_store.specs.Keys.{Key}
use Rattle.newt_union.specs.Candidates.{at_or_after_in, with_lesser}
use Rattle.newt_union.specs.Seen.{shown, seen_place, HaveProbe}
use Rattle.newt_union.proofs.searches.at_or_after_of.Given as goal

abbrev pub invariant-loop-place : goal.invariant-loop-place
invariant-loop-place l = record {
  found : (key : Key) → HaveProbe key l.fn.probe l.places → option_map shown l.least ≡ fold (with_lesser (at_or_after_in key)) None (map seen_place (take l.place-index l.places));
  kept : l.probe ≡ l.fn.probe;
}
