use Rattle.std.proofs.Common.{◌≡◌, ◌-◌, ◌^◌, length, min, take}
use Rattle.std.specs.List.{sum_by}
use Rattle.std.specs.Prelude.{Option}
use Rattle.newt_union.specs.declared.member.Member.{Member}
use Rattle.newt_union.specs.Seen.{seen_place}
use Rattle.newt_union.proofs.searches.count_of.Given as goal

abbrev pub invariant-loop-place : goal.invariant-loop-place
invariant-loop-place l = l.count ≡ min (2 ^ 64 - 1) (sum_by (λ (p : Option Member). length (seen_place p).range.pairs) (take l.place-index l.places))
