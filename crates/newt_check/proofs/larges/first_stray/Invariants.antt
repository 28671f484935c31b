use Rattle.std.proofs.Common.{◌≡◌, ℕ, List, find, drop}
use Rattle.newt_check.specs.Seen.{AreCounts, is_stray_id}
use Rattle.newt_check.proofs.larges.first_stray.Given as goal

abbrev pub invariant-loop-id : goal.invariant-loop-id
invariant-loop-id l = (names : List ℕ) → AreCounts names l.counts → find (is_stray_id names) l.ids ≡ find (is_stray_id names) (drop l.id-index l.ids)
