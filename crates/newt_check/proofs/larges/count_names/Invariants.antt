use Rattle.std.proofs.Common.{ℕ, List, ◌++◌, take}
use Rattle.newt_store_catalog.specs.Opening.{objects_named}
use Rattle.newt_check.specs.Seen.{AreCounts}
use Rattle.newt_check.proofs.larges.count_names.Given as goal

abbrev pub invariant-loop-row : goal.invariant-loop-row
invariant-loop-row l = (names : List ℕ) → AreCounts names l.fn.counts → AreCounts (names ++ objects_named (take l.row-index l.rows)) l.counts
