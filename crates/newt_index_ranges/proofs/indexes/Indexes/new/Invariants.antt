use Rattle.std.proofs.Common.{◌≡◌, map, take, Some}
use Rattle.newt_index_ranges.specs.Rows.{no_pairs}
use Rattle.newt_index_ranges.proofs.indexes.Indexes.new.Given as goal

abbrev pub invariant-loop-spec : goal.invariant-loop-spec
invariant-loop-spec l = l.items.items ≡ map (λ d. no_pairs (Some d)) (take l.spec-index l.specs)
