use Rattle.std.proofs.Common.{◌≡◌, map, take}
use Rattle.newt_index_ranges.specs.Rows.{no_ranges}
use Rattle.newt_store_indexed.proofs.listing.without_entries.Given as goal

abbrev pub invariant-loop-row : goal.invariant-loop-row
invariant-loop-row l = l.ranges ≡ map (λ row. no_ranges row.sig row.specs row.tags) (take l.row-index l.soups)
