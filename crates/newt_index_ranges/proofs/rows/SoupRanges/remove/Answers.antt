-- The entry is taken out of each.
use Rattle.std.proofs.Common.{rules}
use Rattle.newt_index_ranges.proofs.rows.SoupRanges.remove.Goals as goal

pub returns : goal.returns
returns c = search rules
