-- The entry is taken out, and put in anew.
use Rattle.std.proofs.Common.{rules}
use Rattle.newt_index_ranges.proofs.rows.SoupRanges.replace.Goals as goal

pub returns : goal.returns
returns c = search rules
