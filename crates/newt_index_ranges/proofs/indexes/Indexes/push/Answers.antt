-- The range is the last.
use Rattle.std.proofs.Common.{rules}
use Rattle.newt_index_ranges.proofs.indexes.Indexes.push.Goals as goal

pub returns-clause-ok : goal.returns-clause-ok
returns-clause-ok c = search rules
