-- The next id is one more.
use Rattle.std.proofs.Common.{rules}
use Rattle.newt_soupdir.proofs.changes.take_next.Goals as goal

pub returns-clause-taken : goal.returns-clause-taken
returns-clause-taken c = search rules
