-- An end that is excluded is not above itself.
use Rattle.std.proofs.Common.{rules}
use Rattle.newt_query.proofs.bounds.is_above.Goals as goal

pub returns-in-Excluded : goal.returns-in-Excluded
returns-in-Excluded c = search rules
