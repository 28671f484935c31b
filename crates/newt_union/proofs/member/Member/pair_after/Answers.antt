-- After the spot its first pair, on it the next, before it those of greater keys.
use Rattle.std.proofs.Common.{rules}
use Rattle.newt_union.proofs.member.Member.pair_after.Goals as goal

pub returns-in-Less-clause-found : goal.returns-in-Less-clause-found
returns-in-Less-clause-found c = search rules
