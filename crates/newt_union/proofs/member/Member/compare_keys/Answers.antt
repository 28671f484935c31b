-- Without an index all keys are equal.
use Rattle.std.proofs.Common.{rules}
use Rattle.newt_union.proofs.member.Member.compare_keys.Goals as goal

pub returns-in-None : goal.returns-in-None
returns-in-None c = search rules
