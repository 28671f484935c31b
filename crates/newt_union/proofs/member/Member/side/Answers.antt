-- The store decides, then the soup.
use Rattle.std.proofs.Common.{rules}
use Rattle.newt_union.proofs.member.Member.side.Goals as goal

pub returns : goal.returns
returns c = search rules
