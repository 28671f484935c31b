-- A large binary has the bytes of its list.
use Rattle.std.proofs.Common.{rules}
use Rattle.newt_nsof_write.proofs.lengths.large_len.Goals as goal

pub returns-in-Large : goal.returns-in-Large
returns-in-Large c = search rules
