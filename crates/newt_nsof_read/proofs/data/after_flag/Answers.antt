-- After a flag that is not 0 nothing is read, unless the grammar is wide.
use Rattle.std.proofs.Common.{rules}
use Rattle.newt_nsof_read.specs.Reading.{after_flag}
use Rattle.newt_nsof_read.proofs.data.after_flag.Goals as goal

pub returns-else-flag-eq0 : goal.returns-else-flag-eq0
unfolding after_flag
returns-else-flag-eq0 c = search rules
