-- The last test of a count is that of the most bytes.
use Rattle.std.proofs.Common.{rules}
use Rattle.newt_nsof_read.proofs.data.is_text_count.Goals as goal

pub returns-then-count-ge2 : goal.returns-then-count-ge2
returns-then-count-ge2 c = search rules
