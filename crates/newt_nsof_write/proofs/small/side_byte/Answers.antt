-- The byte of an integer from 0 to 255, and that it fits.
use Rattle.std.proofs.Common.{rules}
use Rattle.newt_nsof_write.proofs.small.side_byte.Goals as goal

pub overflow_cast-result : goal.overflow_cast-result
overflow_cast-result c = search rules

pub returns-in-Imm : goal.returns-in-Imm
returns-in-Imm c = search rules
