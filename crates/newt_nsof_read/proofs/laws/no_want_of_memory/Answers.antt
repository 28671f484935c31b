use Rattle.newt_nsof_read.proofs.Decoded as decoded
use Rattle.newt_nsof_read.proofs.laws.no_want_of_memory.Goals as goal

pub returns : goal.returns
returns c = decoded.no_want_of_memory
