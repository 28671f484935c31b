use Rattle.newt_nsof_read.proofs.Decoded as decoded
use Rattle.newt_nsof_read.proofs.laws.flat_is_read_again.Goals as goal

pub returns : goal.returns
returns c = decoded.flat_is_read_again
