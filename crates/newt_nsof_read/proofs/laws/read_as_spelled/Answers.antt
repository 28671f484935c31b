use Rattle.newt_nsof_read.proofs.Decoded as decoded
use Rattle.newt_nsof_read.proofs.laws.read_as_spelled.Goals as goal

pub returns : goal.returns
returns c = decoded.read_as_spelled
