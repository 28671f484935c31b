use Rattle.newt_nsof_read.proofs.Decoded as decoded
use Rattle.newt_nsof_read.proofs.laws.compressed_is_spelled_widely.Goals as goal

pub returns : goal.returns
returns c = decoded.compressed_is_spelled_widely
