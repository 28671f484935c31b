use Rattle.newt_nsof_read.proofs.Decoded as decoded
use Rattle.newt_nsof_read.proofs.laws.malformed_is_unspelled.Goals as goal

pub returns : goal.returns
returns c = decoded.malformed_is_unspelled
