use Rattle.newt_spec_nsof.proofs.Wider.{spelled_wider}
use Rattle.newt_spec_nsof.proofs.laws.spelled_is_spelled_widely.Goals as goal

pub returns : goal.returns
returns c = spelled_wider
