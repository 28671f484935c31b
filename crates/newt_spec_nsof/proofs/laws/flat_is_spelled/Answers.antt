use Rattle.newt_spec_nsof.proofs.Spelled.{flat_spells}
use Rattle.newt_spec_nsof.proofs.laws.flat_is_spelled.Goals as goal

pub returns : goal.returns
returns c = flat_spells
