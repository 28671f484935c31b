use Rattle.newt_spec_nsof.proofs.WrittenSpelled.{written_spells}
use Rattle.newt_spec_nsof.proofs.laws.written_is_spelled.Goals as goal

pub returns : goal.returns
returns c = written_spells
