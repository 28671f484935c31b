use Rattle.newt_script_session.proofs.Counting.{still-refl, write_ok}
use Rattle.newt_script_session.proofs.Writing.{puts_none}
use Rattle.newt_script_session.proofs.tally.TallySink.take.Goals as goal

pub returns-clause-puts : goal.returns-clause-puts
returns-clause-puts g c = λ told. puts_none _ _

pub returns-clause-call : goal.returns-clause-call
returns-clause-call g c = write_ok (still-refl _ _)
