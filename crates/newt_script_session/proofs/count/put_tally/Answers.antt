use Rattle.newt_script_session.proofs.Counting.{write_memory}
use Rattle.newt_script_session.proofs.Writing.{puts_nothing}
use Rattle.newt_script_session.proofs.count.put_tally.Goals as goal

pub returns-in_default-clause-puts : goal.returns-in_default-clause-puts
returns-in_default-clause-puts g c = λ told. puts_nothing _ _ _

pub returns-in_default-clause-call : goal.returns-in_default-clause-call
returns-in_default-clause-call g c = write_memory _
