use Rattle.newt_script_session.proofs.Counting.{read_err, read_ok}
use Rattle.newt_script_session.proofs.pieces.read_piece.Goals as goal

pub returns-in-Ok-clause-call : goal.returns-in-Ok-clause-call
returns-in-Ok-clause-call g c = read_ok _ _ _ _ _ c.in-Ok.ensures.took c.in-Ok.ensures.call

pub returns-in-Err-clause-call : goal.returns-in-Err-clause-call
returns-in-Err-clause-call g c = read_err _ _ _ c.in-Err.ensures.failed.1 c.in-Err.ensures.call
