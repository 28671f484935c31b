use Rattle.newt_script_session.proofs.Counting.{write_call}
use Rattle.newt_script_session.proofs.Writing.{prints_either}
use Rattle.newt_script_session.proofs.write.write_part.Goals as goal

pub returns-clause-prints : goal.returns-clause-prints
returns-clause-prints g c = λ told. prints_either c.write_out.result c.args.bytes.now _ _ (c.write_out.ensures.wrote told) (c.write_out.ensures.failed told)

pub returns-clause-call : goal.returns-clause-call
returns-clause-call g c = write_call c.write_out.result c.args.bytes.now _ _
    (λ told. prints_either c.write_out.result c.args.bytes.now _ _ (c.write_out.ensures.wrote told) (c.write_out.ensures.failed told)) c.write_out.ensures.call
