use Rattle.newt_laws_scripts.proofs.Follows.{begins}
use Rattle.newt_laws_scripts.proofs.next.next_runs_begin_there.Goals as goal

pub returns : goal.returns
returns c reads held names u image found few is read = begins reads held names u image found few is read
