use Rattle.newt_host.proofs.Histories.{begins}
use Rattle.newt_host.proofs.laws.attach_begins.Goals as goal

pub returns : goal.returns
returns c unit name old new attaches = begins unit name old new attaches
