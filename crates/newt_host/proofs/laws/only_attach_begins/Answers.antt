use Rattle.newt_host.proofs.Histories.{attached-printed}
use Rattle.newt_host.proofs.laws.only_attach_begins.Goals as goal

pub returns-clause-prints : goal.returns-clause-prints
returns-clause-prints c unit bytes old = attached-printed unit bytes old
