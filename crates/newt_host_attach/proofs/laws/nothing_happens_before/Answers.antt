use Rattle.newt_host_attach.proofs.Since.{since_attached}
use Rattle.newt_host_attach.proofs.laws.nothing_happens_before.Goals as goal

pub returns : goal.returns
returns c = since_attached
