use Rattle.newt_host.proofs.Extending.{prints-each}
use Rattle.newt_host.proofs.laws.print_is_each_prefix.Goals as goal

pub returns : goal.returns
returns c bytes old = prints-each bytes old
