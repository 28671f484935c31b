use Rattle.newt_soupdir.proofs.Sifted.{is_found, is_bad}
use Rattle.newt_soupdir.proofs.read.read_directory.Goals as goal

pub returns-clause-found : goal.returns-clause-found
returns-clause-found c = is_found c.args.version c.args.bytes.now c.whole.result c.whole.ensures

pub returns-clause-bad : goal.returns-clause-bad
returns-clause-bad c = is_bad c.args.version c.args.bytes.now c.whole.result c.whole.ensures
