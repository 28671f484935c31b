use Rattle.newt_laws_images.proofs.Alone.{among, missing, bad-alone}
use Rattle.newt_laws_images.proofs.lying.records_are_read_alone.Goals as goal

pub returns-clause-filled : goal.returns-clause-filled
returns-clause-filled c = among

pub returns-clause-missing : goal.returns-clause-missing
returns-clause-missing c = missing

pub returns-clause-bad : goal.returns-clause-bad
returns-clause-bad c = bad-alone
