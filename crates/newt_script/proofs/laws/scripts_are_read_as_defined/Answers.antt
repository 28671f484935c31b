use Rattle.newt_script.proofs.Defined.{read_as_defined, one_script}
use Rattle.newt_script.proofs.laws.scripts_are_read_as_defined.Goals as goal

pub returns-clause-read : goal.returns-clause-read
returns-clause-read c = read_as_defined

pub returns-clause-only : goal.returns-clause-only
returns-clause-only c = one_script
