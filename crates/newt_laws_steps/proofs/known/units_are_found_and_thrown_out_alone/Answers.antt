use Rattle.newt_laws_steps.proofs.MeantSteps.{found-m, thrown-m}
use Rattle.newt_laws_steps.proofs.known.units_are_found_and_thrown_out_alone.Goals as goal

pub returns-clause-found : goal.returns-clause-found
returns-clause-found c = found-m

pub returns-clause-thrown : goal.returns-clause-thrown
returns-clause-thrown c = thrown-m
