use Rattle.newt_laws_whole.proofs.Asking.{step-goes}
use Rattle.newt_laws_whole.proofs.Noted.{plain-after, quiet-other}
use Rattle.newt_laws_whole.proofs.worlds.whole_steps_are_steps_of_the_world.Goals as goal

pub returns-clause-plain : goal.returns-clause-plain
returns-clause-plain c = plain-after

pub returns-clause-others : goal.returns-clause-others
returns-clause-others c = quiet-other

pub returns-clause-world : goal.returns-clause-world
returns-clause-world c = step-goes
