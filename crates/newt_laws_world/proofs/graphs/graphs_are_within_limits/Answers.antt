use Rattle.newt_laws_images.proofs.Within.{graph-within}
use Rattle.newt_laws_world.proofs.Normal.{own-normal}
use Rattle.newt_laws_world.proofs.graphs.graphs_are_within_limits.Goals as goal

pub returns-clause-own : goal.returns-clause-own
returns-clause-own c = own-normal

pub returns-clause-within : goal.returns-clause-within
returns-clause-within c = graph-within
