-- A graph is read where nothing is after the root and the nodes are light.
use Rattle.std.proofs.Common.{arith}
use Rattle.std.proofs.lemmas.Grind.{common_steps}
use Rattle.newt_nsof_read.specs.Reading.{graph_at}
use Rattle.newt_nsof_read.proofs.stream.parts.Goals as goal

pub returns : goal.returns
unfolding graph_at
returns c = grind (arith, common_steps)

pub returns-then-not-is_empty : goal.returns-then-not-is_empty
unfolding graph_at
returns-then-not-is_empty c = grind (arith, common_steps)
