-- What is left is of the rows that are left.
use Rattle.std.proofs.Common.{arith}
use Rattle.std.proofs.lemmas.Grind.{common_steps}
use Rattle.newt_backup.proofs.checks.are_of.Goals as goal

pub loop-soups-preserved : goal.loop-soups-preserved
loop-soups-preserved c = grind (arith, common_steps)
