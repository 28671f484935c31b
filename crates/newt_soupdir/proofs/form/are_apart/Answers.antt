-- No soup so far has the name of a later one.
use Rattle.std.proofs.Common.{arith}
use Rattle.std.proofs.lemmas.Grind.{common_steps}
use Rattle.newt_soupdir.proofs.form.are_apart.Goals as goal

pub loop-left-preserved : goal.loop-left-preserved
loop-left-preserved c = grind (arith, common_steps)

pub returns-then-has_name : goal.returns-then-has_name
returns-then-has_name c = grind (arith, common_steps)
