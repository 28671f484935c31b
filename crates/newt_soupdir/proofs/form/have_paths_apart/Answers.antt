-- Where none of the rest has the paths of the first, the paths are apart if those of the rest are.
use Rattle.std.proofs.Common.{arith}
use Rattle.std.proofs.lemmas.Grind.{common_steps}
use Rattle.newt_soupdir.proofs.form.have_paths_apart.Goals as goal

pub loop-left-preserved : goal.loop-left-preserved
loop-left-preserved c = grind (arith, common_steps)
