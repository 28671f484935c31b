-- What is valid has few soups, each with an info frame that fits.
use Rattle.std.proofs.Common.{arith}
use Rattle.std.proofs.lemmas.Grind.{common_steps}
use Rattle.newt_soupdir.proofs.Lists.{rows_fit}
use Rattle.newt_soupdir.proofs.write.write_directory.Goals as goal

pub put_soups-requires-clause-few : goal.put_soups-requires-clause-few
put_soups-requires-clause-few c = grind (arith, common_steps, rows_fit)

pub put_soups-requires-clause-fit : goal.put_soups-requires-clause-fit
put_soups-requires-clause-fit c = grind (arith, common_steps, rows_fit)
