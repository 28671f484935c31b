-- A directory of version 1 has few soups, and none of them an info frame.
use Rattle.std.proofs.Common.{arith}
use Rattle.std.proofs.lemmas.Grind.{common_steps}
use Rattle.newt_soupdir.proofs.Spelled.{length_rows}
use Rattle.newt_soupdir.proofs.rows.Directory.keeps_version.Goals as goal

pub returns-then-soups-le-MOST_OLD_SOUPS : goal.returns-then-soups-le-MOST_OLD_SOUPS
returns-then-soups-le-MOST_OLD_SOUPS c = grind (arith, common_steps, length_rows)

pub returns-else-soups-le-MOST_OLD_SOUPS : goal.returns-else-soups-le-MOST_OLD_SOUPS
returns-else-soups-le-MOST_OLD_SOUPS c = grind (arith, common_steps, length_rows)
