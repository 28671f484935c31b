-- The last test is that of the most soups.
use Rattle.std.proofs.Common.{arith}
use Rattle.std.proofs.lemmas.Grind.{common_steps}
use Rattle.newt_soupdir.proofs.Spelled.{length_rows}
use Rattle.newt_soupdir.proofs.rows.Directory.is_within_limits.Goals as goal

pub returns-then-self-le-LARGEST_NEXT_SOUP : goal.returns-then-self-le-LARGEST_NEXT_SOUP
returns-then-self-le-LARGEST_NEXT_SOUP c = grind (arith, common_steps, length_rows)
