use Rattle.std.proofs.Common.{length}
use Rattle.newt_top.proofs.words.+are_apart.Given as goal

abbrev pub decreases-are_apart : goal.decreases-are_apart
decreases-are_apart l = length l.words.now
