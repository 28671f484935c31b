use Rattle.std.proofs.Common.{length}
use Rattle.newt_tags.proofs.table.+mask.Given as goal

abbrev pub decreases-mask : goal.decreases-mask
decreases-mask l = length l.symbols.now
