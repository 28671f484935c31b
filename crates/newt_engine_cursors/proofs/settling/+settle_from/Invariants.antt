-- So many places are left.
use Rattle.std.proofs.Common.{◌-◌}
use Rattle.newt_engine_cursors.proofs.settling.+settle_from.Given as goal

abbrev pub decreases-settle_from : goal.decreases-settle_from
decreases-settle_from g l = 32 - l.from
