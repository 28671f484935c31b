use Rattle.std.proofs.Common.{rules}
use Rattle.newt_backup.proofs.Steps.{row-step}
use Rattle.newt_backup.proofs.cutting.put_row.Goals as goal

pub loop-k-preserved : goal.loop-k-preserved
loop-k-preserved c = row-step c.push.new.self.items c.args.values.now.items c.loop-k.values.items c.args.at c.loop-k.k c.loop-k.invariant (search rules)
