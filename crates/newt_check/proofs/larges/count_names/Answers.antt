use Rattle.std.proofs.Common.{ℕ, List, arith, subst}
use Rattle.newt_check.specs.Seen.{AreCounts}
use Rattle.newt_check.proofs.Loops.{named-more}
use Rattle.newt_check.proofs.larges.count_names.Goals as goal

pub loop-row-preserved : goal.loop-row-preserved
loop-row-preserved c names are =
    subst (λ (ns : List ℕ). AreCounts ns c.count_name.new.counts) (named-more names c.args.rows.now c.loop-row.row-index _ (omega arith)) (c.in_ok-count_name.ensures _ (c.loop-row.invariant names are))
