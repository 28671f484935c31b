use Rattle.newt_backup.proofs.Steps.{opened}
use Rattle.newt_backup.proofs.Back.{infos-none, infos-more}
use Rattle.newt_backup.proofs.checks.know_infos.Goals as goal

pub returns : goal.returns
returns c = c.loop-left.invariant (infos-none c.loop-left.left.now c.in_default.len_below)

pub loop-left-preserved : goal.loop-left-preserved
loop-left-preserved c = λ h.
    let left = c.loop-left.left.now in
    c.loop-left.invariant (infos-more c.row-item.result left (opened c.row-item.result left c.in-len1-up.len_at_least c.row-item.is) c.know_info.ensures h)
