use Rattle.newt_backup.proofs.Steps.{opened}
use Rattle.newt_backup.proofs.Back.{sound-none, sound-more}
use Rattle.newt_backup.proofs.checks.know_entries.Goals as goal

pub returns : goal.returns
returns c = c.loop-left.invariant (sound-none c.loop-left.left.now c.in_default.len_below)

pub loop-left-preserved : goal.loop-left-preserved
loop-left-preserved c = λ h.
    let left = c.loop-left.left.now in
    c.loop-left.invariant (sound-more c.entry-item.result left (opened c.entry-item.result left c.in-len1-up.len_at_least c.entry-item.is) c.know_entry.ensures h)
