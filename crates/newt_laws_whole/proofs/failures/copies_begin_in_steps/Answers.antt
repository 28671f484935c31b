use Rattle.newt_laws_whole.proofs.Begun.{opened-step, reverted-step, saved-step}
use Rattle.newt_laws_whole.proofs.failures.copies_begin_in_steps.Goals as goal

pub returns-clause-opened : goal.returns-clause-opened
returns-clause-opened c = opened-step

pub returns-clause-saved : goal.returns-clause-saved
returns-clause-saved c = saved-step

pub returns-clause-reverted : goal.returns-clause-reverted
returns-clause-reverted c = reverted-step
