use Rattle.newt_laws_world.proofs.Fewer.{wf-from}
use Rattle.newt_laws_effects.proofs.Refusing.{row-refusal}
use Rattle.newt_laws_effects.proofs.tables.changes_tell_the_refusals.Goals as goal

pub returns : goal.returns
returns c = λ w k all. row-refusal w k (wf-from w all)
