use Rattle.newt_laws_world.proofs.Fewer.{wf-from}
use Rattle.newt_laws_effects.proofs.Most.{row-most}
use Rattle.newt_laws_effects.proofs.tables.changes_tell_the_bytes.Goals as goal

pub returns : goal.returns
returns c = λ w k u all. row-most w k u (wf-from w all)
