use Rattle.newt_laws_world.proofs.Fewer.{row-settled, wf-from}
use Rattle.newt_laws_world.proofs.worlds.few_commands_move_keys.Goals as goal

pub returns : goal.returns
returns c = λ w k all. row-settled w k (wf-from w all)
