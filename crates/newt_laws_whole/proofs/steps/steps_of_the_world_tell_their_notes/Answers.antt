use Rattle.newt_laws_whole.proofs.Telling.{steps-tell}
use Rattle.newt_laws_whole.proofs.steps.steps_of_the_world_tell_their_notes.Goals as goal

pub returns : goal.returns
returns c = steps-tell
