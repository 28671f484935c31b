use Rattle.newt_laws_world.proofs.Mounted.{answer-apart}
use Rattle.newt_laws_world.proofs.worlds.signatures_stay_apart.Goals as goal

pub returns : goal.returns
returns c = answer-apart
