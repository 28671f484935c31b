use Rattle.newt_laws_world.proofs.Settled.{answer-settled}
use Rattle.newt_laws_world.proofs.worlds.worlds_stay_settled.Goals as goal

pub returns : goal.returns
returns c = answer-settled
