use Rattle.newt_laws_world.proofs.Fitting.{answer-valid}
use Rattle.newt_laws_world.proofs.worlds.stores_stay_valid.Goals as goal

pub returns : goal.returns
returns c = answer-valid
