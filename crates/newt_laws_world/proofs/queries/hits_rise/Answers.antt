use Rattle.newt_laws_world.proofs.Found.{hits-rise}
use Rattle.newt_laws_world.proofs.queries.hits_rise.Goals as goal

pub returns : goal.returns
returns c = hits-rise
