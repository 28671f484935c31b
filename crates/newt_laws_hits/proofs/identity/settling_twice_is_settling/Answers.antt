use Rattle.newt_laws_world.proofs.Settled.{settle-settles}
use Rattle.newt_laws_hits.proofs.identity.settling_twice_is_settling.Goals as goal

pub returns : goal.returns
returns c = settle-settles
