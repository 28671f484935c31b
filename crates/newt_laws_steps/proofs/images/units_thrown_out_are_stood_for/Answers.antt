use Rattle.newt_laws_steps.proofs.StoodFor.{thrown-stands}
use Rattle.newt_laws_steps.proofs.images.units_thrown_out_are_stood_for.Goals as goal

pub returns : goal.returns
returns c = thrown-stands
