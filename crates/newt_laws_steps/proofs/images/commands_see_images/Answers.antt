use Rattle.newt_laws_steps.proofs.Seen.{seen-step}
use Rattle.newt_laws_steps.proofs.images.commands_see_images.Goals as goal

pub returns : goal.returns
returns c = seen-step
