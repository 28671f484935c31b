use Rattle.newt_script.proofs.Forms.{has_its_form}
use Rattle.newt_script.proofs.laws.commands_have_their_forms.Goals as goal

pub returns : goal.returns
returns c = has_its_form
