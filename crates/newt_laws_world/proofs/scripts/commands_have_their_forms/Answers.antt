use Rattle.newt_laws_world.proofs.ScriptRuns.{script-forms}
use Rattle.newt_laws_world.proofs.scripts.commands_have_their_forms.Goals as goal

pub returns : goal.returns
returns c = script-forms
