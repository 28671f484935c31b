use Rattle.newt_laws_whole.proofs.Plain.{plain-answer}
use Rattle.newt_laws_whole.proofs.runs.plain_commands.Goals as goal

pub returns : goal.returns
returns c = plain-answer
