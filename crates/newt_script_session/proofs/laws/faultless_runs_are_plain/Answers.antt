use Rattle.newt_script_session.proofs.Plain.{world_is_plain, replies_are_plain}
use Rattle.newt_script_session.proofs.laws.faultless_runs_are_plain.Goals as goal

pub returns-clause-world : goal.returns-clause-world
returns-clause-world c = world_is_plain

pub returns-clause-replies : goal.returns-clause-replies
returns-clause-replies c = replies_are_plain
