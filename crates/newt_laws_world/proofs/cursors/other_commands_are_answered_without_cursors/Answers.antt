use Rattle.newt_laws_world.proofs.Uncursored.{answered-apart, answered-closed, answer-apart, closed-settled}
use Rattle.newt_laws_world.proofs.cursors.other_commands_are_answered_without_cursors.Goals as goal

pub returns-clause-any : goal.returns-clause-any
returns-clause-any c = answered-apart

pub returns-clause-closed : goal.returns-clause-closed
returns-clause-closed c = answered-closed

pub returns-clause-settled : goal.returns-clause-settled
returns-clause-settled c = closed-settled

pub returns-clause-whole : goal.returns-clause-whole
returns-clause-whole c = answer-apart
