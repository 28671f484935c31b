use Rattle.newt_laws_steps.proofs.MeantAnswer.{answer-m, answer-mounted}
use Rattle.newt_laws_steps.proofs.known.answers_go_by_what_is_known.Goals as goal

pub returns-clause-answer : goal.returns-clause-answer
returns-clause-answer c = answer-m

pub returns-clause-mounted : goal.returns-clause-mounted
returns-clause-mounted c = answer-mounted
