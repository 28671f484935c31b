-- What is promised of each command says it all.
use Rattle.newt_engine_whole.proofs.whole.WholeInterpreter.apply.Goals as goal

pub returns-clause-stands : goal.returns-clause-stands
returns-clause-stands g c = c.apply.ensures.stands

pub returns-clause-stepped : goal.returns-clause-stepped
returns-clause-stepped g c t h means = c.apply.ensures.stepped t h means

pub returns-clause-alone : goal.returns-clause-alone
returns-clause-alone g c = c.apply.ensures.ended.alone
