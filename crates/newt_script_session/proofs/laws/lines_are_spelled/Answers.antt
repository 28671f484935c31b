use Rattle.newt_script_session.proofs.Spelling.{lines_are, script_items_plain}
use Rattle.newt_script_session.proofs.laws.lines_are_spelled.Goals as goal

pub returns-clause-lines : goal.returns-clause-lines
returns-clause-lines c = lines_are

pub returns-clause-items : goal.returns-clause-items
returns-clause-items c = script_items_plain
