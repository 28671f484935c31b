use Rattle.newt_laws_world.proofs.Uncursored.{checks-apart, changed-apart, kept-apart, fields-apart}
use Rattle.newt_laws_world.proofs.cursors.other_commands_see_no_cursors.Goals as goal

pub returns-clause-checks : goal.returns-clause-checks
returns-clause-checks c = checks-apart

pub returns-clause-changed : goal.returns-clause-changed
returns-clause-changed c = changed-apart

pub returns-clause-kept : goal.returns-clause-kept
returns-clause-kept c = kept-apart

pub returns-clause-fields : goal.returns-clause-fields
returns-clause-fields c = fields-apart
