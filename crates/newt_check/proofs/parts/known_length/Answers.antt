use Rattle.std.proofs.Common.{sym}
use Rattle.newt_check.specs.Parts.{kept_first}
use Rattle.newt_check.proofs.Whole.{lengths-more}
use Rattle.newt_check.proofs.parts.known_length.Goals as goal

pub returns-in-Some-clause-length : goal.returns-in-Some-clause-length
returns-in-Some-clause-length c = c.requires c.args.object c.in-Some.length.now (sym c.in-Some.ensures.value)

pub returns-clause-kept : goal.returns-clause-kept
returns-clause-kept c = lengths-more (kept_first c.args.parts.now) c.args.lengths.now c.insert.new.self c.args.object c.length_by-length.result c.requires c.length_by-length.ensures c.in_ok-insert.ensures.updates.0
