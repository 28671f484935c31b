use Rattle.newt_check.proofs.Whole.{first-kept, first-new}
use Rattle.std.proofs.Common.{sym, ◌∙◌}
use Rattle.newt_check.proofs.parts.keep_first.Goals as goal

pub returns-then-contains_key : goal.returns-then-contains_key
returns-then-contains_key c = λ headers are. first-kept c.args.parts.now headers c.args.header.now are (sym c.contains_key.ensures ∙ c.if-contains_key.true)

pub returns : goal.returns
returns c = λ headers are. first-new c.args.parts.now c.insert.new.self headers c.args.header.now are (sym c.contains_key.ensures ∙ c.if-contains_key.false) c.in_ok-insert.ensures.updates.0
