use Rattle.std.proofs.Common.{◌∙◌}
use Rattle.newt_reply.proofs.Pieces.{no_parts, parts_are}
use Rattle.newt_reply.proofs.declared.parts_text.Goals as goal

pub returns-in_default : goal.returns-in_default
returns-in_default c = c.new.ensures.items ∙ no_parts c.args.parts.now c.in_default.len_below

pub returns : goal.returns
returns c =
    parts_are c.args.parts.now c.first-item.result c.in_ok-text.text.items c.push_parts.new.text.items c.in-len1-up.len_at_least c.first-item.is c.in_ok-text.ensures
    c.in_ok-push_parts.ensures
