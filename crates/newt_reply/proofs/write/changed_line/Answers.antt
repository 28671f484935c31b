use Rattle.std.proofs.Common.{◌∙◌, ap}
use Rattle.newt_reply.proofs.Noted.{changed_text}
use Rattle.newt_reply.proofs.write.changed_line.Goals as goal

pub returns : goal.returns
returns c = ap (λ v. v.items) c.into_bytes.ensures.value ∙ (c.in_ok-format.ensures.ok ∙ changed_text c.number-number.result c.word-word.result.now c.args.time c.number-number.ensures c.word-word.ensures)
