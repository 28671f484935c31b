use Rattle.std.proofs.Common.{◌∙◌, ap}
use Rattle.newt_check.proofs.Written.{damaged_text}
use Rattle.newt_check.proofs.line.damaged_line.Goals as goal

pub returns : goal.returns
returns c = ap (λ v. v.items) c.into_bytes.ensures.value ∙ (c.in_ok-format.ensures.ok ∙ damaged_text c.layer_word-word.result.now c.args.layer c.args.place c.layer_word-word.ensures)
