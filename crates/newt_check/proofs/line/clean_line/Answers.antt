use Rattle.std.proofs.Common.{◌∙◌, ap}
use Rattle.newt_check.proofs.Written.{clean_text}
use Rattle.newt_check.proofs.line.clean_line.Goals as goal

pub returns : goal.returns
returns c = ap (λ v. v.items) c.into_bytes.ensures.value ∙ (c.in_ok-format.ensures.ok ∙ clean_text c.args.soups c.args.entries c.args.pages)
