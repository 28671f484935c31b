use Rattle.std.proofs.Common.{◌∙◌, ap}
use Rattle.newt_reply.proofs.Listed.{alias_parts}
use Rattle.newt_reply.proofs.fields.alias_text.Goals as goal

pub returns : goal.returns
returns c = ap (λ v. v.items) c.into_bytes.ensures.value ∙ (c.in_ok-format.ensures.ok ∙ alias_parts c.args.store c.args.soup c.args.uid)
