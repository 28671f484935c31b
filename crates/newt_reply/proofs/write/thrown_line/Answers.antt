use Rattle.std.proofs.Common.{ℕ, ◌∙◌, ap}
use Rattle.newt_reply.proofs.Refusals.{thrown_text}
use Rattle.newt_reply.proofs.write.thrown_line.Goals as goal
use Rattle.newt_reply.specs.Fields.{written}
use Rattle.newt_spec_world.specs.Reply.{thrown}

pub returns : goal.returns
returns c = ap (λ v. v.items) c.into_bytes.ensures.value
    ∙ (c.in_ok-format.ensures.ok ∙ (thrown_text c.unit.inside.0 ∙ ap (λ (u : ℕ). written (thrown u)) c.unit.view_is))
