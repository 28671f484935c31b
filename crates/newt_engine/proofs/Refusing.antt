-- A command that is refused leaves the world.
use Rattle.std.proofs.Common.{◌≡◌, refl, sym, ◌∙◌, ap, ℕ, false, Some, None, Option}
use Rattle.newt_base.specs.Refusals.{first_of}
use Rattle.newt_base.specs.declared.Refusal.{Refusal}
use Rattle.newt_spec_graph.proofs.Lists.{both-ways}
use Rattle.newt_spec_script.specs.Rows.{throws}
use Rattle.newt_spec_world.specs.declared.command.Command.{Command}
use Rattle.newt_spec_world.specs.Reply as plain
use Rattle.newt_spec_world.specs.World.{World}
use Rattle.newt_spec_world.specs.Answer.{answer, answered, fields}
use Rattle.newt_spec_world.specs.Refused.{checks}
use Rattle.newt_laws_steps.proofs.Replying.{fields_good, is_fault}

pub refused_stays : (w : World) (c : Command) (r : Refusal) → (answer w c).1 ≡ plain.Reply.refused r → (answer w c).0 ≡ w
unfolding answer
refused_stays w c r h = go (first_of (checks w c)) h
  where
    go : (o : Option Refusal) → (answered w c o).1 ≡ plain.Reply.refused r → (answered w c o).0 ≡ w
    go None k = absurd (both-ways (sym (fields_good w _ c) ∙ ap is_fault k))
    go (Some x) k = refl

-- no answer says that a device failed
pub answer_quiet : (w : World) (c : Command) (u : ℕ) → throws u (answer w c).1 ≡ false
unfolding answer
answer_quiet w c u = go (first_of (checks w c))
  where
    good : (reply : plain.Reply) → is_fault reply ≡ false → throws u reply ≡ false
    good (plain.Reply.thrown n) h = absurd (both-ways (sym h))
    good reply h = refl

    go : (o : Option Refusal) → throws u (answered w c o).1 ≡ false
    go (Some r) = refl
    go None = good (fields w (answered w c None).0 c) (fields_good w (answered w c None).0 c)
