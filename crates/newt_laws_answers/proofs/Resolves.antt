-- Aliases that are resolved.
use Rattle.std.proofs.Common.{◌≡◌, ap, ◌∙◌, [], Option, Some, None, option_and_then, replicate}
use Rattle.std.specs.Option.{is_none}
use Rattle.newt_base.specs.declared.Refusal.TheVariants.{Spec as BadSpec}
use Rattle.newt_graph.specs.Graph.{RawGraph}
use Rattle.newt_spec_world.specs.declared.command.Command.TheVariants as command
use Rattle.newt_spec_world.specs.World.{World}
use Rattle.newt_spec_world.specs.Reply.{Reply}
use Rattle.newt_spec_world.specs.Alias.{Alias, Spot, alias_of, resolved}
use Rattle.newt_spec_world.specs.Changed.{changed}
use Rattle.newt_spec_world.specs.Refused.{checks}
use Rattle.newt_spec_world.specs.Answer.{answer, fields, or_nil}
use Rattle.newt_laws_answers.proofs.Firsts.{first-true, first-false}
use Rattle.newt_laws_answers.proofs.Answers.{done, refused}

-- where the entry is that an alias names
abbrev pub spot_reply : Option Spot → Reply
spot_reply o = or_nil (λ s. Reply.where_is s.unit s.soup.name s.entry.uid) o

pub resolve-bad : (w : World) (g : RawGraph) → alias_of g ≡ None → answer w (command.Resolve g) ≡ (w, Reply.refused BadSpec)
unfolding checks
resolve-bad w g h = refused w (command.Resolve g) BadSpec (first-true BadSpec _ [] (ap is_none h))

pub resolve-done : (w : World) (g : RawGraph) (a : Alias) → alias_of g ≡ Some a → w.cursors ≡ replicate 32 None → answer w (command.Resolve g) ≡ (w, spot_reply (resolved w a))
unfolding checks changed fields
resolve-done w g a h none = done w (command.Resolve g) (first-false BadSpec _ [] (ap is_none h)) none
    ∙ ap {B = World × Reply} (λ o. (w, spot_reply (option_and_then (resolved w) o))) h
