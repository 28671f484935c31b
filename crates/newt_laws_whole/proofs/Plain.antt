-- Commands that are asked of the world as they are.
use Rattle.std.proofs.Common.{◌≡◌, refl, ap, ◌∙◌, [], ◌∷◌, true, Option, Some, None}
use Rattle.newt_base.specs.Refusals.{first_of}
use Rattle.newt_base.specs.declared.Refusal.{Refusal}
use Rattle.newt_spec_world.specs.Reply.{Reply}
use Rattle.newt_spec_world.specs.Refused.{checks}
use Rattle.newt_spec_world.specs.Answer.{answer, answered}
use Rattle.newt_spec_world.specs.declared.command.Command.{Command}
use Rattle.newt_spec_world.specs.declared.command.Command.TheVariants as command
use Rattle.newt_spec_whole.specs.Whole.{Whole, asked_in_turn, asks}
use Rattle.newt_spec_whole.specs.Events.{events}
use Rattle.newt_spec_whole.specs.Refused.{whole_checks}
use Rattle.newt_spec_whole.specs.Answer.{whole_answer, whole_answered, whole_fields, watches_after, copies_after}
use Rattle.newt_laws_whole.specs.Since.{if_done}
use Rattle.newt_laws_world.specs.Worlds.{is_plain}
use Rattle.newt_laws_whole.specs.Steps.{notes_of, noting}

plain-checks : (h : Whole) (c : Command) → is_plain c ≡ true → whole_checks h c ≡ checks h.world c
unfolding is_plain whole_checks
plain-checks h (command.Watch _ _) p = cc
plain-checks h (command.Notes _) p = cc
plain-checks h (command.Unwatch _) p = cc
plain-checks h (command.Open _ _ _) p = cc
plain-checks h (command.Draft _) p = cc
plain-checks h (command.Edit _ _ _) p = cc
plain-checks h (command.Save _) p = cc
plain-checks h (command.Revert _) p = cc
plain-checks h (command.Discard _) p = cc
plain-checks h _ p = refl

pub plain-turn : (h : Whole) (c : Command) → is_plain c ≡ true → asked_in_turn h c ≡ c ∷ []
unfolding is_plain asks
plain-turn h (command.Watch _ _) p = cc
plain-turn h (command.Notes _) p = cc
plain-turn h (command.Unwatch _) p = cc
plain-turn h (command.Open _ _ _) p = cc
plain-turn h (command.Draft _) p = cc
plain-turn h (command.Edit _ _ _) p = cc
plain-turn h (command.Save _) p = cc
plain-turn h (command.Revert _) p = cc
plain-turn h (command.Discard _) p = cc
plain-turn h _ p = refl

-- what the whole answers to such a command, by the world's answer
abbrev beside : Whole → Command → Option Refusal → Whole × Reply
beside h c o = let a = answered h.world c o in (noting h a.0 (if_done o (events h.world c)), a.1)

plain-done : (h : Whole) (c : Command) → is_plain c ≡ true → whole_answered h c None ≡ beside h c None
unfolding is_plain asks watches_after copies_after whole_fields
plain-done h (command.Watch _ _) p = cc
plain-done h (command.Notes _) p = cc
plain-done h (command.Unwatch _) p = cc
plain-done h (command.Open _ _ _) p = cc
plain-done h (command.Draft _) p = cc
plain-done h (command.Edit _ _ _) p = cc
plain-done h (command.Save _) p = cc
plain-done h (command.Revert _) p = cc
plain-done h (command.Discard _) p = cc
plain-done h _ p = refl

plain-refused : (h : Whole) (c : Command) (r : Refusal) → is_plain c ≡ true → whole_answered h c (Some r) ≡ beside h c (Some r)
unfolding is_plain
plain-refused h (command.Save _) r p = cc
plain-refused h _ r p = refl

pub plain-answer : (h : Whole) (c : Command) → is_plain c ≡ true
    → let a = answer h.world c in whole_answer h c ≡ (noting h a.0 (notes_of h.world c), a.1)
unfolding whole_answer answer
plain-answer h c p = go (first_of (whole_checks h c)) ∙ ap (λ cs. beside h c (first_of cs)) (plain-checks h c p)
  where
    go : (o : Option Refusal) → whole_answered h c o ≡ beside h c o
    go None = plain-done h c p
    go (Some r) = plain-refused h c r p
