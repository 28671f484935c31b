-- The notes of a step of the whole, by the world after it.
use Rattle.std.proofs.Common.{◌≡◌, inl, inr, ap, sym, ◌∙◌, List, [], true, false, take}
use Rattle.newt_base.specs.Refusals.{first_of}
use Rattle.newt_spec_world.specs.Refused.{checks}
use Rattle.newt_spec_world.specs.Reply.{Reply}
use Rattle.newt_spec_world.specs.Answer.{answer}
use Rattle.newt_spec_world.specs.Step.{Step, torn, world_halfway, world_thrown}
use Rattle.newt_spec_world.specs.World.{World}
use Rattle.newt_spec_world.specs.declared.command.Command.{Command}
use Rattle.newt_laws_steps.proofs.Standing.{is-accepted}
use Rattle.newt_laws_steps.specs.Steps.{IsQuiet}
use Rattle.newt_laws_world.specs.Worlds.{is_plain}
use Rattle.newt_spec_whole.specs.Whole.{Whole, in_world}
use Rattle.newt_spec_whole.specs.Answer.{whole_answer}
use Rattle.newt_spec_whole.specs.Events.{Event, events}
use Rattle.newt_spec_whole.specs.Step.{WholeStep, plain, found, thrown, halfway}
use Rattle.newt_laws_whole.specs.Since.{if_done}
use Rattle.newt_laws_whole.specs.Steps.{notes_of, noting, notes_after}
use Rattle.newt_laws_whole.proofs.Asking.{other-steps, plain-step}
use Rattle.newt_laws_whole.proofs.Plain.{plain-answer}
use Rattle.newt_laws_whole.proofs.Telling.{answer-notes, halfway-notes, looked, looked-none, no-notes, none-done, thrown-notes}

pub quiet-other : (h : Whole) (c : Command) (v : Whole) (r : Reply) → is_plain c ≡ false → WholeStep h c v r → IsQuiet r → whole_answer h c ≡ (v, r)
quiet-other h c v r p s quiet = elim (other-steps h c v r p s) [
  | inl is ↦ is
  | inr t ↦ absurd (quiet t.0 t.4)
]

-- a whole that is noted, by what it is
noted-is : (h : Whole) (w : World) (es : List Event) (x : Whole) → noting h w es ≡ x → x ≡ noting h x.world es
noted-is h w es x e = sym e ∙ ap (λ (v : World). noting h v es) (ap (λ (y : Whole). y.world) e)

pub plain-told : (h : Whole) (c : Command) (v : Whole) (r : Reply) → is_plain c ≡ true → WholeStep h c v r → v ≡ noting h v.world (notes_after h.world c v.world r)
plain-told h c v r p (plain none is) =
    let both : (noting h (answer h.world c).0 (notes_of h.world c), (answer h.world c).1) ≡ (v, r) = sym (plain-answer h c p) ∙ is in
    noted-is h (answer h.world c).0 (notes_of h.world c) v (ap (λ (a : Whole × Reply). a.0) both)
    ∙ ap (noting h v.world) (sym (answer-notes h.world c) ∙ ap (λ (a : Whole × Reply). notes_after h.world c a.0.world a.1) both)
plain-told h c v r p (found {u} {v = x} looks has is) =
    let at = looked h.world c u looks in
    let none = looked-none h.world c at.0 at.1 in
    let both : (noting h (answer x c).0 (notes_of x c), (answer x c).1) ≡ (v, r) = sym (plain-answer (in_world h x) c p) ∙ is in
    noted-is h (answer x c).0 (notes_of x c) v (ap (λ (a : Whole × Reply). a.0) both)
    ∙ ap (noting h v.world) (ap (if_done (first_of (checks x c))) (looked-none x c at.0 at.1) ∙ none-done (first_of (checks x c))
    ∙ sym (no-notes h.world v.world c r none))
plain-told h c v r p (thrown {u} asked among next is) =
    noted-is h (world_thrown h.world asked u) [] v (sym next)
    ∙ ap (noting h v.world) (sym (ap (λ (x : World). notes_after h.world c x r) (ap (λ (x : Whole). x.world) next)
    ∙ ap (notes_after h.world c (world_thrown h.world asked u)) is ∙ thrown-notes h.world c u (torn h.world asked u)))
plain-told h c v r p (halfway {u} moves ok next is) =
    noted-is h (world_halfway h.world c u) (take 1 (events h.world c)) v (sym next)
    ∙ ap (noting h v.world) (sym (ap (λ (x : World). notes_after h.world c x r) (ap (λ (x : Whole). x.world) next)
    ∙ ap (notes_after h.world c (world_halfway h.world c u)) is ∙ halfway-notes h.world c u moves (is-accepted h.world c ok)))

pub plain-after : (h : Whole) (c : Command) (v : Whole) (r : Reply) → is_plain c ≡ true → WholeStep h c v r
    → Step h.world c v.world r × (v ≡ noting h v.world (notes_after h.world c v.world r))
plain-after h c v r p s = (plain-step h c v r p s, plain-told h c v r p s)
