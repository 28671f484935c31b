-- Steps of the whole, by steps of its world.
use Rattle.std.proofs.Common.{◌≡◌, refl, ap, sym, ◌∙◌, subst, ℕ, List, [], ◌∷◌, true, Option, Some, None}
use Rattle.std.specs.Prelude.{Ok, Err}
use Rattle.newt_base.specs.Refusals.{first_of}
use Rattle.newt_base.specs.declared.Refusal.{Refusal}
use Rattle.newt_spec_graph.proofs.Lists.{none-some}
use Rattle.newt_spec_script.specs.Script.{Item, step, replies_to, world_after}
use Rattle.newt_spec_script.specs.Rows.{IsRun, Goes, Row, replies_of, last_world}
use Rattle.newt_spec_world.specs.World.{World}
use Rattle.newt_spec_world.specs.Reply.{Reply}
use Rattle.newt_spec_world.specs.Answer.{answer}
use Rattle.newt_spec_world.specs.Step.{Found, looks_anew}
use Rattle.newt_spec_world.specs.declared.command.Command.{Command}
use Rattle.newt_laws_steps.specs.Steps.{AllSure, AreQuiet, IsQuiet}
use Rattle.newt_laws_steps.proofs.Stepping.{looks-sure, row-sure}
use Rattle.newt_spec_whole.specs.Whole.{Whole, asks, in_world}
use Rattle.newt_spec_whole.specs.Refused.{whole_checks}
use Rattle.newt_spec_whole.specs.Answer.{whole_answer, whole_answered, world_after as world_after_asked}
use Rattle.newt_spec_whole.specs.Step.{WholeStep, plain, found, thrown, halfway}
use Rattle.newt_laws_world.specs.Worlds.{is_plain}
use Rattle.newt_laws_whole.specs.Steps.{notes_of, noting}
use Rattle.newt_laws_whole.proofs.Plain.{plain-answer}

-- ---- without a failure

pub quiet-whole : (h : Whole) (c : Command) (v : Whole) (r : Reply) → AllSure h.world → WholeStep h c v r → IsQuiet r → whole_answer h c ≡ (v, r)
quiet-whole h c v r sure (plain none is) quiet = is
quiet-whole h c v r sure (found {u} looks has is) quiet = absurd (none-some u (sym (looks-sure h.world c sure) ∙ looks))
quiet-whole h c v r sure (thrown {u} asked among next is) quiet = absurd (quiet u is)
quiet-whole h c v r sure (halfway {u} moves ok next is) quiet = absurd (quiet u is)

pub whole-sure : (h : Whole) (c : Command) → AllSure h.world → AllSure (whole_answer h c).0.world
unfolding whole_answer
whole-sure h c sure = go (first_of (whole_checks h c))
  where
    asked : (o : Option Command) → AllSure (world_after_asked h.world o)
    asked None = sure
    asked (Some d) = λ u. row-sure h.world d u (sure u)

    go : (o : Option Refusal) → AllSure (whole_answered h c o).0.world
    go (Some r) = sure
    go None = asked (asks h c)

quiet-goes : (h : Whole) (x : Item) (v : Whole) (r : Reply) → AllSure h.world → Goes WholeStep h x (v, r) → IsQuiet r → step whole_answer h x ≡ (v, r)
quiet-goes h (Ok c) v r sure s quiet = quiet-whole h c v r sure s quiet
quiet-goes h (Err refusal) v r sure s quiet = let both : (h, Reply.refused refusal) ≡ (v, r) = ap (λ x. (x, Reply.refused refusal)) (sym s.0) ∙ ap (λ y. (v, y)) (sym s.1) in both

step-sure : (h : Whole) (x : Item) → AllSure h.world → AllSure (step whole_answer h x).0.world
step-sure h (Ok c) sure = whole-sure h c sure
step-sure h (Err refusal) sure = sure

pub quiet-whole-run : (h : Whole) (items : List Item) (rows : List (Row Whole)) → AllSure h.world → IsRun WholeStep h items rows → AreQuiet rows
    → (replies_of rows ≡ replies_to whole_answer h items) × (last_world h rows ≡ world_after whole_answer h items)
quiet-whole-run h [] [] sure run quiet = (refl, refl)
quiet-whole-run h [] (row ∷ rows) sure run quiet = absurd run
quiet-whole-run h (x ∷ xs) [] sure run quiet = absurd run
quiet-whole-run h (x ∷ xs) (row ∷ rows) sure run quiet =
    let is = quiet-goes h x row.0 row.1 sure run.0 quiet.0 in
    let later = subst (λ (p : Whole × Reply). AllSure p.0.world) is (step-sure h x sure) in
    let rest = quiet-whole-run row.0 xs rows later run.1 quiet.1 in (
      ap (λ (rs : List Reply). row.1 ∷ rs) rest.0 ∙ sym (ap (λ (p : Whole × Reply). p.1 ∷ replies_to whole_answer p.0 xs) is),
      rest.1 ∙ sym (ap (λ (p : Whole × Reply). world_after whole_answer p.0 xs) is),
    )

-- ---- commands of the world

pub plain-steps : (h : Whole) (c : Command) (w : World) (r : Reply) → is_plain c ≡ true → looks_anew h.world c ≡ None → answer h.world c ≡ (w, r)
    → WholeStep h c (noting h w (notes_of h.world c)) r
plain-steps h c w r p none is = plain none (plain-answer h c p ∙ ap (λ (a : World × Reply). (noting h a.0 (notes_of h.world c), a.1)) is)

pub found-steps : (h : Whole) (c : Command) (u : ℕ) (v w : World) (r : Reply) → is_plain c ≡ true → looks_anew h.world c ≡ Some u → Found h.world u v
    → answer v c ≡ (w, r) → WholeStep h c (noting h w (notes_of v c)) r
found-steps h c u v w r p looks has is =
    found looks has (plain-answer (in_world h v) c p ∙ ap (λ (a : World × Reply). (noting h a.0 (notes_of v c), a.1)) is)
