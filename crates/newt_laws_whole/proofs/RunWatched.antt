-- A watch in a run where devices may fail.
use Rattle.std.proofs.Common.{◌≡◌, inl, inr, refl, ap, sym, ◌∙◌, ℕ, List, [], ◌∷◌, ◌++◌, true, false, Bool, Option, Some, None, option_and_then, option_map, append_assoc}
use Rattle.std.specs.Prelude.{is_none, Ok, Err}
use Rattle.newt_base.specs.Refusals.{first_of}
use Rattle.newt_base.specs.declared.Refusal.{Refusal}
use Rattle.newt_base.specs.declared.Refusal.TheVariants.{Changed, Watch as NoWatch}
use Rattle.newt_notify.specs.declared.note.Note.{Note}
use Rattle.newt_notify.specs.Watch.{Watching, emptied}
use Rattle.newt_spec_graph.proofs.Lists.{both-ways}
use Rattle.newt_spec_script.specs.Rows.{IsRun, Row, last_world}
use Rattle.newt_spec_script.specs.Script.{Item}
use Rattle.newt_work.specs.Work.{Copy}
use Rattle.newt_spec_world.specs.Alias.{Spot}
use Rattle.newt_spec_world.specs.Answer.{or_nil}
use Rattle.newt_spec_world.specs.Reply.{Reply}
use Rattle.newt_spec_world.specs.World.{World}
use Rattle.newt_spec_world.specs.declared.command.Command.{Command}
use Rattle.newt_spec_world.specs.declared.command.Command.TheVariants as command
use Rattle.newt_laws_world.specs.Worlds.{is_plain}
use Rattle.newt_spec_whole.specs.Whole.{Whole, asks, copy, get_of, living, watch}
use Rattle.newt_spec_whole.specs.Events.{Event, events, events_of}
use Rattle.newt_spec_whole.specs.Refused.{whole_checks}
use Rattle.newt_spec_whole.specs.Answer.{notes_reply, refusal_reply, whole_answer, whole_answered, whole_fields}
use Rattle.newt_spec_whole.specs.Step.{WholeStep}
use Rattle.newt_laws_whole.specs.Since.{IsDone, if_done}
use Rattle.newt_laws_whole.specs.Steps.{notes_after, told_by}
use Rattle.newt_laws_whole.specs.Told.{KeepsWatch, ends_notes, told_in, told_to, with_notes}
use Rattle.newt_laws_whole.proofs.Asking.{other-steps}
use Rattle.newt_laws_whole.proofs.Noted.{plain-told}
use Rattle.newt_laws_whole.proofs.Telling.{no-notes, none-done}
use Rattle.newt_laws_whole.proofs.Watched.{all-told, end, notes-taken, step-told, told-more}

-- ---- the notes of a step, by the reply

-- a command of the world tells what the world after it tells
pub plain-by : (h : Whole) (c : Command) (v : World) (r : Reply) → is_plain c ≡ true → notes_after h.world c v r ≡ told_by h c v r
unfolding is_plain
plain-by h (command.Save n) v r p = absurd (both-ways p)
plain-by h _ v r p = refl

-- a command of watches and copies that is no save tells nothing
other-events : (w : World) (c : Command) → is_plain c ≡ false → events w c ≡ []
unfolding is_plain events
other-events w (command.Watch s most) p = refl
other-events w (command.Notes n) p = refl
other-events w (command.Unwatch n) p = refl
other-events w (command.Open u s uid) p = refl
other-events w (command.Draft n) p = refl
other-events w (command.Edit n path g) p = refl
other-events w (command.Save n) p = refl
other-events w (command.Revert n) p = refl
other-events w (command.Discard n) p = refl
other-events w _ p = absurd (both-ways (sym p))

-- a save that is refused tells nothing
save-refused : (h : Whole) (n : ℕ) (v : World) (x : Refusal) → ◌≡◌ {A = List Event} [] (told_by h (command.Save n) v (refusal_reply h (command.Save n) x))
save-refused h n v Changed = go (option_and_then (living h) (copy h n))
  where
    go : (o : Option Spot) → ◌≡◌ {A = List Event} [] (told_by h (command.Save n) v (or_nil (λ (s : Spot). Reply.changed s.entry.time) o))
    go None = refl
    go (Some s) = refl
save-refused h n v _ = refl

-- nothing is told of what is only read
asks-none : (h : Whole) (c : Command) (v : World) (o : Option Refusal) (r : Reply) → is_plain c ≡ false → events_of h.world (asks h c) ≡ [] → notes_after h.world c v r ≡ told_by h c v r
    → if_done o (events_of h.world (asks h c)) ≡ told_by h c v r
asks-none h c v o r p none same = ap (if_done o) none ∙ none-done o ∙ sym (no-notes h.world v c r (other-events h.world c p)) ∙ same

reverts-none : (h : Whole) (n : ℕ) → events_of h.world (asks h (command.Revert n)) ≡ []
unfolding asks events
reverts-none h n = copied (copy h n)
  where
    lives : (o : Option Spot) → events_of h.world (option_map (λ s. get_of s) o) ≡ []
    lives None = refl
    lives (Some s) = refl

    copied : (o : Option Copy) → events_of h.world (option_and_then (λ k. option_map (λ s. get_of s) (living h k)) o) ≡ []
    copied None = refl
    copied (Some k) = lives (living h k)

pub answer-by : (h : Whole) (c : Command) (v : World) (o : Option Refusal) → is_plain c ≡ false → if_done o (events_of h.world (asks h c)) ≡ told_by h c v (whole_answered h c o).1
unfolding is_plain asks events whole_fields
answer-by h (command.Save n) v None p = refl
answer-by h (command.Save n) v (Some x) p = save-refused h n v x
answer-by h (command.Watch s most) v o p = asks-none h (command.Watch s most) v o (whole_answered h (command.Watch s most) o).1 refl refl refl
answer-by h (command.Notes n) v o p = asks-none h (command.Notes n) v o (whole_answered h (command.Notes n) o).1 refl refl refl
answer-by h (command.Unwatch n) v o p = asks-none h (command.Unwatch n) v o (whole_answered h (command.Unwatch n) o).1 refl refl refl
answer-by h (command.Open u s uid) v o p = asks-none h (command.Open u s uid) v o (whole_answered h (command.Open u s uid) o).1 refl refl refl
answer-by h (command.Draft n) v o p = asks-none h (command.Draft n) v o (whole_answered h (command.Draft n) o).1 refl refl refl
answer-by h (command.Edit n path g) v o p = asks-none h (command.Edit n path g) v o (whole_answered h (command.Edit n path g) o).1 refl refl refl
answer-by h (command.Revert n) v o p = asks-none h (command.Revert n) v o (whole_answered h (command.Revert n) o).1 refl (reverts-none h n) refl
answer-by h (command.Discard n) v o p = asks-none h (command.Discard n) v o (whole_answered h (command.Discard n) o).1 refl refl refl
answer-by h _ v o p = absurd (both-ways (sym p))

-- a device that fails in what watches and copies ask is told of by no note
thrown-by : (h : Whole) (c : Command) (v : World) (u : ℕ) → is_plain c ≡ false → ◌≡◌ {A = List Event} [] (told_by h c v (Reply.thrown u))
unfolding is_plain
thrown-by h (command.Save n) v u p = refl
thrown-by h (command.Move t s uid x y) v u p = absurd (both-ways (sym p))
thrown-by h _ v u p = refl

-- ---- a step

step-watch : (h : Whole) (c : Command) (v : Whole) (r : Reply) (n : ℕ) (w : Watching) → watch h n ≡ Some w → ends_notes n c ≡ false → WholeStep h c v r
    → watch v n ≡ Some (with_notes (told_to w.name (told_by h c v.world r)) w)
unfolding whole_answer
step-watch h c v r n w here keeps s = go (is_plain c) refl
  where
    by : (es : List Event) → es ≡ told_by h c v.world r → watch v n ≡ Some (with_notes (told_to w.name es) w) → watch v n ≡ Some (with_notes (told_to w.name (told_by h c v.world r)) w)
    by es e is = is ∙ ap (λ (es : List Event). Some (with_notes (told_to w.name es) w)) e

    answer-watch : is_plain c ≡ false → (o : Option Refusal) → whole_answered h c o ≡ (v, r) → watch v n ≡ Some (with_notes (told_to w.name (told_by h c v.world r)) w)
    answer-watch p o is = by (if_done o (events_of h.world (asks h c)))
        (answer-by h c v.world o p ∙ ap (λ (a : Whole × Reply). told_by h c v.world a.1) is)
        (ap (λ (a : Whole × Reply). watch a.0 n) (sym is) ∙ step-told h c n w o here (λ e. keeps))

    go : (b : Bool) → is_plain c ≡ b → watch v n ≡ Some (with_notes (told_to w.name (told_by h c v.world r)) w)
    go true p = by (notes_after h.world c v.world r) (plain-by h c v.world r p)
        (ap (λ (x : Whole). watch x n) (plain-told h c v r p s) ∙ all-told (notes_after h.world c v.world r) h.watches n w here)
    go false p = elim (other-steps h c v r p s) [
      | inl is ↦ answer-watch p (first_of (whole_checks h c)) is
      | inr t ↦ by [] (thrown-by h c v.world t.0 p ∙ ap (told_by h c v.world) (sym t.4))
          (ap (λ (x : Whole). watch x n) t.3 ∙ here ∙ ap {A = List Note} {B = Option Watching} (λ ns. Some (record w { notes = ns })) (sym (end w.notes)))
    ]

-- ---- a run

pub run-watch : (h : Whole) (items : List Item) (rows : List (Row Whole)) (n : ℕ) (w : Watching) → watch h n ≡ Some w → IsRun WholeStep h items rows → KeepsWatch n items
    → watch (last_world h rows) n ≡ Some (with_notes (told_to w.name (told_in h items rows)) w)
unfolding told_in
run-watch h [] [] n w here run keeps = here ∙ ap {A = List Note} {B = Option Watching} (λ ns. Some (record w { notes = ns })) (sym (end w.notes))
run-watch h [] (row ∷ rows) n w here run keeps = absurd run
run-watch h (x ∷ xs) [] n w here run keeps = absurd run
run-watch h (Err x ∷ xs) (row ∷ rows) n w here run keeps = run-watch row.0 xs rows n w (ap (λ (y : Whole). watch y n) run.0.0 ∙ here) run.1 keeps.1
run-watch h (Ok c ∷ xs) (row ∷ rows) n w here run keeps =
    let es = told_by h c row.0.world row.1 in
    let fs = told_in row.0 xs rows in
    run-watch row.0 xs rows n (with_notes (told_to w.name es) w) (step-watch h c row.0 row.1 n w here keeps.0 run.0) run.1 keeps.1
    ∙ ap {A = List Note} {B = Option Watching} (λ ns. Some (record w { notes = ns })) (append_assoc w.notes (told_to w.name es) (told_to w.name fs) ∙ ap (λ ns. w.notes ++ ns) (sym (told-more w.name es fs)))

-- ---- the notes are taken

pub step-taken : (h : Whole) (n : ℕ) (w : Watching) (v : Whole) (r : Reply) → watch h n ≡ Some w → WholeStep h (command.Notes n) v r → (watch v n ≡ Some (emptied w)) × (r ≡ notes_reply w)
unfolding is_plain asks whole_checks
step-taken h n w v r here s = elim (other-steps h (command.Notes n) v r refl s) [
  | inl is ↦ let t = notes-taken h n w done here in (ap (λ (a : Whole × Reply). watch a.0 n) (sym is) ∙ t.0, ap (λ (a : Whole × Reply). a.1) (sym is) ∙ t.1)
  | inr t ↦ absurd t.2
]
  where
    done : IsDone h (command.Notes n)
    done = ap (λ (o : Option Watching). first_of ((NoWatch, is_none o) ∷ [])) here
