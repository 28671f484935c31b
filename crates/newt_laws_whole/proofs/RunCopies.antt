-- A working copy in a run where devices may fail.
use Rattle.std.proofs.Common.{◌≡◌, inl, inr, refl, ap, sym, ◌∙◌, subst, ℕ, List, [], ◌∷◌, true, false, Bool, cond, Option, Some, None, option_and_then}
use Rattle.std.specs.Prelude.{Ok, Err}
use Rattle.newt_base.specs.Refusals.{first_of}
use Rattle.newt_base.specs.declared.Refusal.{Refusal}
use Rattle.newt_base.specs.declared.Refusal.TheVariants.{Changed}
use Rattle.newt_spec_graph.proofs.Lists.{both-ways, none-some}
use Rattle.newt_spec_script.specs.Rows.{Goes, IsRun, Row, last_world}
use Rattle.newt_spec_script.specs.Script.{Item}
use Rattle.newt_work.specs.Work.{Copy, copy_at, edited}
use Rattle.newt_spec_world.specs.Alias.{Spot}
use Rattle.newt_spec_world.specs.Answer.{fields, or_nil}
use Rattle.newt_spec_world.specs.Reply.{Reply}
use Rattle.newt_spec_world.specs.declared.command.Command.{Command}
use Rattle.newt_spec_world.specs.declared.command.Command.TheVariants as command
use Rattle.newt_laws_steps.proofs.Replying.{fields_good, is_fault}
use Rattle.newt_laws_world.specs.Worlds.{is_plain}
use Rattle.newt_spec_whole.specs.Whole.{Whole, copy, free_copy, free_watch, living, watch}
use Rattle.newt_spec_whole.specs.Refused.{whole_checks}
use Rattle.newt_spec_whole.specs.Answer.{notes_reply, refusal_reply, whole_answer, whole_answered, whole_fields}
use Rattle.newt_spec_whole.specs.Step.{WholeStep}
use Rattle.newt_laws_whole.specs.Since.{Edit, IsDone, KeepsEdits, Saves, edit_by, edit_in, edits_in, ends_edits, if_done, is_ok, put_all}
use Rattle.newt_laws_whole.proofs.Asking.{other-steps}
use Rattle.newt_laws_whole.proofs.Drafts.{put-more, saves, step-kept}
use Rattle.newt_laws_whole.proofs.Noted.{plain-told}

-- ---- what the reply tells

not-ok : {A : Type 0} (r : Reply) → is_ok r ≡ false → r ≡ Reply.done → A
not-ok r h e = absurd (both-ways (sym h ∙ ap is_ok e))

-- a refusal is not `ok`
pub refusal-not-ok : (h : Whole) (c : Command) (x : Refusal) → is_ok (refusal_reply h c x) ≡ false
refusal-not-ok h (command.Save n) Changed = changed-not (option_and_then (living h) (copy h n))
  where
    changed-not : (o : Option Spot) → is_ok (or_nil (λ (s : Spot). Reply.changed s.entry.time) o) ≡ false
    changed-not None = refl
    changed-not (Some s) = refl
refusal-not-ok h (command.Save n) _ = refl
refusal-not-ok h c x = refl

-- what the whole answers tells of no device that failed
abbrev pub is_thrown : Reply → Bool
is_thrown (Reply.thrown u) = true
is_thrown reply = false

refusal-good : (h : Whole) (c : Command) (x : Refusal) → is_thrown (refusal_reply h c x) ≡ false
refusal-good h (command.Save n) Changed = changed-good (option_and_then (living h) (copy h n))
  where
    changed-good : (o : Option Spot) → is_thrown (or_nil (λ (s : Spot). Reply.changed s.entry.time) o) ≡ false
    changed-good None = refl
    changed-good (Some s) = refl
refusal-good h (command.Save n) _ = refl
refusal-good h c x = refl

or-nil-good : {X : Type 0} (shown : X → Reply) (o : Option X) → ((x : X) → is_thrown (shown x) ≡ false) → is_thrown (or_nil shown o) ≡ false
or-nil-good shown None good = refl
or-nil-good shown (Some x) good = good x

done-good : (h v : Whole) (c : Command) → is_thrown (whole_fields h v c) ≡ false
unfolding whole_fields
done-good h v (command.Watch s most) = or-nil-good {X = ℕ} (λ n. Reply.number n) (free_watch h) (λ n. refl)
done-good h v (command.Notes n) = or-nil-good notes_reply (watch h n) (λ w. refl)
done-good h v (command.Unwatch n) = refl
done-good h v (command.Open u s uid) = or-nil-good {X = ℕ} (λ n. Reply.number n) (free_copy h) (λ n. refl)
done-good h v (command.Draft n) = or-nil-good {X = Copy} (λ k. Reply.literal_of k.draft) (copy h n) (λ k. refl)
done-good h v (command.Edit n path g) = refl
done-good h v (command.Save n) = refl
done-good h v (command.Revert n) = refl
done-good h v (command.Discard n) = refl
done-good h v c = fault-thrown (fields h.world v.world c) (fields_good h.world v.world c)
  where
    fault-thrown : (r : Reply) → is_fault r ≡ false → is_thrown r ≡ false
    fault-thrown (Reply.thrown u) e = e
    fault-thrown (Reply.refused x) e = refl
    fault-thrown _ e = refl

pub answer-good : (h : Whole) (c : Command) → is_thrown (whole_answer h c).1 ≡ false
unfolding whole_answer
answer-good h c = go (first_of (whole_checks h c))
  where
    go : (o : Option Refusal) → is_thrown (whole_answered h c o).1 ≡ false
    go None = done-good h (whole_answered h c None).0 c
    go (Some x) = refusal-good h c x

-- where it is `ok` the command is done
pub ok-done : (h : Whole) (c : Command) (v : Whole) → whole_answer h c ≡ (v, Reply.done) → IsDone h c
unfolding whole_answer
ok-done h c v e = go (first_of (whole_checks h c)) refl
  where
    go : (o : Option Refusal) → first_of (whole_checks h c) ≡ o → first_of (whole_checks h c) ≡ None
    go None is = is
    go (Some x) is = not-ok (refusal_reply h c x) (refusal-not-ok h c x) (ap (λ (a : Whole × Reply). a.1) (sym (ap (whole_answered h c) is) ∙ e))

-- a step that is answered `ok` is the answer of the whole
pub ok-step : (h : Whole) (c : Command) (v : Whole) → is_plain c ≡ false → WholeStep h c v Reply.done → (whole_answer h c ≡ (v, Reply.done)) × IsDone h c
ok-step h c v p s = elim (other-steps h c v Reply.done p s) [
  | inl is ↦ (is, ok-done h c v is)
  | inr t ↦ not-ok (Reply.thrown t.0) refl (sym t.4)
]

-- a command that is done and changes or ends a copy is answered `ok`
pub done-ok : (h v : Whole) (c : Command) (n : ℕ) → ends_edits n c ≡ true → whole_fields h v c ≡ Reply.done
unfolding whole_fields
done-ok h v (command.Save m) n e = refl
done-ok h v (command.Revert m) n e = refl
done-ok h v (command.Discard m) n e = refl
done-ok h v _ n e = absurd (both-ways e)

-- the edit that is done, by the reply
edit-told : (h : Whole) (c : Command) (n : ℕ) (o : Option Refusal) → if_done o (edit_by n c) ≡ edit_in n (Ok c) (whole_answered h c o).1
unfolding whole_fields
edit-told h (command.Edit m path g) n None = refl
edit-told h (command.Edit m path g) n (Some x) = refl
edit-told h c n o = nothing o (is_ok (whole_answered h c o).1)
  where
    nothing : (o : Option Refusal) (b : Bool) → ◌≡◌ {A = List Edit} (if_done o []) (cond b [] [])
    nothing None true = refl
    nothing None false = refl
    nothing (Some x) true = refl
    nothing (Some x) false = refl

-- no edit, however it is answered
none-either : (b : Bool) → ◌≡◌ {A = List Edit} (cond b [] []) []
none-either true = refl
none-either false = refl

plain-edit : (n : ℕ) (c : Command) (r : Reply) → is_plain c ≡ true → ◌≡◌ {A = List Edit} (edit_in n (Ok c) r) []
unfolding is_plain
plain-edit n (command.Edit m path g) r p = absurd (both-ways p)
plain-edit n _ r p = none-either (is_ok r)

-- ---- a step

-- the copies stay where the world makes the step, and where a device fails
same-copy : (h v : Whole) (n : ℕ) (k : Copy) (es : List Edit) → v.copies ≡ h.copies → es ≡ [] → copy h n ≡ Some k → copy v n ≡ Some (edited (put_all k.draft es) k)
same-copy h v n k es same none here =
    ap (λ (ks : List (Option Copy)). copy_at n ks) same ∙ here ∙ ap (λ (es : List Edit). Some (edited (put_all k.draft es) k)) (sym none)

pub thrown-copies : (h : Whole) (c : Command) (v : Whole) (u : ℕ) → WholeStep h c v (Reply.thrown u) → v.copies ≡ h.copies
thrown-copies h c v u s = go (is_plain c) refl
  where
    go : (b : Bool) → is_plain c ≡ b → v.copies ≡ h.copies
    go true p = ap (λ (x : Whole). x.copies) (plain-told h c v (Reply.thrown u) p s)
    go false p = elim (other-steps h c v (Reply.thrown u) p s) [
      | inl is ↦ absurd (both-ways (sym (answer-good h c) ∙ ap (λ (a : Whole × Reply). is_thrown a.1) is))
      | inr t ↦ ap (λ (x : Whole). x.copies) t.3
    ]

step-copies : (h : Whole) (c : Command) (v : Whole) (r : Reply) (n : ℕ) (k : Copy) → copy h n ≡ Some k → WholeStep h c v r → (r ≡ Reply.done → ends_edits n c ≡ false)
    → copy v n ≡ Some (edited (put_all k.draft (edit_in n (Ok c) r)) k)
unfolding whole_answer
step-copies h c v r n k here s keeps = go (is_plain c) refl
  where
    answer-copies : (o : Option Refusal) → first_of (whole_checks h c) ≡ o → whole_answered h c o ≡ (v, r) → copy v n ≡ Some (edited (put_all k.draft (edit_in n (Ok c) r)) k)
    answer-copies o e is =
        ap (λ (a : Whole × Reply). copy a.0 n) (sym is)
        ∙ step-kept h c n k o here (on o is)
        ∙ ap (λ (es : List Edit). Some (edited (put_all k.draft es) k)) (edit-told h c n o ∙ ap (λ (a : Whole × Reply). edit_in n (Ok c) a.1) is)
      where
        on : (o : Option Refusal) → whole_answered h c o ≡ (v, r) → o ≡ None → ends_edits n c ≡ false
        on (Some x) is e = absurd (none-some x (sym e))
        on None is e = either (ends_edits n c) refl
          where
            either : (b : Bool) → ends_edits n c ≡ b → ends_edits n c ≡ false
            either false e = e
            either true e = keeps (sym (ap (λ (a : Whole × Reply). a.1) is) ∙ done-ok h (whole_answered h c None).0 c n e)

    go : (b : Bool) → is_plain c ≡ b → copy v n ≡ Some (edited (put_all k.draft (edit_in n (Ok c) r)) k)
    go true p = same-copy h v n k (edit_in n (Ok c) r) (ap (λ (x : Whole). x.copies) (plain-told h c v r p s)) (plain-edit n c r p) here
    go false p = elim (other-steps h c v r p s) [
      | inl is ↦ answer-copies (first_of (whole_checks h c)) refl (answer-is is)
      | inr t ↦ same-copy h v n k (edit_in n (Ok c) r) (ap (λ (x : Whole). x.copies) t.3) (ap (edit_in n (Ok c)) t.4) here
    ]
      where
        answer-is : whole_answer h c ≡ (v, r) → whole_answered h c (first_of (whole_checks h c)) ≡ (v, r)
        answer-is is = is

-- ---- a run

item-copies : (h : Whole) (x : Item) (row : Row Whole) (n : ℕ) (k : Copy) → copy h n ≡ Some k → Goes WholeStep h x row
    → ((c : Command) → x ≡ Ok c → row.1 ≡ Reply.done → ends_edits n c ≡ false) → copy row.0 n ≡ Some (edited (put_all k.draft (edit_in n x row.1)) k)
item-copies h (Ok c) row n k here s keeps = step-copies h c row.0 row.1 n k here s (keeps c refl)
item-copies h (Err x) row n k here s keeps = ap (λ (y : Whole). copy y n) s.0 ∙ here

pub run-copies : (h : Whole) (items : List Item) (rows : List (Row Whole)) (n : ℕ) (k : Copy) → copy h n ≡ Some k → IsRun WholeStep h items rows → KeepsEdits n items rows
    → copy (last_world h rows) n ≡ Some (edited (put_all k.draft (edits_in n items rows)) k)
unfolding edits_in KeepsEdits
run-copies h [] [] n k here run keeps = here
run-copies h [] (row ∷ rows) n k here run keeps = absurd run
run-copies h (x ∷ xs) [] n k here run keeps = absurd run
run-copies h (Ok c ∷ xs) (row ∷ rows) n k here run keeps =
    run-copies row.0 xs rows n (edited (put_all k.draft (edit_in n (Ok c) row.1)) k) (step-copies h c row.0 row.1 n k here run.0 keeps.0) run.1 keeps.1
    ∙ ap (λ g. Some (edited g k)) (sym (put-more k.draft (edit_in n (Ok c) row.1) (edits_in n xs rows)))
run-copies h (Err x ∷ xs) (row ∷ rows) n k here run keeps =
    run-copies row.0 xs rows n k (ap (λ (y : Whole). copy y n) run.0.0 ∙ here) run.1 keeps

-- ---- a save

pub step-saves : (h : Whole) (n : ℕ) (k : Copy) (v : Whole) → copy h n ≡ Some k → WholeStep h (command.Save n) v Reply.done → Saves h v k k.draft
unfolding is_plain
step-saves h n k v here s =
    let a = ok-step h (command.Save n) v save-plain s in
    subst (λ (x : Whole × Reply). Saves h x.0 k k.draft) a.0 (saves h n k a.1 here)
  where
    save-plain : is_plain (command.Save n) ≡ false
    save-plain = refl

pub run-saves : (h : Whole) (items : List Item) (rows : List (Row Whole)) (n : ℕ) (k : Copy) (v : Whole) → copy h n ≡ Some k → k.draft ≡ k.base → IsRun WholeStep h items rows
    → KeepsEdits n items rows → WholeStep (last_world h rows) (command.Save n) v Reply.done → Saves (last_world h rows) v k (put_all k.base (edits_in n items rows))
run-saves h items rows n k v here fresh run keeps save =
    let draft = put_all k.draft (edits_in n items rows) in
    let s : Saves (last_world h rows) v (edited draft k) draft = step-saves (last_world h rows) n (edited draft k) v (run-copies h items rows n k here run keeps) save in
    subst (λ g. Saves (last_world h rows) v k (put_all g (edits_in n items rows))) fresh
    (record { spot = s.spot; lives = s.lives; same_time = s.same_time; same_graph = s.same_graph; after = s.after })
