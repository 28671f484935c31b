-- A watch after a command.
use Rattle.std.proofs.Common.{◌≡◌, refl, ap, sym, ◌∙◌, ℕ, zero, suc, List, [], ◌∷◌, ◌++◌, true, false, Bool, if◌then◌else◌, Option, Some, None, option_map, map, append_assoc}
use Rattle.std.specs.Prelude.{slice_get, is_none}
use Rattle.std.specs.List.{position}
use Rattle.newt_base.specs.Names.{equal_text}
use Rattle.newt_base.specs.declared.Refusal.{Refusal}
use Rattle.newt_notify.specs.declared.note.Note.{Note}
use Rattle.newt_notify.specs.Watch.{Watching, taking, noted, watching, emptied}
use Rattle.newt_spec_world.specs.World.{flat}
use Rattle.newt_spec_world.specs.Answer.{or_nil}
use Rattle.newt_spec_world.specs.declared.command.Command.{Command}
use Rattle.newt_spec_world.specs.declared.command.Command.TheVariants as command
use Rattle.newt_laws_world.proofs.Units.{at-same, at-other}
use Rattle.newt_spec_whole.specs.Whole.{Whole, watch, asks}
use Rattle.newt_spec_whole.specs.Events.{Event, events_of, note_all}
use Rattle.newt_spec_whole.specs.Answer.{whole_answer, whole_answered, whole_fields, watches_after, put_at, notes_reply}
use Rattle.newt_laws_whole.specs.Since.{IsDone, if_done}
use Rattle.newt_laws_whole.specs.Told.{told_to, ends_notes, with_notes}
use Rattle.newt_laws_whole.proofs.Places.{set-other, free-other}
use Rattle.newt_laws_whole.proofs.Drafts.{apart}

-- ---- notes are given

pub end : {X : Type 0} (xs : List X) → xs ++ [] ≡ xs
end [] = refl
end (x ∷ xs) = ap (λ ys. x ∷ ys) (end xs)

each-at : {X : Type 0} (f : X → X) (xs : List (Option X)) (n : ℕ) → flat (slice_get (map (option_map f) xs) n) ≡ option_map f (flat (slice_get xs n))
each-at f [] n = refl
each-at f (x ∷ xs) zero = refl
each-at f (x ∷ xs) (suc n) = each-at f xs n

-- one note, and more
one-told : (e : Event) (es : List Event) (w : Watching) → with_notes (told_to (taking e.0 e.1 w).name es) (taking e.0 e.1 w) ≡ with_notes (told_to w.name (e ∷ es)) w
one-told e es w = go (equal_text e.0 w.name)
  where
    taken : Bool → Watching
    taken b = if b then record w { notes = w.notes ++ e.1 ∷ [] } else w

    go : (b : Bool) → with_notes (told_to (taken b).name es) (taken b) ≡ with_notes (if b then e.1 ∷ told_to w.name es else told_to w.name es) w
    go true = ap {A = List Note} {B = Watching} (λ ns. record w { notes = ns }) (append_assoc w.notes (e.1 ∷ []) (told_to w.name es))
    go false = refl

pub all-told : (es : List Event) (ws : List (Option Watching)) (n : ℕ) (w : Watching) → flat (slice_get ws n) ≡ Some w
    → flat (slice_get (note_all es ws) n) ≡ Some (with_notes (told_to w.name es) w)
all-told [] ws n w here = here ∙ ap {A = List Note} {B = Option Watching} (λ ns. Some (record w { notes = ns })) (sym (end w.notes))
all-told (e ∷ es) ws n w here =
    all-told es (noted e.0 e.1 ws) n (taking e.0 e.1 w) (each-at (taking e.0 e.1) ws n ∙ ap (option_map (taking e.0 e.1)) here)
    ∙ ap (λ (v : Watching). Some v) (one-told e es w)

-- ---- one command

new-beside : (n : ℕ) (w new : Watching) (ws : List (Option Watching)) → flat (slice_get ws n) ≡ Some w → flat (slice_get (put_at (position is_none ws) new ws) n) ≡ Some w
new-beside n w new ws here = go (position is_none ws) refl
  where
    go : (o : Option ℕ) → position is_none ws ≡ o → flat (slice_get (put_at o new ws) n) ≡ Some w
    go None e = here
    go (Some m) e = set-other m n (Some new) ws (free-other m n w ws e here) ∙ here

row-kept : (h : Whole) (c : Command) (n : ℕ) (w : Watching) → watch h n ≡ Some w → ends_notes n c ≡ false → flat (slice_get (watches_after h c) n) ≡ Some w
unfolding watches_after
row-kept h (command.Watch s most) n w here on = new-beside n w (watching s most) h.watches here
row-kept h (command.Notes m) n w here on = at-other m n emptied h.watches (apart m n on) ∙ here
row-kept h (command.Unwatch m) n w here on = set-other m n None h.watches (apart m n on) ∙ here
row-kept h _ n w here on = here

pub step-told : (h : Whole) (c : Command) (n : ℕ) (w : Watching) (o : Option Refusal) → watch h n ≡ Some w → (o ≡ None → ends_notes n c ≡ false)
    → watch (whole_answered h c o).0 n ≡ Some (with_notes (told_to w.name (if_done o (events_of h.world (asks h c)))) w)
step-told h c n w (Some r) here on = here ∙ ap {A = List Note} {B = Option Watching} (λ ns. Some (record w { notes = ns })) (sym (end w.notes))
step-told h c n w None here on = all-told (events_of h.world (asks h c)) (watches_after h c) n w (row-kept h c n w here (on refl))

-- ---- more notes

pub told-more : (name : List ℕ) (es fs : List Event) → told_to name (es ++ fs) ≡ told_to name es ++ told_to name fs
told-more name [] fs = refl
told-more name (e ∷ es) fs = go (equal_text e.0 name) (told-more name es fs)
  where
    go : (b : Bool) → told_to name (es ++ fs) ≡ told_to name es ++ told_to name fs
        → (if b then e.1 ∷ told_to name (es ++ fs) else told_to name (es ++ fs)) ≡ (if b then e.1 ∷ told_to name es else told_to name es) ++ told_to name fs
    go true more = ap (λ ns. e.1 ∷ ns) more
    go false more = more

-- ---- the notes are taken

pub notes-taken : (h : Whole) (n : ℕ) (w : Watching) → IsDone h (command.Notes n) → watch h n ≡ Some w
    → (watch (whole_answer h (command.Notes n)).0 n ≡ Some (emptied w)) × ((whole_answer h (command.Notes n)).1 ≡ notes_reply w)
unfolding whole_answer watches_after whole_fields asks
notes-taken h n w done here = (
  ap (λ o. watch (whole_answered h (command.Notes n) o).0 n) done ∙ at-same n emptied h.watches ∙ ap (option_map emptied) here,
  ap (λ o. (whole_answered h (command.Notes n) o).1) done ∙ ap (or_nil notes_reply) here,
)
