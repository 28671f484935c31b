-- What the whole answers. Replies are this project's own.
use Rattle.std.specs.Prelude.{ℕ, List, [], ◌∷◌, Option, Some, None, option_and_then, slice_set}
use Rattle.newt_base.specs.Refusals.{first_of}
use Rattle.newt_base.specs.declared.Refusal.{Refusal}
use Rattle.newt_base.specs.declared.Refusal.TheVariants.{Changed}
use Rattle.newt_spec_store.specs.Store.{Entry, Soup, Store}
use Rattle.newt_notify.specs.Watch.{Watching, watching, emptied, kept_of}
use Rattle.newt_work.specs.Work.{Copy, opened, drafted, rebased}
use Rattle.newt_spec_world.specs.World.{World, change_at, mounted_store, soup_in, entry_in, settle}
use Rattle.newt_spec_world.specs.Changed.{changed}
use Rattle.newt_spec_world.specs.Alias.{Spot}
use Rattle.newt_spec_world.specs.Reply.{Reply}
use Rattle.newt_spec_world.specs.Answer.{or_nil, fields}
use Rattle.newt_spec_world.specs.declared.command.Command.{Command}
use Rattle.newt_spec_world.specs.declared.command.Command.TheVariants as command
use Rattle.newt_spec_whole.specs.Whole.{Whole, asks, watch, free_watch, copy, free_copy, living}
use Rattle.newt_spec_whole.specs.Events.{events_of, note_all}
use Rattle.newt_spec_whole.specs.Refused.{whole_checks}

-- ---- what changes

-- the world after what is asked of it, with its cursors settled (this project's own)
abbrev pub world_after : World → Option Command → World
world_after w None = w
world_after w (Some c) = settle (changed w c)

-- the list with something new at a number, if one is given (a word of these definitions)
abbrev pub put_at : {X : Type 0} → Option ℕ → X → List (Option X) → List (Option X)
put_at None x xs = xs
put_at (Some n) x xs = slice_set xs n (Some x)

-- the table: the watches after each command, before its own notes (this project's own)
unfoldable pub watches_after : Whole → Command → List (Option Watching)
watches_after h (command.Watch s most) = put_at (free_watch h) (watching s most) h.watches
watches_after h (command.Notes n) = change_at n emptied h.watches
watches_after h (command.Unwatch n) = slice_set h.watches n None
watches_after h _ = h.watches

-- the copy that is opened of an entry in a soup of a store; none where one of them is missing (this
-- project's own)
abbrev pub opened_of : Option Store → Option Soup → Option Entry → Option Copy
opened_of (Some t) (Some p) (Some e) = Some (opened t.sig p.sig e.uid e.time e.graph)
opened_of _ _ _ = None

-- the copies with this one, if there is one, at a number (a word of these definitions)
abbrev pub put_copy : Option ℕ → Option Copy → List (Option Copy) → List (Option Copy)
put_copy n None ks = ks
put_copy n (Some k) ks = put_at n k ks

-- the copy begun anew from the entry as it is now; as it was where the entry is not there (this
-- project's own)
abbrev pub reverted : Whole → Copy → Copy
reverted h k = elim (living h k) [ None ↦ k | Some s ↦ rebased s.entry.time s.entry.graph k ]

-- the table: the working copies after each command (this project's own)
unfoldable pub copies_after : Whole → Command → List (Option Copy)
copies_after h (command.Open u s uid) =
    let new = opened_of (mounted_store h.world u) (soup_in h.world u s) (entry_in h.world u s uid) in
    put_copy (free_copy h) new h.copies
copies_after h (command.Edit n path g) = change_at n (drafted path g) h.copies
copies_after h (command.Save n) = change_at n (λ k. rebased h.world.minute k.draft k) h.copies
copies_after h (command.Revert n) = change_at n (reverted h) h.copies
copies_after h (command.Discard n) = slice_set h.copies n None
copies_after h _ = h.copies

-- The whole after a command: the world after what is asked of it, the watches with the notes of
-- that, and the copies. (this project's own)
abbrev pub whole_after : Whole → Command → Whole
whole_after h c = record {
  world = world_after h.world (asks h c);
  watches = note_all (events_of h.world (asks h c)) (watches_after h c);
  copies = copies_after h c;
}

-- ---- what is replied

-- the last notes of a watch, and the number of those that are lost (this project's own)
abbrev pub notes_reply : Watching → Reply
notes_reply w = let kept = kept_of w in Reply.notes kept.lost kept.last

-- the table: the reply of each command that is not refused, from the whole before it and the whole
-- after it (this project's own)
unfoldable pub whole_fields : Whole → Whole → Command → Reply
whole_fields h v (command.Watch s most) = or_nil Reply.number (free_watch h)
whole_fields h v (command.Notes n) = or_nil notes_reply (watch h n)
whole_fields h v (command.Unwatch n) = Reply.done
whole_fields h v (command.Open u s uid) = or_nil Reply.number (free_copy h)
whole_fields h v (command.Draft n) = or_nil (λ k. Reply.literal_of k.draft) (copy h n)
whole_fields h v (command.Edit n path g) = Reply.done
whole_fields h v (command.Save n) = Reply.done
whole_fields h v (command.Revert n) = Reply.done
whole_fields h v (command.Discard n) = Reply.done
whole_fields h v c = fields h.world v.world c

-- the present time of the entry that a copy is of (this project's own)
abbrev pub time_now : Whole → ℕ → Reply
time_now h n =
    or_nil (λ (s : Spot). Reply.changed s.entry.time) (option_and_then (living h) (copy h n))

-- the reply to a refusal; where the entry has changed, its present time stands there too (this
-- project's own)
abbrev pub refusal_reply : Whole → Command → Refusal → Reply
refusal_reply h (command.Save n) Changed = time_now h n
refusal_reply h c r = Reply.refused r

-- ---- one command, and a run of them

-- a command that is refused leaves the whole as it is (this project's own)
abbrev pub whole_answered : Whole → Command → Option Refusal → Whole × Reply
whole_answered h c (Some refusal) = (h, refusal_reply h c refusal)
whole_answered h c None = let v = whole_after h c in (v, whole_fields h v c)

-- the whole after a command, and its reply (this project's own)
unfoldable pub whole_answer : Whole → Command → Whole × Reply
whole_answer h c = whole_answered h c (first_of (whole_checks h c))

-- the whole after commands one after another (a word of these definitions)
abbrev pub whole_later : Whole → List Command → Whole
whole_later h [] = h
whole_later h (c ∷ cs) = whole_later (whole_answer h c).0 cs

-- their replies (a word of these definitions)
abbrev pub whole_replies : Whole → List Command → List Reply
whole_replies h [] = []
whole_replies h (c ∷ cs) = let a = whole_answer h c in a.1 ∷ whole_replies a.0 cs
