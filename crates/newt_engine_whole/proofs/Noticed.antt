-- A watch is made, asked or taken away.
use Rattle.std.proofs.Common.{◌≡◌, refl, ap, sym, ◌∙◌, subst, ℕ, List, [], ◌∷◌, true, false, Option, Some, None, option_map, slice_set}
use Rattle.std.specs.declared.alloc.AllocError.{AllocError}
use Rattle.std.specs.Prelude.{Ok, Err, is_none, is_some}
use Rattle.std.specs.List.{position}
use Rattle.newt_base.specs.Refusals.{first_of}
use Rattle.newt_base.specs.declared.Refusal.{Refusal}
use Rattle.newt_base.specs.declared.Refusal.TheVariants.{Limit, Watch as NoWatch}
use Rattle.newt_notify.specs.Watch.{Kept, Watching, as_new, emptied, kept_all, kept_of, watch_at, watching}
use Rattle.newt_notify.specs.declared.note.Notes.{Notes}
use Rattle.newt_reply.specs.Said.{said}
use Rattle.newt_reply.specs.declared.reply.Reply.{Reply}
use Rattle.newt_reply.specs.declared.reply.Reply.TheVariants as reply
use Rattle.newt_spec_graph.proofs.Lists.{both-ways, none-some, some-same}
use Rattle.newt_spec_store.specs.Store.{Store}
use Rattle.newt_spec_whole.specs.Answer.{copies_after, put_at, notes_reply, watches_after, whole_answer, whole_answered, whole_fields}
use Rattle.newt_spec_whole.specs.Refused.{whole_checks}
use Rattle.newt_spec_whole.specs.Whole as plain
use Rattle.newt_spec_whole.specs.Whole.{asks, watch}
use Rattle.newt_spec_world.specs.Answer.{or_nil}
use Rattle.newt_spec_world.specs.Reply as replies
use Rattle.newt_spec_world.specs.World.{change_at}
use Rattle.newt_spec_world.specs.declared.command.Command.{Command}
use Rattle.newt_spec_world.specs.declared.command.Command.TheVariants as command
use Rattle.newt_laws_whole.specs.Runs.{DraftsFit}
use Rattle.newt_engine.specs.Calls.{IsNotThrown}
use Rattle.newt_engine.specs.Standing.{means}
use Rattle.newt_engine.specs.declared.world.World.{World as Engine}
use Rattle.newt_engine_whole.specs.Calls.{AnsweredApart}
use Rattle.newt_engine_whole.specs.Ends.{whole_takes_memory}
use Rattle.newt_engine_whole.specs.Kept.{is_refusal}
use Rattle.newt_engine_whole.specs.Standing.{AreKept, Means}
use Rattle.newt_engine_whole.specs.declared.whole.Whole.{Whole}
use Rattle.newt_engine_whole.proofs.Leaving.{no-refusal}
use Rattle.newt_engine_whole.proofs.Keeping.{kept-at, kept-emptied, kept-free, kept-set}

-- ---- what the whole answers

module _ (h : plain.Whole) where
  watch-answered : (s : List ℕ) (most n : ℕ) → position is_none h.watches ≡ Some n
      → whole_answer h (command.Watch s most) ≡ (record h { watches = slice_set h.watches n (Some (watching s most)) }, replies.Reply.number n)
  unfolding whole_answer whole_checks whole_fields watches_after copies_after asks
  watch-answered s most n free =
      ap {A = Option ℕ} (λ o. whole_answered h (command.Watch s most) (first_of ((Limit, is_none o) ∷ []))) free
      ∙ ap {A = Option ℕ} {B = plain.Whole × replies.Reply} (λ o. (record h { watches = put_at o (watching s most) h.watches }, or_nil replies.Reply.number o)) free

  watch-full : (s : List ℕ) (most : ℕ) → position is_none h.watches ≡ None → whole_answer h (command.Watch s most) ≡ (h, replies.Reply.refused Limit)
  unfolding whole_answer whole_checks
  watch-full s most full = ap {A = Option ℕ} (λ o. whole_answered h (command.Watch s most) (first_of ((Limit, is_none o) ∷ []))) full

  module _ (n : ℕ) where
    notes-answered : (w : Watching) → watch h n ≡ Some w → whole_answer h (command.Notes n) ≡ (record h { watches = change_at n emptied h.watches }, notes_reply w)
    unfolding whole_answer whole_checks whole_fields watches_after copies_after asks
    notes-answered w is =
        ap {A = Option Watching} (λ o. whole_answered h (command.Notes n) (first_of ((NoWatch, is_none o) ∷ []))) is
        ∙ ap {A = Option Watching} {B = plain.Whole × replies.Reply} (λ o. (record h { watches = change_at n emptied h.watches }, or_nil notes_reply o)) is

    notes-none : watch h n ≡ None → whole_answer h (command.Notes n) ≡ (h, replies.Reply.refused NoWatch)
    unfolding whole_answer whole_checks
    notes-none lacks = ap {A = Option Watching} (λ o. whole_answered h (command.Notes n) (first_of ((NoWatch, is_none o) ∷ []))) lacks

    unwatch-answered : (w : Watching) → watch h n ≡ Some w → whole_answer h (command.Unwatch n) ≡ (record h { watches = slice_set h.watches n None }, replies.Reply.done)
    unfolding whole_answer whole_checks whole_fields watches_after copies_after asks
    unwatch-answered w is = ap {A = Option Watching} (λ o. whole_answered h (command.Unwatch n) (first_of ((NoWatch, is_none o) ∷ []))) is

    unwatch-none : watch h n ≡ None → whole_answer h (command.Unwatch n) ≡ (h, replies.Reply.refused NoWatch)
    unfolding whole_answer whole_checks
    unwatch-none lacks = ap {A = Option Watching} (λ o. whole_answered h (command.Unwatch n) (first_of ((NoWatch, is_none o) ∷ []))) lacks

-- ---- a watch that is there or is not

none-of : {X Y : Type 0} (f : X → Y) (o : Option X) → is_some (option_map f o) ≡ false → o ≡ None
none-of f None h = refl
none-of f (Some x) h = absurd (both-ways (sym h))

some-of : {X Y : Type 0} (f : X → Y) (o : Option X) → is_some (option_map f o) ≡ true → (x : X) × (o ≡ Some x)
some-of f None h = absurd (both-ways h)
some-of f (Some x) h = (x, refl)

-- the watch of the whole, by what is kept
at-kept : (n : ℕ) (h : plain.Whole) (kept : List (Option Kept)) → kept ≡ kept_all h.watches → watch_at n kept ≡ option_map kept_of (watch h n)
at-kept n h kept is = ap (watch_at n) is ∙ kept-at h.watches n

module _ {C : Type 0} {reads : List ℕ → Option Store} {old new : Whole C} where
  -- ---- a command that changes the watches alone

  noticed : (c : Command) (it : Reply) (after : List (Option Watching) → List (Option Watching)) → new.world ≡ old.world → new.works ≡ old.works
      → ((ws : List (Option Watching)) → old.watches ≡ kept_all ws → new.watches ≡ kept_all (after ws))
      → ((h : plain.Whole) → old.watches ≡ kept_all h.watches → whole_answer h c ≡ (record h { watches = after h.watches }, said it))
      → IsNotThrown it → is_refusal (said it) ≡ false → AnsweredApart reads c old new (Ok it)
  noticed c it after world works kept answers quiet never = record {
    world = world;
    watches = λ ws. (after ws.0, kept ws.0 ws.1);
    drafts = λ fit. subst DraftsFit (sym works) fit;
    answered = λ outside h m. (
      record h { watches = after h.watches },
      answers h m.watches,
      record {
        world = subst (λ (w : Engine C). means reads w outside h.world) (sym world) m.world;
        watches = kept h.watches m.watches;
        copies = works ∙ m.copies;
      },
    );
    quiet = quiet;
    kept = λ no. no-refusal refl never no;
    memory = λ none. refl;
  }

  -- it is refused
  pub apart-refused : (c : Command) (r : Refusal) → new ≡ old → ((h : plain.Whole) → old.watches ≡ kept_all h.watches → old.works ≡ h.copies → whole_answer h c ≡ (h, replies.Reply.refused r))
      → AnsweredApart reads c old new (Ok (reply.Refused r))
  apart-refused c r same answers = record {
    world = ap (λ (x : Whole C). x.world) same;
    watches = subst (λ (x : Whole C). AreKept x.watches) (sym same);
    drafts = subst (λ (x : Whole C). DraftsFit x.works) (sym same);
    answered = λ outside h m. (h, answers h m.watches m.copies, subst (λ (x : Whole C). Means reads x outside h) (sym same) m);
    quiet = λ u. refl;
    kept = λ no. (ap (λ (x : Whole C). x.watches) same, ap (λ (x : Whole C). x.works) same);
    memory = λ none. refl;
  }

  -- memory was refused
  pub apart-memory : (c : Command) (error : AllocError) → whole_takes_memory c ≡ true → new ≡ old → AnsweredApart reads c old new (Err error)
  apart-memory c error takes same = record {
    world = ap (λ (x : Whole C). x.world) same;
    watches = subst (λ (x : Whole C). AreKept x.watches) (sym same);
    drafts = subst (λ (x : Whole C). DraftsFit x.works) (sym same);
    answered = λ outside h m. tt;
    quiet = tt;
    kept = tt;
    memory = λ none. absurd (both-ways (sym none ∙ takes));
  }

  -- ---- the commands

  pub watch-made : (s : List ℕ) (most n : ℕ) → new.world ≡ old.world → new.works ≡ old.works → position is_none old.watches ≡ Some n
      → new.watches ≡ slice_set old.watches n (Some (kept_of (watching s most))) → AnsweredApart reads (command.Watch s most) old new (Ok (reply.Number n))
  watch-made s most n world works free is = noticed (command.Watch s most) (reply.Number n) (λ ws. slice_set ws n (Some (watching s most))) world works
      (λ ws kept. is ∙ ap (λ (ks : List (Option Kept)). slice_set ks n (Some (kept_of (watching s most)))) kept ∙ kept-set ws n (Some (watching s most)))
      (λ h kept. watch-answered h s most n (sym (kept-free h.watches) ∙ ap (position is_none) (sym kept) ∙ free))
      (λ u. refl) refl

  pub no-place : (s : List ℕ) (most : ℕ) → new ≡ old → position is_none old.watches ≡ None → AnsweredApart reads (command.Watch s most) old new (Ok (reply.Refused Limit))
  no-place s most same full = apart-refused (command.Watch s most) Limit same
      (λ h kept copies. watch-full h s most (sym (kept-free h.watches) ∙ ap (position is_none) (sym kept) ∙ full))

  module _ (n : ℕ) where
    pub notes-taken : (notes : Notes) → new.world ≡ old.world → new.works ≡ old.works
        → Some notes.lost ≡ option_map (λ k. k.lost) (watch_at n old.watches) → Some notes.list ≡ option_map (λ k. k.last) (watch_at n old.watches)
        → new.watches ≡ slice_set old.watches n (option_map as_new (watch_at n old.watches)) → AnsweredApart reads (command.Notes n) old new (Ok (reply.Notes notes))
    notes-taken notes world works lost last empty = noticed (command.Notes n) (reply.Notes notes) (change_at n emptied) world works
        (λ ws kept. empty ∙ ap (λ (ks : List (Option Kept)). slice_set ks n (option_map as_new (watch_at n ks))) kept ∙ kept-emptied ws n)
        (λ h kept. go h (watch h n) refl (lost ∙ ap (option_map (λ (k : Kept). k.lost)) (at-kept n h old.watches kept)) (last ∙ ap (option_map (λ (k : Kept). k.last)) (at-kept n h old.watches kept)))
        (λ u. refl) refl
      where
        go : (h : plain.Whole) (o : Option Watching) → watch h n ≡ o → Some notes.lost ≡ option_map (λ k. k.lost) (option_map kept_of o) → Some notes.list ≡ option_map (λ k. k.last) (option_map kept_of o)
            → whole_answer h (command.Notes n) ≡ (record h { watches = change_at n emptied h.watches }, replies.Reply.notes notes.lost notes.list)
        go h None e lost last = absurd (none-some notes.lost (sym lost))
        go h (Some w) e lost last =
            notes-answered h n w e
            ∙ ap {A = ℕ} {B = plain.Whole × replies.Reply} (λ m. (record h { watches = change_at n emptied h.watches }, replies.Reply.notes m (kept_of w).last)) (sym (some-same notes.lost (kept_of w).lost lost))
            ∙ ap {B = plain.Whole × replies.Reply} (λ l. (record h { watches = change_at n emptied h.watches }, replies.Reply.notes notes.lost l)) (sym (some-same notes.list (kept_of w).last last))

    pub no-notes : new ≡ old → is_some (watch_at n old.watches) ≡ false → AnsweredApart reads (command.Notes n) old new (Ok (reply.Refused NoWatch))
    no-notes same lacks = apart-refused (command.Notes n) NoWatch same (λ h kept copies. notes-none h n (none-of kept_of (watch h n) (ap is_some (sym (at-kept n h old.watches kept)) ∙ lacks)))

    pub unwatched : new.world ≡ old.world → new.works ≡ old.works → is_some (watch_at n old.watches) ≡ true → new.watches ≡ slice_set old.watches n None
        → AnsweredApart reads (command.Unwatch n) old new (Ok reply.Done)
    unwatched world works there is = noticed (command.Unwatch n) reply.Done (λ ws. slice_set ws n None) world works
        (λ ws kept. is ∙ ap (λ (ks : List (Option Kept)). slice_set ks n None) kept ∙ kept-set ws n None)
        (λ h kept. let w = some-of kept_of (watch h n) (ap is_some (sym (at-kept n h old.watches kept)) ∙ there) in unwatch-answered h n w.0 w.1)
        (λ u. refl) refl

    pub not-watched : new ≡ old → is_some (watch_at n old.watches) ≡ false → AnsweredApart reads (command.Unwatch n) old new (Ok (reply.Refused NoWatch))
    not-watched same lacks = apart-refused (command.Unwatch n) NoWatch same (λ h kept copies. unwatch-none h n (none-of kept_of (watch h n) (ap is_some (sym (at-kept n h old.watches kept)) ∙ lacks)))
