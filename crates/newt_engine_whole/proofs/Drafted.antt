-- A draft is shown, edited or discarded.
use Rattle.std.proofs.Common.{◌≡◌, refl, ap, sym, ◌∙◌, subst, ℕ, zero, suc, List, [], ◌∷◌, Bool, true, false, not, Option, Some, None, option_map, option_and_then, unwrap_or, slice_set, nat_lt, MatchBool}
use Rattle.std.specs.Prelude.{Ok, slice_get, is_none, is_some}
use Rattle.newt_base.specs.Refusals.{Checks, first_of}
use Rattle.newt_base.specs.declared.Refusal.TheVariants.{Copy as NoCopy, Limit, Path as NoPath, Size}
use Rattle.newt_graph.specs.Graph.{RawGraph}
use Rattle.newt_graph.specs.Meeting.{normal_form}
use Rattle.newt_path.specs.Put.{IsFormOf, PassesALimit}
use Rattle.newt_reply.specs.Said.{said}
use Rattle.newt_reply.specs.declared.reply.Reply.{Reply}
use Rattle.newt_reply.specs.declared.reply.Reply.TheVariants as reply
use Rattle.newt_spec_graph.specs.Limits.{is_within, within_limits}
use Rattle.newt_spec_graph.specs.Slots.{put}
use Rattle.newt_spec_graph.proofs.Lists.{both-ways}
use Rattle.newt_spec_script.specs.Rows.{throws}
use Rattle.newt_spec_store.specs.Cost.{skeleton_length}
use Rattle.newt_spec_store.specs.Keys.{Path}
use Rattle.newt_spec_store.specs.Store.{Store}
use Rattle.newt_spec_whole.specs.Answer.{copies_after, watches_after, whole_answer, whole_answered, whole_fields}
use Rattle.newt_spec_whole.specs.Refused.{whole_checks}
use Rattle.newt_spec_whole.specs.Whole as plain
use Rattle.newt_spec_whole.specs.Whole.{asks, copy}
use Rattle.newt_spec_world.specs.Answer.{or_nil}
use Rattle.newt_spec_world.specs.Refused.{on_some}
use Rattle.newt_spec_world.specs.Reply as replies
use Rattle.newt_spec_world.specs.World.{change_at}
use Rattle.newt_spec_world.specs.declared.command.Command.TheVariants as command
use Rattle.newt_work.specs.Work.{Copy, copy_at, draft_with, drafted, edited}
use Rattle.newt_laws_images.proofs.Within.{graph-within}
use Rattle.newt_laws_whole.specs.Runs.{CanBeEntry, DraftsFit}
use Rattle.newt_laws_whole.proofs.Fits.{change-all, edit-can, gone-all}
use Rattle.newt_engine.specs.Standing.{means}
use Rattle.newt_engine.specs.declared.world.World.{World as Engine}
use Rattle.newt_engine_commands.proofs.Replacing.{raw-of}
use Rattle.newt_engine_whole.specs.Calls.{AnsweredApart}
use Rattle.newt_engine_whole.specs.Standing.{AreKept, Means}
use Rattle.newt_engine_whole.specs.declared.whole.Whole.{Whole}
use Rattle.newt_engine_whole.proofs.Leaving.{no-refusal}
use Rattle.newt_engine_whole.proofs.Noticed.{apart-refused}

-- ---- places

pub set-change : (f : Copy → Copy) (ks : List (Option Copy)) (n : ℕ) → slice_set ks n (option_map f (copy_at n ks)) ≡ change_at n f ks
set-change f [] n = refl
set-change f (x ∷ ks) zero = refl
set-change f (x ∷ ks) (suc n) = ap (λ ys. x ∷ ys) (set-change f ks n)

pub change-as : (f g : Copy → Copy) (ks : List (Option Copy)) (n : ℕ) (k : Copy) → copy_at n ks ≡ Some k → f k ≡ g k → change_at n f ks ≡ change_at n g ks
change-as f g [] n k there same = refl
change-as f g (x ∷ ks) zero k there same = ap (λ (y : Option Copy). y ∷ ks) (ap (option_map f) there ∙ ap Some same ∙ ap (option_map g) (sym there))
change-as f g (x ∷ ks) (suc n) k there same = ap (λ ys. x ∷ ys) (change-as f g ks n k there same)

pub none-mapped : {X Y : Type 0} (f : X → Y) (o : Option X) → is_some o ≡ false → option_map f o ≡ None
none-mapped f None h = refl
none-mapped f (Some x) h = absurd (both-ways (sym h))

-- ---- what the whole answers

module _ (h : plain.Whole) (n : ℕ) where
  draft-answered : (k : Copy) → copy h n ≡ Some k → whole_answer h (command.Draft n) ≡ (h, replies.Reply.literal_of k.draft)
  unfolding whole_answer whole_checks whole_fields watches_after copies_after asks
  draft-answered k there =
      ap {A = Option Copy} (λ o. whole_answered h (command.Draft n) (first_of ((NoCopy, is_none o) ∷ []))) there
      ∙ ap {A = Option Copy} {B = plain.Whole × replies.Reply} (λ o. (h, or_nil (λ k. replies.Reply.literal_of k.draft) o)) there

  draft-none : copy h n ≡ None → whole_answer h (command.Draft n) ≡ (h, replies.Reply.refused NoCopy)
  unfolding whole_answer whole_checks
  draft-none lacks = ap {A = Option Copy} (λ o. whole_answered h (command.Draft n) (first_of ((NoCopy, is_none o) ∷ []))) lacks

  discard-answered : (k : Copy) → copy h n ≡ Some k → whole_answer h (command.Discard n) ≡ (record h { copies = slice_set h.copies n None }, replies.Reply.done)
  unfolding whole_answer whole_checks whole_fields watches_after copies_after asks
  discard-answered k there = ap {A = Option Copy} (λ o. whole_answered h (command.Discard n) (first_of ((NoCopy, is_none o) ∷ []))) there

  discard-none : copy h n ≡ None → whole_answer h (command.Discard n) ≡ (h, replies.Reply.refused NoCopy)
  unfolding whole_answer whole_checks
  discard-none lacks = ap {A = Option Copy} (λ o. whole_answered h (command.Discard n) (first_of ((NoCopy, is_none o) ∷ []))) lacks

  module _ (path : Path) (g : RawGraph) where
    abbrev tests : Option Copy → Checks
    tests o = (NoCopy, is_none o) ∷ (NoPath, on_some o (λ k. is_none (draft_with path g k)))
        ∷ (Limit, on_some o (λ k. on_some (draft_with path g k) (λ r. not (is_within (normal_form r)))))
        ∷ (Size, on_some o (λ k. nat_lt 64_000 (skeleton_length (drafted path g k).draft))) ∷ []

    -- those of a copy, by what is made and whether it is too large
    abbrev rest : Option RawGraph → Bool → Checks
    rest made large = (NoPath, is_none made) ∷ (Limit, on_some made (λ r. not (is_within (normal_form r)))) ∷ (Size, large) ∷ []

    edit-by : (o : Option Copy) → copy h n ≡ o → whole_answer h (command.Edit n path g) ≡ whole_answered h (command.Edit n path g) (first_of (tests o))
    unfolding whole_answer whole_checks
    edit-by o there = ap {A = Option Copy} (λ o. whole_answered h (command.Edit n path g) (first_of (tests o))) there

    edit-none : copy h n ≡ None → whole_answer h (command.Edit n path g) ≡ (h, replies.Reply.refused NoCopy)
    edit-none lacks = edit-by None lacks

    module _ (k : Copy) (there : copy h n ≡ Some k) where
      abbrev large : Bool
      large = nat_lt 64_000 (skeleton_length (drafted path g k).draft)

      edit-nowhere : put k.draft path g ≡ None → whole_answer h (command.Edit n path g) ≡ (h, replies.Reply.refused NoPath)
      edit-nowhere none = edit-by (Some k) there ∙ ap {A = Option RawGraph} (λ o. whole_answered h (command.Edit n path g) (first_of (rest o large))) none

      module _ (raw : RawGraph) (made : put k.draft path g ≡ Some raw) where
        edit-made : (b : Bool) → is_within (normal_form raw) ≡ b → whole_answer h (command.Edit n path g) ≡ whole_answered h (command.Edit n path g) (first_of ((Limit, not b) ∷ (Size, large) ∷ []))
        edit-made b within =
            edit-by (Some k) there
            ∙ ap {A = Option RawGraph} (λ o. whole_answered h (command.Edit n path g) (first_of (rest o large))) made
            ∙ ap {A = Bool} (λ b. whole_answered h (command.Edit n path g) (first_of ((Limit, not b) ∷ (Size, large) ∷ []))) within

        edit-past : is_within (normal_form raw) ≡ false → whole_answer h (command.Edit n path g) ≡ (h, replies.Reply.refused Limit)
        edit-past past = edit-made false past

        module _ (x : RawGraph) (form : normal_form raw ≡ Some x) (within : within_limits x ≡ true) where
          -- the draft is what was made
          drafted-is : drafted path g k ≡ edited x k
          drafted-is = ap {A = Option RawGraph} (λ o. edited (unwrap_or (option_and_then normal_form o) k.draft) k) made ∙ ap {A = Option RawGraph} (λ o. edited (unwrap_or o k.draft) k) form

          edit-sized : (b : Bool) → nat_lt 64_000 (skeleton_length x) ≡ b → whole_answer h (command.Edit n path g) ≡ whole_answered h (command.Edit n path g) (first_of ((Size, b) ∷ []))
          edit-sized b size =
              edit-made true (ap is_within form ∙ within)
              ∙ ap {A = Bool} (λ b. whole_answered h (command.Edit n path g) (first_of ((Size, b) ∷ []))) (ap (λ (c : Copy). nat_lt 64_000 (skeleton_length c.draft)) drafted-is ∙ size)

          edit-large : nat_lt 64_000 (skeleton_length x) ≡ true → whole_answer h (command.Edit n path g) ≡ (h, replies.Reply.refused Size)
          edit-large size = edit-sized true size

          edit-done : nat_lt 64_000 (skeleton_length x) ≡ false → whole_answer h (command.Edit n path g) ≡ (record h { copies = change_at n (drafted path g) h.copies }, replies.Reply.done)
          unfolding whole_fields watches_after copies_after asks
          edit-done size = edit-sized false size

-- ---- what is promised

at-copies : (n : ℕ) (works : List (Option Copy)) (h : plain.Whole) → works ≡ h.copies → copy_at n works ≡ copy h n
at-copies n works h copies = ap (copy_at n) copies

there-in : (n : ℕ) (works : List (Option Copy)) (h : plain.Whole) (k : Copy) → works ≡ h.copies → Some k ≡ copy_at n works → copy h n ≡ Some k
there-in n works h k copies there = sym (at-copies n works h copies) ∙ sym there

module _ {C : Type 0} {reads : List ℕ → Option Store} {old new : Whole C} (n : ℕ) where
  pub shown : (k : Copy) → Some k ≡ copy_at n old.works → new ≡ old → AnsweredApart reads (command.Draft n) old new (Ok (reply.Literal k.draft))
  shown k there same = record {
    world = ap (λ (x : Whole C). x.world) same;
    watches = subst (λ (x : Whole C). AreKept x.watches) (sym same);
    drafts = subst (λ (x : Whole C). DraftsFit x.works) (sym same);
    answered = λ outside h m. (h, draft-answered h n k (there-in n old.works h k m.copies there), subst (λ (x : Whole C). Means reads x outside h) (sym same) m);
    quiet = λ u. refl;
    kept = λ no. (ap (λ (x : Whole C). x.watches) same, ap (λ (x : Whole C). x.works) same);
    memory = λ none. refl;
  }

  pub none-shown : new ≡ old → copy_at n old.works ≡ None → AnsweredApart reads (command.Draft n) old new (Ok (reply.Refused NoCopy))
  none-shown same lacks = apart-refused (command.Draft n) NoCopy same (λ h kept copies. draft-none h n (sym (at-copies n old.works h copies) ∙ lacks))

  pub discarded : (k : Copy) → Some k ≡ copy_at n old.works → new.world ≡ old.world → new.watches ≡ old.watches → new.works ≡ slice_set old.works n None
      → AnsweredApart reads (command.Discard n) old new (Ok reply.Done)
  discarded k there world watches works = record {
    world = world;
    watches = subst AreKept (sym watches);
    drafts = λ fit m j at. gone-all (λ j. CanBeEntry j.draft) old.works fit n m j
        (ap (copy_at m) (sym works) ∙ at);
    answered = λ outside h m. (
      record h { copies = slice_set h.copies n None },
      discard-answered h n k (there-in n old.works h k m.copies there),
      record {
        world = subst (λ (w : Engine C). means reads w outside h.world) (sym world) m.world;
        watches = watches ∙ m.watches;
        copies = works ∙ ap (λ (ks : List (Option Copy)). slice_set ks n None) m.copies;
      },
    );
    quiet = λ u. refl;
    kept = λ no. absurd (both-ways no);
    memory = λ none. refl;
  }

  -- the same, by what was found at its number
  pub discarded-there : {X : Type 0} (f : X → Copy) (o : Option X) → copy_at n old.works ≡ option_map f o → is_some o ≡ true → new.world ≡ old.world → new.watches ≡ old.watches → new.works ≡ slice_set old.works n None
      → AnsweredApart reads (command.Discard n) old new (Ok reply.Done)
  discarded-there {X} f o is some world watches works = go o is some
    where
      go : (o : Option X) → copy_at n old.works ≡ option_map f o → is_some o ≡ true → AnsweredApart reads (command.Discard n) old new (Ok reply.Done)
      go None is some = absurd (both-ways some)
      go (Some x) is some = discarded (f x) (sym is) world watches works

  pub none-discarded : new ≡ old → copy_at n old.works ≡ None → AnsweredApart reads (command.Discard n) old new (Ok (reply.Refused NoCopy))
  none-discarded same lacks = apart-refused (command.Discard n) NoCopy same (λ h kept copies. discard-none h n (sym (at-copies n old.works h copies) ∙ lacks))

  -- ---- an edit

  module _ (path : Path) (g : RawGraph) where
    pub none-edited : new ≡ old → copy_at n old.works ≡ None → AnsweredApart reads (command.Edit n path g) old new (Ok (reply.Refused NoCopy))
    none-edited same lacks = apart-refused (command.Edit n path g) NoCopy same (λ h kept copies. edit-none h n path g (sym (at-copies n old.works h copies) ∙ lacks))

    module _ (k : Copy) (there : Some k ≡ copy_at n old.works) where
      pub no-path : new ≡ old → put k.draft path g ≡ None → AnsweredApart reads (command.Edit n path g) old new (Ok (reply.Refused NoPath))
      no-path same none = apart-refused (command.Edit n path g) NoPath same (λ h kept copies. edit-nowhere h n path g k (there-in n old.works h k copies there) none)

      pub past-limit : new ≡ old → PassesALimit (put k.draft path g) → AnsweredApart reads (command.Edit n path g) old new (Ok (reply.Refused Limit))
      past-limit same passes = apart-refused (command.Edit n path g) Limit same (λ h kept copies. go h (there-in n old.works h k copies there) (put k.draft path g) refl passes)
        where
          go : (h : plain.Whole) → copy h n ≡ Some k → (o : Option RawGraph) → put k.draft path g ≡ o → PassesALimit o → whole_answer h (command.Edit n path g) ≡ (h, replies.Reply.refused Limit)
          go h at None made passes = absurd passes
          go h at (Some raw) made passes = edit-past h n path g k at raw made passes.1

      pub edit-put : (x : RawGraph) (r : Reply) → IsFormOf (put k.draft path g) x → new.world ≡ old.world → new.watches ≡ old.watches
          → MatchBool (nat_lt 64_000 (skeleton_length x)) ((said r ≡ replies.Reply.refused Size) × (new.works ≡ old.works))
          ((said r ≡ replies.Reply.done) × (new.works ≡ slice_set old.works n (option_map (edited x) (copy_at n old.works))))
          → AnsweredApart reads (command.Edit n path g) old new (Ok r)
      edit-put x r form world watches is =
          let f = raw-of x (put k.draft path g) form in
          go f.0 f.1 f.2 (graph-within x f.3) (nat_lt 64_000 (skeleton_length x)) refl is
        where
          quiet : (q : replies.Reply) → said r ≡ q → ((u : ℕ) → throws u q ≡ false) → (u : ℕ) → throws u (said r) ≡ false
          quiet q is none u = ap (throws u) is ∙ none u

          go : (raw : RawGraph) → put k.draft path g ≡ Some raw → normal_form raw ≡ Some x → within_limits x ≡ true → (b : Bool) → nat_lt 64_000 (skeleton_length x) ≡ b
              → MatchBool b ((said r ≡ replies.Reply.refused Size) × (new.works ≡ old.works)) ((said r ≡ replies.Reply.done) × (new.works ≡ slice_set old.works n (option_map (edited x) (copy_at n old.works))))
              → AnsweredApart reads (command.Edit n path g) old new (Ok r)
          go raw made nf within true size (says, works) = record {
            world = world;
            watches = subst AreKept (sym watches);
            drafts = subst DraftsFit (sym works);
            answered = λ outside h m. (
              h,
              edit-large h n path g k (there-in n old.works h k m.copies there) raw made x nf within size ∙ ap {B = plain.Whole × replies.Reply} (λ q. (h, q)) (sym says),
              record { world = subst (λ (w : Engine C). means reads w outside h.world) (sym world) m.world; watches = watches ∙ m.watches; copies = works ∙ m.copies },
            );
            quiet = quiet (replies.Reply.refused Size) says (λ u. refl);
            kept = λ no. (watches, works);
            memory = λ none. refl;
          }
          go raw made nf within false size (says, works) = record {
            world = world;
            watches = subst AreKept (sym watches);
            drafts = λ fit m j at. change-all (λ j. CanBeEntry j.draft) old.works fit n (edited x)
                (λ j on. can fit j on) m j (ap (copy_at m) (sym (works ∙ set-change (edited x) old.works n)) ∙ at);
            answered = λ outside h m. (
              record h { copies = change_at n (drafted path g) h.copies },
              edit-done h n path g k (there-in n old.works h k m.copies there) raw made x nf within size ∙ ap {B = plain.Whole × replies.Reply} (λ q. (record h { copies = change_at n (drafted path g) h.copies }, q)) (sym says),
              record {
                world = subst (λ (w : Engine C). means reads w outside h.world) (sym world) m.world;
                watches = watches ∙ m.watches;
                copies = works ∙ set-change (edited x) old.works n ∙ ap (change_at n (edited x)) m.copies
                    ∙ change-as (edited x) (drafted path g) h.copies n k (there-in n old.works h k m.copies there) (sym (drafted-is h n path g k (there-in n old.works h k m.copies there) raw made x nf within));
              },
            );
            quiet = quiet replies.Reply.done says (λ u. refl);
            kept = λ no. no-refusal says refl no;
            memory = λ none. refl;
          }
            where
              can : DraftsFit old.works → (j : Copy) → copy_at n old.works ≡ Some j → CanBeEntry x
              can fit j on =
                  let after : (drafted path g k).draft ≡ x = ap {A = Option RawGraph} (λ o. unwrap_or (option_and_then normal_form o) k.draft) made ∙ ap {A = Option RawGraph} (λ o. unwrap_or o k.draft) nf in
                  subst CanBeEntry after (edit-can k.draft g path (fit n k (sym there))
                  (ap is_none made) (ap {A = Option RawGraph} (λ o. on_some o (λ r. not (is_within (normal_form r)))) made ∙ ap {A = Option RawGraph} (λ o. not (is_within o)) nf ∙ ap not within)
                  (ap (λ (y : RawGraph). nat_lt 64_000 (skeleton_length y)) after ∙ size))
