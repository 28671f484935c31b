-- The change of a save: it is done, refused for room, or a device failed in it.
use Rattle.std.proofs.Common.{◌≡◌, inl, inr, refl, ap, sym, ◌∙◌, subst, ℕ, ◌+◌, ◌≤◌, List, [], ◌∷◌, Bool, true, false, not, IsTrue, Option, Some, option_map, slice_set, drop, unwrap_or, if◌then◌else◌}
use Rattle.std.specs.declared.alloc.AllocError.{AllocError}
use Rattle.std.specs.Prelude.{Ok, Err, Result, is_none, slice_get}
use Rattle.newt_base.specs.Refusals.{Checks, first_of}
use Rattle.newt_base.specs.declared.Refusal.{Refusal}
use Rattle.newt_base.specs.declared.Refusal.TheVariants.{Full, Notframe, Size}
use Rattle.newt_graph.specs.Graph.{RawGraph}
use Rattle.newt_host.specs.Moments.{Always, image}
use Rattle.newt_host.specs.Outside.{Outside}
use Rattle.newt_pagebook.specs.Book.{IsOpenFor}
use Rattle.newt_notify.specs.Watch.{Watching, kept_all}
use Rattle.newt_notify.specs.declared.note.Kind.TheVariants.{Change}
use Rattle.newt_reply.specs.Said.{said}
use Rattle.newt_reply.specs.declared.reply.Reply.{Reply}
use Rattle.newt_reply.specs.declared.reply.Reply.TheVariants as reply
use Rattle.newt_script_session.specs.Steps.{Stepped}
use Rattle.newt_spec_graph.specs.Lists.{Among}
use Rattle.newt_spec_graph.proofs.Lists.{both-ways, some-same}
use Rattle.newt_spec_store.specs.Store.{Soup, Store}
use Rattle.newt_spec_whole.specs.Answer.{whole_answer}
use Rattle.newt_spec_whole.specs.Events.{Event, events, note_all}
use Rattle.newt_spec_whole.specs.Step.{WholeStep, whole_thrown}
use Rattle.newt_spec_whole.specs.Step as wholes
use Rattle.newt_spec_whole.specs.Whole as plain
use Rattle.newt_spec_whole.specs.Whole.{alias_of_copy, asked_in_turn, change_of, copy, get_of, living}
use Rattle.newt_spec_world.specs.Alias.{Spot}
use Rattle.newt_spec_world.specs.Answer.{answer, answered}
use Rattle.newt_spec_world.specs.Changed.{changed}
use Rattle.newt_spec_world.specs.Refused.{checks, full, no_entry, no_soup, no_unit, not_mounted}
use Rattle.newt_spec_world.specs.Reply as replies
use Rattle.newt_spec_world.specs.World.{World, change_at, settle}
use Rattle.newt_spec_world.specs.declared.command.Command.{Command}
use Rattle.newt_spec_world.specs.declared.command.Command.TheVariants as command
use Rattle.newt_work.specs.Work.{Copy, copy_at, is_based, rebased}
use Rattle.newt_laws_world.proofs.Units.{has-mounted}
use Rattle.newt_laws_steps.specs.Answering.{Answering}
use Rattle.newt_laws_steps.specs.StandsFor.{Obeys, seen}
use Rattle.newt_laws_whole.specs.Runs.{AllFormed, CanBeEntry, DraftsFit}
use Rattle.newt_laws_whole.proofs.Fits.{change-all}
use Rattle.newt_engine.specs.Calls.{Applied as Inner}
use Rattle.newt_engine.specs.Standing.{IsStanding, means, stood_for}
use Rattle.newt_engine.specs.declared.world.World.{World as Engine}
use Rattle.newt_laws_world.specs.Worlds.{is_plain}
use Rattle.newt_engine_whole.specs.Bounds.{ProgramsInTurn, most_put, most_taken}
use Rattle.newt_engine_whole.specs.Calls.{AppliedRest, Ended, rest_asked}
use Rattle.newt_engine_whole.specs.Copies.{IsAt, IsRead, saved_event}
use Rattle.newt_engine_whole.specs.Standing.{Means, Standing, known_whole}
use Rattle.newt_engine_whole.specs.Told.{Tells}
use Rattle.newt_engine_whole.proofs.Apart.{apart-quiet, apart-stepped, rest-ended}
use Rattle.newt_engine_whole.specs.declared.saves.Place.{Place}
use Rattle.newt_engine_whole.specs.declared.whole.Whole.{Whole}
use Rattle.newt_engine_whole.proofs.Leaving.{refusal-leaves, whole-asked, whole-refl, world-as}
use Rattle.newt_engine_whole.proofs.Costing.{first-fetches, first-programs}
use Rattle.newt_engine_whole.proofs.Drafted.{change-as, set-change}
use Rattle.newt_engine_whole.proofs.Living.{entry-there, named, soup-there}
use Rattle.newt_engine_whole.proofs.Saved.{ChangesOr, changes, save-changed, save-done, save-full, save-turn}
use Rattle.newt_engine_whole.proofs.Turns.{as-other}

-- ---- a draft that can be an entry's graph is refused for want of room alone

row-skip : (r : Refusal) (b : Bool) (rest : Checks) → b ≡ false → first_of ((r, b) ∷ rest) ≡ first_of rest
row-skip r b rest h = ap (λ c. first_of ((r, c) ∷ rest)) h

module _ (h : plain.Whole) (formed : AllFormed h.world) (k : Copy) (s : Spot) (lives : living h k ≡ Some s) (can : CanBeEntry k.draft) where
  change-tests : first_of (checks h.world (change_of k s)) ≡ first_of (full h.world s.unit (change_of k s) ∷ [])
  unfolding checks
  change-tests =
      row-skip (no_unit h.world s.unit).0 _ (rest 1) (ap is_none (has-mounted h.world s.unit (named h formed k s lives).on (named h formed k s lives).mounted_there).1.is)
      ∙ row-skip (not_mounted h.world s.unit).0 _ (rest 2) (ap is_none (named h formed k s lives).mounted_there)
      ∙ row-skip (no_soup h.world s.unit s.soup.name).0 _ (rest 3) (ap is_none (soup-there h formed k s lives))
      ∙ row-skip (no_entry h.world s.unit s.soup.name s.entry.uid).0 _ (rest 4) (ap is_none (entry-there h formed k s lives))
      ∙ row-skip Notframe _ (rest 5) (ap not can.frame)
      ∙ row-skip Size _ (rest 6) can.small
    where
      rest : ℕ → Checks
      rest i = drop i (checks h.world (change_of k s))

  -- the note of a save is the event of the change
  save-event : (n : ℕ) (at : Place) → at.unit ≡ s.unit → at.name ≡ s.soup.name → at.soup ≡ s.soup.sig → at.uid ≡ s.entry.uid → ◌≡◌ {A = List Event} (saved_event at ∷ []) (events h.world (change_of k s))
  unfolding events
  save-event n at unit name soup uid =
      (λ i. let e : Event = (name i, record { kind = Change; unit = unit i; soup = soup i; uid = uid i }) in e ∷ [])
      ∙ ap {A = Option Soup} {B = List Event} (λ o. (s.soup.name, record { kind = Change; unit = s.unit; soup = unwrap_or (option_map (λ (p : Soup). p.sig) o) 0; uid = s.entry.uid }) ∷ [])
      (sym (soup-there h formed k s lives))

-- ---- what became of the change

module _ {C : Type 0} {reads : List ℕ → Option Store} {told : Bool} {place : C → ℕ} {stands : Bool → C → Outside → Type 0} {old : Whole C} {mid : Engine C} {o p : Outside} (n : ℕ) (at : Place) (draft : RawGraph) {it : Reply}
    (a : Inner reads place stands told (command.Change at.unit at.name at.uid draft) old.world mid o p (Ok it)) (t : IsTrue told)
    (h : plain.Whole) (m : Means reads old o h) (formed : AllFormed h.world) (i : IsAt h n at) (can : CanBeEntry i.of.draft) (drafted : draft ≡ i.of.draft) (based : is_based i.spot.entry.time i.spot.entry.graph i.of ≡ true) where
  abbrev asked : Command
  asked = change_of i.of i.spot

  asked-is : command.Change at.unit at.name at.uid draft ≡ asked
  asked-is = λ j. command.Change (i.unit j) (i.name j) (i.uid j) (drafted j)

  -- it turned the world, as the change that is asked
  pub turned : (v : World) × ChangesOr h.world asked (full h.world i.spot.unit asked).1 v (said it) × means reads mid p v × Always (Answering reads h.world (command.Save n) v o.now) o.now p.now
  turned = go (subst (λ (c : Command). Obeys reads {R = Reply} {E = AllocError} said (means reads mid p) h.world c (Ok it) o.now p.now) asked-is (a.obeyed t h.world m.world))
    where
      go : Obeys reads {R = Reply} {E = AllocError} said (means reads mid p) h.world asked (Ok it) o.now p.now
          → (v : World) × ChangesOr h.world asked (full h.world i.spot.unit asked).1 v (said it) × means reads mid p v × Always (Answering reads h.world (command.Save n) v o.now) o.now p.now
      go (v, turn, there, moments) = (
        v,
        changes h.world i.spot.unit i.spot.entry.uid i.spot.soup.name i.of.draft (full h.world i.spot.unit asked).1 v (said it) (change-tests h formed i.of i.spot i.lives can) turn.step,
        there,
        as-other reads h.world v asked (command.Save n) o.now p.now (λ u. refl) moments,
      )

  -- a device failed in it: it is one of those that are asked in turn
  pub change-thrown : (x : ℕ) → WholeStep h (command.Save n) (whole_thrown h asked x) (replies.Reply.thrown x)
  change-thrown x = wholes.thrown asked (subst (λ (ds : List Command). Among ds asked)
      (sym (save-turn h n i.of i.there i.spot i.lives ∙ ap {A = Bool} {B = List Command} (λ b. get_of i.spot ∷ (if b then asked ∷ [] else [])) based)) (inr (inl refl))) refl refl

-- The entry of the copy is at the place and as the base, and this is the draft.
pub record IsBase (h : plain.Whole) (n : ℕ) (at : Place) (draft : RawGraph) : Type 0 where
  pub formed : AllFormed h.world
  pub is : IsAt h n at
  pub can : CanBeEntry is.of.draft
  pub drafted : draft ≡ is.of.draft
  pub based : is_based is.spot.entry.time is.spot.entry.graph is.of ≡ true

-- a change leaves the minute
same-minute : (w : World) (u uid : ℕ) (s : List ℕ) (g : RawGraph) → (settle (changed w (command.Change u s uid g))).minute ≡ w.minute
unfolding changed
same-minute w u uid s g = refl

-- the world after a save is the one after its change, done or refused
saved-world : (h : plain.Whole) (n : ℕ) (at : Place) (draft : RawGraph) (b : IsBase h n at draft) → (answer h.world (change_of b.is.of b.is.spot)).0 ≡ (whole_answer h (command.Save n)).0.world
unfolding answer
saved-world h n at draft b = go (full h.world b.is.spot.unit (change_of b.is.of b.is.spot)).1 refl
  where
    go : (room : Bool) → (full h.world b.is.spot.unit (change_of b.is.of b.is.spot)).1 ≡ room
        → (answer h.world (change_of b.is.of b.is.spot)).0 ≡ (whole_answer h (command.Save n)).0.world
    go true e = ap (λ (o : Option Refusal). (answered h.world (change_of b.is.of b.is.spot) o).0) (change-tests h b.formed b.is.of b.is.spot b.is.lives b.can ∙ ap (λ x. first_of ((Full, x) ∷ [])) e)
        ∙ sym (ap (λ (a : plain.Whole × replies.Reply). a.0.world) (save-full h n b.is.of b.is.there b.is.spot b.is.lives b.based e))
    go false e = ap (λ (o : Option Refusal). (answered h.world (change_of b.is.of b.is.spot) o).0) (change-tests h b.formed b.is.of b.is.spot b.is.lives b.can ∙ ap (λ x. first_of ((Full, x) ∷ [])) e)
        ∙ sym (ap (λ (a : plain.Whole × replies.Reply). a.0.world) (save-done h n b.is.of b.is.there b.is.spot b.is.lives b.based e))

module _ {C : Type 0} {reads : List ℕ → Option Store} {told : Bool} {old : Whole C} {o : Outside} (n : ℕ) (at : Place) (draft : RawGraph)
    (base : IsTrue told → (h : plain.Whole) → Means reads old o h → IsBase h n at draft)
    (known : IsTrue told → (ws : List (Option Watching)) × Means reads old o (record (known_whole reads old o) { watches = ws })) where
  -- what is asked last is the change
  last-turn : IsTrue told → rest_asked reads old o (command.Save n) ≡ command.Change at.unit at.name at.uid draft ∷ []
  last-turn t =
      let k = known t in
      let h = record (known_whole reads old o) { watches = k.0 } in
      let b = base t h k.1 in
      ap {A = List Command} {B = List Command} (λ ds. drop 1 ds) (save-turn h n b.is.of b.is.there b.is.spot b.is.lives
      ∙ ap {A = Bool} {B = List Command} (λ c. get_of b.is.spot ∷ (if c then change_of b.is.of b.is.spot ∷ [] else [])) b.based)
      ∙ ap {A = Command} {B = List Command} (λ c. c ∷ []) (λ j. command.Change (sym b.is.unit j) (sym b.is.name j) (sym b.is.uid j) (sym b.drafted j))

module _ {C : Type 0} {reads : List ℕ → Option Store} {place : C → ℕ} {stands : Bool → C → Outside → Type 0} {told : Bool} {old : Whole C} {mid : Engine C} {o p : Outside} (n : ℕ) (at : Place) (draft : RawGraph)
    (base : IsTrue told → (h : plain.Whole) → Means reads old o h → IsBase h n at draft) where
  -- it was refused, or a device failed: the copy and the watches stay
  pub change-handed : {it : Reply} → (said it ≡ replies.Reply.done → ⊥) → (a : Inner reads place stands told (command.Change at.unit at.name at.uid draft) old.world mid o p (Ok it))
      → IsTrue told → (h : plain.Whole) → Means reads old o h → Stepped {E = AllocError} WholeStep reads (command.Save n) (Ok it) h (Means reads (record old { world = mid }) p) o.now p.now o.dev_faults p.dev_faults
  change-handed {it} other a t h m =
      let b = base t h m in
      let k = turned n at draft a t h m b.formed b.is b.can b.drafted b.based in
      go b k.0 k.1 k.2 k.3
    where
      go : (b : IsBase h n at draft) (v : World) → ChangesOr h.world (change_of b.is.of b.is.spot) (full h.world b.is.spot.unit (change_of b.is.of b.is.spot)).1 v (said it) → means reads mid p v
          → Always (Answering reads h.world (command.Save n) v o.now) o.now p.now
          → Stepped {E = AllocError} WholeStep reads (command.Save n) (Ok it) h (Means reads (record old { world = mid }) p) o.now p.now o.dev_faults p.dev_faults
      go b v (inl (no_room, same, says)) there moments = record {
        next = h;
        reply = said it;
        steps = wholes.plain refl (save-full h n b.is.of b.is.there b.is.spot b.is.lives b.based no_room ∙ ap {B = plain.Whole × replies.Reply} (λ q. (h, q)) (sym says));
        threw = a.finished.threw;
        failed = a.finished.failed;
        answered = (refl, record { world = subst (means reads mid p) same there; watches = m.watches; copies = m.copies });
        moments = subst (λ (w : World). Always (Answering reads h.world (command.Save n) w o.now) o.now p.now) same moments;
      }
      go b v (inr (inl (room, done, says))) there moments = absurd (other says)
      go b v (inr (inr (x, next, says))) there moments = record {
        next = whole_thrown h (change_of b.is.of b.is.spot) x;
        reply = said it;
        steps = subst (WholeStep h (command.Save n) (whole_thrown h (change_of b.is.of b.is.spot) x)) (sym says) (change-thrown n at draft a t h m b.formed b.is b.can b.drafted b.based x);
        threw = a.finished.threw;
        failed = a.finished.failed;
        answered = (refl, record { world = subst (means reads mid p) next there; watches = m.watches; copies = m.copies });
        moments = subst (λ (w : World). Always (Answering reads h.world (command.Save n) w o.now) o.now p.now) next moments;
      }

  -- it was done: the copy begins anew from the draft, and the change is noted
  pub change-done : {new : Whole C} → (a : Inner reads place stands told (command.Change at.unit at.name at.uid draft) old.world mid o p (Ok reply.Done)) → new.world ≡ mid
      → ((ws : List (Option Watching)) → old.watches ≡ kept_all ws → new.watches ≡ kept_all (note_all (saved_event at ∷ []) ws))
      → new.works ≡ slice_set old.works n (option_map (rebased mid.units.minute draft) (copy_at n old.works))
      → IsTrue told → (h : plain.Whole) → Means reads old o h → Stepped {E = AllocError} WholeStep reads (command.Save n) (Ok reply.Done) h (Means reads new p) o.now p.now o.dev_faults p.dev_faults
  change-done {new} a world watches works t h m =
      let b = base t h m in
      let k = turned n at draft a t h m b.formed b.is b.can b.drafted b.based in
      go b k.0 k.1 k.2 k.3
    where
      go : (b : IsBase h n at draft) (v : World) → ChangesOr h.world (change_of b.is.of b.is.spot) (full h.world b.is.spot.unit (change_of b.is.of b.is.spot)).1 v replies.Reply.done → means reads mid p v
          → Always (Answering reads h.world (command.Save n) v o.now) o.now p.now
          → Stepped {E = AllocError} WholeStep reads (command.Save n) (Ok reply.Done) h (Means reads new p) o.now p.now o.dev_faults p.dev_faults
      go b v (inl (no_room, same, says)) there moments = cc
      go b v (inr (inl (room, done, says))) there moments =
          let c = change_of b.is.of b.is.spot in
          let minute : mid.units.minute ≡ h.world.minute = sym there.minute ∙ ap (λ (w : World). w.minute) done ∙ same-minute h.world b.is.spot.unit b.is.spot.entry.uid b.is.spot.soup.name b.is.of.draft in
          record {
            next = record {
              world = settle (changed h.world c);
              watches = note_all (events h.world c) h.watches;
              copies = change_at n (λ k. rebased h.world.minute k.draft k) h.copies;
            };
            reply = replies.Reply.done;
            steps = wholes.plain refl (save-done h n b.is.of b.is.there b.is.spot b.is.lives b.based room);
            threw = record { later = a.finished.later; rose = λ u x. absurd (both-ways x) };
            failed = λ u x. a.finished.failed u refl;
            answered = (
              refl,
              record {
                world = subst (λ (e : Engine C). means reads e p (settle (changed h.world c))) (sym world) (subst (means reads mid p) done there);
                watches = watches h.watches m.watches
                    ∙ ap (λ (es : List Event). kept_all (note_all es h.watches)) (save-event h b.formed b.is.of b.is.spot b.is.lives b.can n at b.is.unit b.is.name b.is.soup b.is.uid);
                copies = works ∙ set-change (rebased mid.units.minute draft) old.works n ∙ ap (change_at n (rebased mid.units.minute draft)) m.copies
                    ∙ change-as (rebased mid.units.minute draft) (λ k. rebased h.world.minute k.draft k) h.copies n b.is.of b.is.there (λ i. rebased (minute i) (b.drafted i) b.is.of);
              },
            );
            moments = subst (λ (w : World). Always (Answering reads h.world (command.Save n) w o.now) o.now p.now) done moments;
          }
      go b v (inr (inr (x, next, says))) there moments = cc

  -- ---- all that is promised

  module _ (begun : Standing reads place stands told old o) (known : IsTrue told → (ws : List (Option Watching)) × Means reads old o (record (known_whole reads old o) { watches = ws })) where
    save-ended : {result : Result Reply AllocError} → Inner reads place stands told (command.Change at.unit at.name at.uid draft) old.world mid o p result
        → Ended reads told (command.Save n) (rest_asked reads old o (command.Save n)) old o p result
    save-ended a =
        let w = stood_for reads old.world o in
        let change = command.Change at.unit at.name at.uid draft in
        record {
          alone = a.finished.alone;
          bound = λ t other x. subst (λ (ds : List Command). ProgramsInTurn w ds x o p) (sym (last-turn n at draft base known t)) (first-programs w change [] x (a.finished.bound t refl x));
          format = λ t is. absurd (both-ways is);
          fresh = λ t x is. absurd (both-ways is);
          fetched = λ t entries x. subst (λ (ds : List Command). IsOpenFor (most_put w ds x) (image x o.now) → p.fetched x ≤ o.fetched x + most_taken w ds x) (sym (last-turn n at draft base known t))
              (first-fetches w change [] x o p (a.finished.settling t refl x));
          step = λ t is. absurd (both-ways is);
          shown = λ is. absurd (both-ways is);
          open_after = a.finished.open_after;
          threw = a.finished.threw;
          failed = a.finished.failed;
          unhidden = a.finished.unhidden;
          later = a.finished.later;
          never_memory = λ none. absurd (both-ways (sym none));
          never_thrown = λ none. absurd (both-ways (sym none));
        }

    pub save-handed : {it : Reply} → (said it ≡ replies.Reply.done → ⊥) → Inner reads place stands told (command.Change at.unit at.name at.uid draft) old.world mid o p (Ok it)
        → AppliedRest reads place stands told (command.Save n) old (record old { world = mid }) o p (Ok it)
    save-handed {it} other a = record {
      stands = record { world = a.stands; watches = begun.watches; drafts = begun.drafts };
      stepped = change-handed other a;
      ended = save-ended a;
      kept = λ no. whole-asked (world-as refl refl (a.kept (refusal-leaves (command.Change at.unit at.name at.uid draft) (said it) no)));
    }

    pub save-over : {mended new : Whole C} (k : Copy) → Some k ≡ copy_at n old.works → draft ≡ k.draft → Inner reads place stands told (command.Change at.unit at.name at.uid draft) old.world mid o p (Ok reply.Done)
        → mended.world ≡ mid → mended.watches ≡ old.watches → mended.works ≡ slice_set old.works n (option_map (rebased mid.units.minute draft) (copy_at n old.works)) → Tells (saved_event at ∷ []) mended new
        → AppliedRest reads place stands told (command.Save n) old new o p (Ok reply.Done)
    save-over {mended} {new} k there same a world watches works tells = record {
      stands = record {
        world = subst (λ (e : Engine C). IsStanding reads place stands told e p) (sym (tells.world ∙ world)) a.stands;
        watches = let w = begun.watches in (note_all (saved_event at ∷ []) w.0, tells.watches w.0 (watches ∙ w.1));
        drafts = λ t j i found. change-all (λ j. CanBeEntry j.draft) old.works (begun.drafts t) n (rebased mid.units.minute draft)
            (λ i on. subst CanBeEntry (sym same) (begun.drafts t n k (sym there))) j i
            (ap (copy_at j) (sym (tells.works ∙ works ∙ set-change (rebased mid.units.minute draft) old.works n)) ∙ found);
      };
      stepped = change-done a (tells.world ∙ world) (λ ws kept. tells.watches ws (watches ∙ kept)) (tells.works ∙ works);
      ended = save-ended a;
      kept = λ no. absurd (both-ways no);
    }

    -- memory was refused in it
    pub change-memory : {new : Whole C} (error : AllocError) → Inner reads place stands told (command.Change at.unit at.name at.uid draft) old.world mid o p (Err error)
        → AppliedRest reads place stands told (command.Save n) old new o p (Err error)
    unfolding is_plain
    change-memory {new} error a = record {
      stands = tt;
      stepped = λ t h m.
          let b = base t h m in
          let w = whole_answer h (command.Save n) in record {
            next = w.0;
            reply = w.1;
            steps = wholes.plain refl refl;
            threw = record { later = a.finished.later; rose = λ u x. absurd (both-ways (sym (apart-quiet h (command.Save n) u refl) ∙ x)) };
            failed = λ u x. a.finished.unhidden u;
            answered = tt;
            moments = as-other reads h.world w.0.world (change_of b.is.of b.is.spot) (command.Save n) o.now p.now (λ u. refl)
                (subst (λ (v : World). Always (Answering reads h.world (change_of b.is.of b.is.spot) v o.now) o.now p.now) (saved-world h n at draft b)
                (subst (λ (c : Command). Always (Answering reads h.world c (answer (seen reads h.world o.now c) c).0 o.now) o.now p.now) (λ j. command.Change (b.is.unit j) (b.is.name j) (b.is.uid j) (b.drafted j)) (a.obeyed t h.world m.world)));
          };
      ended = save-ended a;
      kept = tt;
    }

-- ---- the entry is not as the base

pub rest-changed : {C : Type 0} {reads : List ℕ → Option Store} {place : C → ℕ} {stands : Bool → C → Outside → Type 0} {told : Bool} {old : Whole C} {o : Outside} {n time : ℕ} {graph : RawGraph} {at : Place} (k : Copy) → Some k ≡ copy_at n old.works
    → is_based time graph k ≡ false → Standing reads place stands told old o → (IsTrue told → (h : plain.Whole) → Means reads old o h → IsRead h n at time graph)
    → AppliedRest reads place stands told (command.Save n) old old o o (Ok (reply.Changed time))
unfolding is_plain
rest-changed {C} {reads} {place} {stands} {told} {old} {o} {n} {time} {graph} {at} k there other begun read = record {
  stands = begun;
  stepped = λ t h m. apart-stepped reads old old o (command.Save n) h (Ok (reply.Changed time)) refl m (h, says h m (read t h m), m);
  ended = rest-ended reads told old o (command.Save n) (Ok (reply.Changed time)) (λ none. refl) (λ u. refl) (λ x is. absurd (both-ways is));
  kept = λ no. whole-refl (command.Save n) old;
}
  where
    says : (h : plain.Whole) → Means reads old o h → IsRead h n at time graph → whole_answer h (command.Save n) ≡ (h, replies.Reply.changed time)
    says h m r =
        let i = r.at in
        let same : i.of ≡ k = some-same i.of k (sym i.there ∙ sym (ap (copy_at n) m.copies) ∙ sym there) in
        save-changed h n i.of i.there i.spot i.lives ((λ j. is_based (r.timed j) (r.shows j) (same j)) ∙ other)
        ∙ ap {A = ℕ} {B = plain.Whole × replies.Reply} (λ x. (h, replies.Reply.changed x)) r.timed

-- ---- the entry is as the base

pub base-of : {C : Type 0} {reads : List ℕ → Option Store} {old : Whole C} {o : Outside} {h : plain.Whole} {n time : ℕ} {graph draft : RawGraph} {at : Place} → IsRead h n at time graph → (k : Copy) → Some k ≡ copy_at n old.works → is_based time graph k ≡ true
    → draft ≡ k.draft → Means reads old o h → AllFormed h.world → DraftsFit old.works → IsBase h n at draft
base-of {old = old} {h = h} {n} r k there same is m formed fit =
    let i = r.at in
    let copies : i.of ≡ k = some-same i.of k (sym i.there ∙ sym (ap (copy_at n) m.copies) ∙ sym there) in
    record {
      formed = formed;
      is = i;
      can = subst (λ (c : Copy). CanBeEntry c.draft) (sym copies) (fit n k (sym there));
      drafted = is ∙ ap (λ (c : Copy). c.draft) (sym copies);
      based = (λ j. is_based (r.timed j) (r.shows j) (copies j)) ∙ same;
    }

-- no other reply says that it was done
pub undone : (it : Reply) → (it ≡ reply.Done → ⊥) → said it ≡ replies.Reply.done → ⊥
undone reply.Done other says = other refl
undone _ other says = cc
