-- A copy is begun anew from its entry, or there is none.
use Rattle.std.proofs.Common.{◌≡◌, inl, inr, refl, ap, sym, ◌∙◌, subst, ℕ, List, [], ◌∷◌, Bool, IsTrue, Option, Some, None, option_map, option_and_then, slice_set}
use Rattle.std.specs.declared.alloc.AllocError.{AllocError}
use Rattle.std.specs.Prelude.{Ok, is_none, slice_get}
use Rattle.newt_base.specs.Refusals.{first_of}
use Rattle.newt_base.specs.declared.Refusal.TheVariants.{Copy as NoCopy, Entry as NoEntry}
use Rattle.newt_graph.specs.Graph.{RawGraph}
use Rattle.newt_host.specs.Moments.{Always}
use Rattle.newt_host.specs.Outside.{Outside}
use Rattle.newt_reply.specs.Said.{said}
use Rattle.newt_reply.specs.declared.reply.Reply.{Reply}
use Rattle.newt_reply.specs.declared.reply.Reply.TheVariants as reply
use Rattle.newt_script_session.specs.Steps.{Stepped}
use Rattle.newt_spec_graph.specs.Lists.{Among}
use Rattle.newt_spec_graph.proofs.Lists.{both-ways, none-some, some-same}
use Rattle.newt_spec_store.specs.Store.{Entry, Store}
use Rattle.newt_spec_whole.specs.Answer.{copies_after, reverted, watches_after, whole_answer, whole_answered, whole_fields, world_after}
use Rattle.newt_spec_whole.specs.Events.{events, events_of, note_all}
use Rattle.newt_spec_whole.specs.Refused.{whole_checks}
use Rattle.newt_spec_whole.specs.Step.{WholeStep, whole_thrown}
use Rattle.newt_spec_whole.specs.Step as wholes
use Rattle.newt_spec_whole.specs.Whole as plain
use Rattle.newt_spec_whole.specs.Whole.{asked_in_turn, asks, copy, get_of, living}
use Rattle.newt_spec_world.specs.Alias.{Spot}
use Rattle.newt_spec_world.specs.Changed.{changed}
use Rattle.newt_spec_world.specs.Refused.{on_some}
use Rattle.newt_spec_world.specs.Reply as replies
use Rattle.newt_spec_world.specs.World.{World, change_at, entry_in, settle}
use Rattle.newt_spec_world.specs.declared.command.Command.{Command}
use Rattle.newt_spec_world.specs.declared.command.Command.TheVariants as command
use Rattle.newt_work.specs.Work.{Copy, copy_at, rebased}
use Rattle.newt_laws_steps.specs.Answering.{Answering}
use Rattle.newt_laws_steps.specs.StandsFor.{Obeys}
use Rattle.newt_laws_whole.specs.Runs.{AllFormed, CanBeEntry}
use Rattle.newt_laws_whole.proofs.Fits.{change-all, living-can}
use Rattle.newt_laws_whole.proofs.Reading.{GetsOr, entry_tests, gets}
use Rattle.newt_engine.specs.Calls.{Applied as Inner}
use Rattle.newt_engine.specs.Standing.{IsStanding, means}
use Rattle.newt_engine.specs.declared.world.World.{World as Engine}
use Rattle.newt_engine_whole.specs.Calls.{Applied}
use Rattle.newt_engine_whole.specs.Copies.{IsAt}
use Rattle.newt_engine_whole.specs.Standing.{AreKept, Means, Standing, known_whole}
use Rattle.newt_engine_whole.specs.declared.saves.Place.{Place}
use Rattle.newt_engine_whole.specs.declared.whole.Whole.{Whole}
use Rattle.newt_engine_whole.proofs.Leaving.{refusal-leaves, whole-asked, world-as}
use Rattle.newt_engine_whole.proofs.Drafted.{change-as, set-change}
use Rattle.newt_engine_whole.proofs.Living.{entry-passes, entry-there}
use Rattle.newt_engine_whole.proofs.Opened.{reading-ended}
use Rattle.newt_engine_whole.proofs.Turns.{as-other}

-- ---- what the whole answers

module _ (h : plain.Whole) (n : ℕ) (k : Copy) (there : copy h n ≡ Some k) (s : Spot) (lives : living h k ≡ Some s) where
  revert-asks : asks h (command.Revert n) ≡ Some (get_of s)
  unfolding asks
  revert-asks = ap {A = Option Copy} {B = Option Command} (λ o. option_and_then (λ k. option_map get_of (living h k)) o) there ∙ ap (option_map get_of) lives

  pub revert-turn : asked_in_turn h (command.Revert n) ≡ get_of s ∷ []
  revert-turn = ap {A = Option Command} {B = List Command} (λ o. elim o [ None ↦ [] | Some d ↦ d ∷ [] ]) revert-asks

  pub revert-answered : settle h.world ≡ h.world
      → whole_answer h (command.Revert n) ≡ (record h { copies = change_at n (rebased s.entry.time s.entry.graph) h.copies }, replies.Reply.done)
  unfolding whole_answer whole_checks whole_fields watches_after copies_after events changed
  revert-answered settled =
      ap {A = Option Copy} (λ o. whole_answered h (command.Revert n) (first_of ((NoCopy, is_none o) ∷ (NoEntry, on_some o (λ k. is_none (living h k))) ∷ []))) there
      ∙ ap {A = Option Spot} (λ o. whole_answered h (command.Revert n) (first_of ((NoEntry, is_none o) ∷ []))) lives
      ∙ ap {A = Option Command} {B = plain.Whole × replies.Reply} (λ a. (
        record {
          world = world_after h.world a;
          watches = note_all (events_of h.world a) h.watches;
          copies = change_at n (reverted h) h.copies;
        },
        replies.Reply.done,
      )) revert-asks
      ∙ ap {A = World} {B = plain.Whole × replies.Reply} (λ w. (record { world = w; watches = h.watches; copies = change_at n (reverted h) h.copies }, replies.Reply.done)) settled
      ∙ ap {A = List (Option Copy)} {B = plain.Whole × replies.Reply} (λ ks. (record h { copies = ks }, replies.Reply.done))
      (change-as (reverted h) (rebased s.entry.time s.entry.graph) h.copies n k there (ap {A = Option Spot} {B = Copy} (λ o. elim o [ None ↦ k | Some s ↦ rebased s.entry.time s.entry.graph k ]) lives))

-- ---- what is read

module _ (n : ℕ) (at : Place) where
  -- the command that is asked reads the entry
  is-read : (h : plain.Whole) (a : IsAt h n at) → get_of a.spot ≡ command.Get at.unit at.name at.uid
  is-read h a = λ i. command.Get (sym a.unit i) (sym a.name i) (sym a.uid i)

  -- the entry is there, and is replied, or a device failed
  pub data Reads (h : plain.Whole) (a : IsAt h n at) (v : World) (r : replies.Reply) : Type 0 where
    shown : v ≡ h.world → r ≡ replies.Reply.timed a.spot.entry.time a.spot.entry.graph → Reads h a v r
    failed : (x : ℕ) → v ≡ (whole_thrown h (command.Get at.unit at.name at.uid) x).world → r ≡ replies.Reply.thrown x → Reads h a v r

  pub reads-entry : (h : plain.Whole) → AllFormed h.world → (a : IsAt h n at) (v : World) (r : replies.Reply) → GetsOr h.world at.unit at.name at.uid v r → Reads h a v r
  reads-entry h formed a v r g = go g
    where
      passes : first_of (entry_tests h.world at.unit at.name at.uid) ≡ None
      passes = (λ i. first_of (entry_tests h.world (a.unit i) (a.name i) (a.uid i))) ∙ entry-passes h formed a.of a.spot a.lives

      there : entry_in h.world at.unit at.name at.uid ≡ Some a.spot.entry
      there = (λ i. entry_in h.world (a.unit i) (a.name i) (a.uid i)) ∙ entry-there h formed a.of a.spot a.lives

      go : GetsOr h.world at.unit at.name at.uid v r → Reads h a v r
      go (inl (x, first, same, says)) = absurd (none-some x (sym passes ∙ first))
      go (inr (inl (e, first, entry, same, says))) = shown same (says ∙ ap {A = Entry} {B = replies.Reply} (λ y. replies.Reply.timed y.time y.graph) (some-same e a.spot.entry (sym entry ∙ there)))
      go (inr (inr (x, next, says))) = failed x next says

-- ---- what is promised

module _ {C : Type 0} {reads : List ℕ → Option Store} {place : C → ℕ} {stands : Bool → C → Outside → Type 0} {told : Bool} {old : Whole C} {mid : Engine C} {o p : Outside} (n : ℕ) (at : Place)
    (begun : Standing reads place stands told old o) (found : IsTrue told → (h : plain.Whole) → Means reads old o h → AllFormed h.world × IsAt h n at)
    (known-turn : IsTrue told → asked_in_turn (known_whole reads old o) (command.Revert n) ≡ command.Get at.unit at.name at.uid ∷ []) where
  -- ---- a device failed

  pub revert-handed : {it : Reply} → ((time : ℕ) (graph : RawGraph) → said it ≡ replies.Reply.timed time graph → ⊥) → Inner reads place stands told (command.Get at.unit at.name at.uid) old.world mid o p (Ok it)
      → Applied reads place stands told (command.Revert n) old (record old { world = mid }) o p (Ok it)
  revert-handed {it} other a = record {
    stands = record { world = a.stands; watches = begun.watches; drafts = begun.drafts };
    stepped = λ t h m. go h m (found t h m) (a.obeyed t h.world m.world);
    ended = reading-ended at.unit at.uid at.name (λ w. refl) refl refl refl (λ t. ([], known-turn t)) a.finished a.finished.open_after a.finished.threw a.finished.failed tt;
    kept = λ no. whole-asked (world-as refl refl (a.kept (refusal-leaves (command.Get at.unit at.name at.uid) (said it) no)));
  }
    where
      go : (h : plain.Whole) → Means reads old o h → AllFormed h.world × IsAt h n at → Obeys reads {R = Reply} {E = AllocError} said (means reads mid p) h.world (command.Get at.unit at.name at.uid) (Ok it) o.now p.now
          → Stepped {E = AllocError} WholeStep reads (command.Revert n) (Ok it) h (Means reads (record old { world = mid }) p) o.now p.now o.dev_faults p.dev_faults
      go h m (formed, k) (v, turned, there, moments) = by (reads-entry n at h formed k v (said it) (gets h.world at.unit at.name at.uid v (said it) m.world.settled turned.step))
        where
          by : Reads n at h k v (said it) → Stepped {E = AllocError} WholeStep reads (command.Revert n) (Ok it) h (Means reads (record old { world = mid }) p) o.now p.now o.dev_faults p.dev_faults
          by (shown same says) = absurd (other k.spot.entry.time k.spot.entry.graph says)
          by (failed x next says) = record {
            next = whole_thrown h (command.Get at.unit at.name at.uid) x;
            reply = said it;
            steps = wholes.thrown (command.Get at.unit at.name at.uid) (subst (λ (ds : List Command). Among ds (command.Get at.unit at.name at.uid)) (sym (revert-turn h n k.of k.there k.spot k.lives)) (inl (is-read n at h k))) refl says;
            threw = a.finished.threw;
            failed = a.finished.failed;
            answered = (refl, record { world = subst (means reads mid p) next there; watches = m.watches; copies = m.copies });
            moments = as-other reads h.world (whole_thrown h (command.Get at.unit at.name at.uid) x).world (command.Get at.unit at.name at.uid) (command.Revert n) o.now p.now (λ u. refl)
                (subst (λ (w : World). Always (Answering reads h.world (command.Get at.unit at.name at.uid) w o.now) o.now p.now) next moments);
          }

  -- ---- the entry was read

  pub revert-done : {new : Whole C} {time : ℕ} {graph : RawGraph} → (IsTrue told → (h : plain.Whole) × Means reads old o h) → new.world ≡ mid → new.watches ≡ old.watches
      → new.works ≡ slice_set old.works n (option_map (rebased time graph) (copy_at n old.works)) → Inner reads place stands told (command.Get at.unit at.name at.uid) old.world mid o p (Ok (reply.Timed time graph))
      → Applied reads place stands told (command.Revert n) old new o p (Ok reply.Done)
  revert-done {new} {time} {graph} has world watches works a = record {
    stands = record {
      world = subst (λ (e : Engine C). IsStanding reads place stands told e p) (sym world) a.stands;
      watches = subst AreKept (sym watches) begun.watches;
      drafts = λ t j k there. change-all (λ j. CanBeEntry j.draft) old.works (begun.drafts t) n (rebased time graph) (λ j on. can t) j k
          (ap (copy_at j) (sym (works ∙ set-change (rebased time graph) old.works n)) ∙ there);
    };
    stepped = λ t h m. go h m (found t h m) (read-so t h m (found t h m));
    ended = reading-ended at.unit at.uid at.name (λ w. refl) refl refl refl (λ t. ([], known-turn t)) a.finished (λ t x other. a.finished.open_after t x (λ k. cc))
        (record { later = a.finished.later; rose = λ u x. absurd (both-ways x) }) (λ u x. a.finished.failed u refl) tt;
    kept = λ no. absurd (both-ways no);
  }
    where
      -- the entry is as it was read, and nothing has happened
      read-so : IsTrue told → (h : plain.Whole) → (m : Means reads old o h) → (f : AllFormed h.world × IsAt h n at)
          → (time ≡ f.1.spot.entry.time) × (graph ≡ f.1.spot.entry.graph) × means reads mid p h.world × Always (Answering reads h.world (command.Revert n) h.world o.now) o.now p.now
      read-so t h m (formed, k) = go (a.obeyed t h.world m.world)
        where
          go : Obeys reads {R = Reply} {E = AllocError} said (means reads mid p) h.world (command.Get at.unit at.name at.uid) (Ok (reply.Timed time graph)) o.now p.now
              → (time ≡ k.spot.entry.time) × (graph ≡ k.spot.entry.graph) × means reads mid p h.world × Always (Answering reads h.world (command.Revert n) h.world o.now) o.now p.now
          go (v, turned, there, moments) = by (reads-entry n at h formed k v (replies.Reply.timed time graph) (gets h.world at.unit at.name at.uid v (replies.Reply.timed time graph) m.world.settled turned.step))
            where
              by : Reads n at h k v (replies.Reply.timed time graph) → (time ≡ k.spot.entry.time) × (graph ≡ k.spot.entry.graph) × means reads mid p h.world × Always (Answering reads h.world (command.Revert n) h.world o.now) o.now p.now
              by (shown same says) = (
                cc,
                cc,
                subst (means reads mid p) same there,
                as-other reads h.world h.world (command.Get at.unit at.name at.uid) (command.Revert n) o.now p.now (λ u. refl)
                    (subst (λ (w : World). Always (Answering reads h.world (command.Get at.unit at.name at.uid) w o.now) o.now p.now) same moments),
              )
              by (failed x next says) = cc

      can : IsTrue told → CanBeEntry graph
      can t =
          let h = has t in
          let f = found t h.0 h.1 in
          let r = read-so t h.0 h.1 f in
          subst CanBeEntry (sym r.1) (living-can h.0 f.1.of f.1.spot f.0 f.1.lives)

      go : (h : plain.Whole) (m : Means reads old o h) (f : AllFormed h.world × IsAt h n at)
          → (time ≡ f.1.spot.entry.time) × (graph ≡ f.1.spot.entry.graph) × means reads mid p h.world × Always (Answering reads h.world (command.Revert n) h.world o.now) o.now p.now
          → Stepped {E = AllocError} WholeStep reads (command.Revert n) (Ok reply.Done) h (Means reads new p) o.now p.now o.dev_faults p.dev_faults
      go h m (formed, k) (times, graphs, there, moments) = record {
        next = record h { copies = change_at n (rebased k.spot.entry.time k.spot.entry.graph) h.copies };
        reply = replies.Reply.done;
        steps = wholes.plain refl (revert-answered h n k.of k.there k.spot k.lives m.world.settled);
        threw = record { later = a.finished.later; rose = λ u x. absurd (both-ways x) };
        failed = λ u x. a.finished.failed u refl;
        answered = (
          refl,
          record {
            world = subst (λ (e : Engine C). means reads e p h.world) (sym world) there;
            watches = watches ∙ m.watches;
            copies = works ∙ set-change (rebased time graph) old.works n ∙ ap (change_at n (rebased time graph)) m.copies ∙ (λ i. change_at n (rebased (times i) (graphs i)) h.copies);
          },
        );
        moments = moments;
      }
