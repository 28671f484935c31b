-- What a save reads before it changes the entry.
use Rattle.std.proofs.Common.{◌≡◌, inl, refl, ap, sym, ◌∙◌, subst, ℕ, List, [], ◌∷◌, Bool, true, IsTrue, Option, if◌then◌else◌}
use Rattle.std.specs.declared.alloc.AllocError.{AllocError}
use Rattle.std.specs.Prelude.{Ok}
use Rattle.newt_graph.specs.Graph.{RawGraph}
use Rattle.newt_host.specs.Moments.{Always}
use Rattle.newt_host.specs.Outside.{Outside}
use Rattle.newt_reply.specs.Said.{said}
use Rattle.newt_reply.specs.declared.reply.Reply.{Reply}
use Rattle.newt_reply.specs.declared.reply.Reply.TheVariants as reply
use Rattle.newt_script_session.specs.Steps.{Stepped}
use Rattle.newt_spec_graph.specs.Lists.{Among}
use Rattle.newt_spec_store.specs.Store.{Store}
use Rattle.newt_spec_whole.specs.Step.{WholeStep, whole_thrown}
use Rattle.newt_spec_whole.specs.Step as wholes
use Rattle.newt_spec_whole.specs.Whole as plain
use Rattle.newt_spec_whole.specs.Whole.{alias_of_copy, asked_in_turn, change_of, copy}
use Rattle.newt_work.specs.Work.{is_based}
use Rattle.newt_spec_world.specs.Reply as replies
use Rattle.newt_spec_world.specs.World.{World}
use Rattle.newt_spec_world.specs.declared.command.Command.{Command}
use Rattle.newt_spec_world.specs.declared.command.Command.TheVariants as command
use Rattle.newt_laws_steps.specs.Answering.{Answering}
use Rattle.newt_laws_steps.specs.StandsFor.{Obeys}
use Rattle.newt_laws_whole.specs.Runs.{AllFormed}
use Rattle.newt_laws_whole.proofs.Reading.{gets}
use Rattle.newt_engine_units.proofs.Known.{Laws}
use Rattle.newt_engine.specs.Calls.{Applied as Inner}
use Rattle.newt_engine.specs.Standing as inner
use Rattle.newt_engine.specs.Standing.{means}
use Rattle.newt_engine.specs.declared.world.World.{World as Engine}
use Rattle.newt_engine_whole.specs.Calls.{Applied}
use Rattle.newt_engine_whole.specs.Copies.{IsAt, IsRead}
use Rattle.newt_engine_whole.specs.Standing.{Means, Standing, known_whole}
use Rattle.newt_engine_whole.specs.declared.saves.Place.{Place}
use Rattle.newt_engine_whole.specs.declared.whole.Whole.{Whole}
use Rattle.newt_engine_whole.proofs.Leaving.{refusal-leaves, whole-asked, world-as}
use Rattle.newt_engine_whole.proofs.Meant.{resolved-same}
use Rattle.newt_engine_whole.proofs.Opened.{reading-ended}
use Rattle.newt_engine_whole.proofs.Reverted.{Reads, failed, reads-entry, shown}
use Rattle.newt_engine_whole.proofs.Saved.{save-turn}
use Rattle.newt_engine_whole.proofs.Turns.{as-other}

-- Two wholes that one engine stands for, with the same copies, have the entry of a copy at one place.
pub read-same : {C : Type 0} {reads : List ℕ → Option Store} {place : C → ℕ} {soups : C → Store} {stands : Bool → C → Outside → Type 0} → Laws reads place soups stands → (it : Engine C) (p : Outside) → inner.Standing reads place stands true it.units it.desk p
    → (h v : plain.Whole) → means reads it p h.world → means reads it p v.world → h.copies ≡ v.copies → {n time : ℕ} {at : Place} {graph : RawGraph} → IsRead h n at time graph → IsRead v n at time graph
read-same laws it p s h v mh mv copies {n} r =
    let i = r.at in record {
      at = record {
        of = i.of;
        there = ap (λ (ks : List (Option _)). copy (record v { copies = ks }) n) (sym copies) ∙ i.there;
        spot = i.spot;
        lives = resolved-same laws it.units it.desk p s v.world mv (alias_of_copy i.of) ∙ sym (resolved-same laws it.units it.desk p s h.world mh (alias_of_copy i.of)) ∙ i.lives;
        unit = i.unit;
        name = i.name;
        soup = i.soup;
        uid = i.uid;
      };
      timed = r.timed;
      shows = r.shows;
    }

-- what a save asks first
pub first-turn : (n : ℕ) (at : Place) (h : plain.Whole) (i : IsAt h n at) → (rest : List Command) × (asked_in_turn h (command.Save n) ≡ command.Get at.unit at.name at.uid ∷ rest)
first-turn n at h i =
    let rest = if is_based i.spot.entry.time i.spot.entry.graph i.of then change_of i.of i.spot ∷ [] else [] in (
      rest,
      save-turn h n i.of i.there i.spot i.lives ∙ ap (λ (d : Command). d ∷ rest) (λ j. command.Get (sym i.unit j) (sym i.name j) (sym i.uid j)),
    )

module _ {C : Type 0} {reads : List ℕ → Option Store} {place : C → ℕ} {stands : Bool → C → Outside → Type 0} {told : Bool} {old : Whole C} {mid : Engine C} {o p : Outside} (n : ℕ) (at : Place)
    (begun : Standing reads place stands told old o) (found : IsTrue told → (h : plain.Whole) → Means reads old o h → AllFormed h.world × IsAt h n at) where
  -- the entry has this time and graph, and nothing has happened
  pub is-shown : {time : ℕ} {graph : RawGraph} → Inner reads place stands told (command.Get at.unit at.name at.uid) old.world mid o p (Ok (reply.Timed time graph)) → IsTrue told → (h : plain.Whole) → Means reads old o h
      → IsRead h n at time graph × means reads mid p h.world × Always (Answering reads h.world (command.Get at.unit at.name at.uid) h.world o.now) o.now p.now
  is-shown {time} {graph} a t h m = go (found t h m) (a.obeyed t h.world m.world)
    where
      go : AllFormed h.world × IsAt h n at → Obeys reads {R = Reply} {E = AllocError} said (means reads mid p) h.world (command.Get at.unit at.name at.uid) (Ok (reply.Timed time graph)) o.now p.now
          → IsRead h n at time graph × means reads mid p h.world × Always (Answering reads h.world (command.Get at.unit at.name at.uid) h.world o.now) o.now p.now
      go (formed, i) (v, turned, there, moments) = by (reads-entry n at h formed i v (replies.Reply.timed time graph) (gets h.world at.unit at.name at.uid v (replies.Reply.timed time graph) m.world.settled turned.step))
        where
          by : Reads n at h i v (replies.Reply.timed time graph) → IsRead h n at time graph × means reads mid p h.world × Always (Answering reads h.world (command.Get at.unit at.name at.uid) h.world o.now) o.now p.now
          by (shown same says) = (
            record { at = i; timed = cc; shows = cc },
            subst (means reads mid p) same there,
            subst (λ (w : World). Always (Answering reads h.world (command.Get at.unit at.name at.uid) w o.now) o.now p.now) same moments,
          )
          by (failed x next says) = cc

  -- a device failed while it was read
  pub read-handed : {it : Reply} → ((time : ℕ) (graph : RawGraph) → said it ≡ replies.Reply.timed time graph → ⊥) → (IsTrue told → (rest : List Command) × (asked_in_turn (known_whole reads old o) (command.Save n) ≡ command.Get at.unit at.name at.uid ∷ rest))
      → Inner reads place stands told (command.Get at.unit at.name at.uid) old.world mid o p (Ok it) → Applied reads place stands told (command.Save n) old (record old { world = mid }) o p (Ok it)
  read-handed {it} other turn a = record {
    stands = record { world = a.stands; watches = begun.watches; drafts = begun.drafts };
    stepped = λ t h m. go h m (found t h m) (a.obeyed t h.world m.world);
    ended = reading-ended at.unit at.uid at.name (λ w. refl) refl refl refl turn a.finished a.finished.open_after a.finished.threw a.finished.failed tt;
    kept = λ no. whole-asked (world-as refl refl (a.kept (refusal-leaves (command.Get at.unit at.name at.uid) (said it) no)));
  }
    where
      go : (h : plain.Whole) → Means reads old o h → AllFormed h.world × IsAt h n at → Obeys reads {R = Reply} {E = AllocError} said (means reads mid p) h.world (command.Get at.unit at.name at.uid) (Ok it) o.now p.now
          → Stepped {E = AllocError} WholeStep reads (command.Save n) (Ok it) h (Means reads (record old { world = mid }) p) o.now p.now o.dev_faults p.dev_faults
      go h m (formed, i) (v, turned, there, moments) = by (reads-entry n at h formed i v (said it) (gets h.world at.unit at.name at.uid v (said it) m.world.settled turned.step))
        where
          by : Reads n at h i v (said it) → Stepped {E = AllocError} WholeStep reads (command.Save n) (Ok it) h (Means reads (record old { world = mid }) p) o.now p.now o.dev_faults p.dev_faults
          by (shown same says) = absurd (other i.spot.entry.time i.spot.entry.graph says)
          by (failed x next says) = record {
            next = whole_thrown h (command.Get at.unit at.name at.uid) x;
            reply = said it;
            steps = wholes.thrown (command.Get at.unit at.name at.uid) (subst (λ (ds : List Command). Among ds (command.Get at.unit at.name at.uid)) (sym (first-turn n at h i).1) (inl refl)) refl says;
            threw = a.finished.threw;
            failed = a.finished.failed;
            answered = (refl, record { world = subst (means reads mid p) next there; watches = m.watches; copies = m.copies });
            moments = as-other reads h.world (whole_thrown h (command.Get at.unit at.name at.uid) x).world (command.Get at.unit at.name at.uid) (command.Save n) o.now p.now (λ u. refl)
                (subst (λ (w : World). Always (Answering reads h.world (command.Get at.unit at.name at.uid) w o.now) o.now p.now) next moments);
          }
