-- A command of watches or working copies that is refused at once, or for which memory was refused.
use Rattle.std.proofs.Common.{◌≡◌, inl, inr, refl, ap, sym, ◌∙◌, subst, ℕ, List, ◌∷◌, Bool, true, false, IsTrue, Option, option_and_then}
use Rattle.std.specs.declared.alloc.AllocError.{AllocError}
use Rattle.std.specs.Prelude.{Result, Ok, Err}
use Rattle.std.proofs.lemmas.Bool.{eq-eqb}
use Rattle.newt_base.specs.declared.Refusal.{Refusal}
use Rattle.newt_host.specs.Moments.{Always}
use Rattle.newt_host.proofs.Moments.{Always-map}
use Rattle.newt_host.specs.Outside.{Outside}
use Rattle.newt_reply.specs.Said.{said}
use Rattle.newt_reply.specs.declared.reply.Reply.{Reply}
use Rattle.newt_reply.specs.declared.reply.Reply.TheVariants as reply
use Rattle.newt_spec_graph.proofs.Lists.{both-ways}
use Rattle.newt_spec_script.specs.Rows.{throws}
use Rattle.newt_spec_store.specs.Store.{Store}
use Rattle.newt_spec_whole.specs.Answer.{whole_answer}
use Rattle.newt_spec_whole.specs.Step as wholes
use Rattle.newt_spec_whole.specs.Whole as plain
use Rattle.newt_spec_whole.specs.Whole.{asked_in_turn}
use Rattle.newt_spec_world.specs.Answer.{answer}
use Rattle.newt_spec_world.specs.Reply as replies
use Rattle.newt_spec_world.specs.Step as steps
use Rattle.newt_spec_world.specs.Step.{unsure_look}
use Rattle.newt_spec_world.specs.World.{World, settle}
use Rattle.newt_spec_world.specs.declared.command.Command.{Command}
use Rattle.newt_spec_world.specs.declared.command.Command.TheVariants as command
use Rattle.newt_laws_steps.specs.Answering.{Answering}
use Rattle.newt_laws_steps.specs.StandsFor.{Obeys}
use Rattle.newt_laws_world.specs.Worlds.{is_plain}
use Rattle.newt_laws_whole.proofs.Reading.{GetsOr, gets}
use Rattle.newt_engine_cursors.specs.Unread.{steps_unread}
use Rattle.newt_engine.specs.Bounds.{is_format}
use Rattle.newt_engine.specs.Calls.{Applied as Inner}
use Rattle.newt_engine.specs.Standing.{means}
use Rattle.newt_engine.specs.declared.world.World.{World as Engine}
use Rattle.newt_engine.proofs.Refusing.{answer_quiet}
use Rattle.newt_engine_whole.specs.Calls.{Applied, AppliedBy}
use Rattle.newt_engine_whole.specs.Ends.{whole_takes_memory, whole_uses_device}
use Rattle.newt_engine_whole.specs.Standing.{Means, Standing, known_whole}
use Rattle.newt_engine_whole.specs.declared.whole.Whole.{Whole}
use Rattle.newt_engine_whole.proofs.Leaving.{whole-refl}
use Rattle.newt_engine_whole.proofs.Apart.{apart-looks, apart-quiet, apart-stepped, rest-ended}
use Rattle.newt_engine_whole.proofs.Opened.{reading-ended}
use Rattle.newt_engine_whole.proofs.Turns.{early}

-- a world in which an entry was read is as it was
pub get-stays : (w : World) (u uid : ℕ) (s : List ℕ) → settle w ≡ w → (answer w (command.Get u s uid)).0 ≡ w
get-stays w u uid s settled = go (gets w u s uid (answer w (command.Get u s uid)).0 (answer w (command.Get u s uid)).1 settled (steps.plain refl refl))
  where
    go : GetsOr w u s uid (answer w (command.Get u s uid)).0 (answer w (command.Get u s uid)).1 → (answer w (command.Get u s uid)).0 ≡ w
    go (inl (r, first, same, says)) = same
    go (inr (inl (e, first, entry, same, says))) = same
    go (inr (inr (x, next, says))) = absurd (both-ways (sym (answer_quiet w (command.Get u s uid) x) ∙ ap (throws x) says ∙ eq-eqb x x refl))

module _ {C : Type 0} {reads : List ℕ → Option Store} {place : C → ℕ} {stands : Bool → C → Outside → Type 0} {told : Bool} {old : Whole C} {o : Outside} (begun : Standing reads place stands told old o)
    {mid : Engine C} {p : Outside} (u uid : ℕ) (s : List ℕ) {inner : Result Reply AllocError} (a : Inner reads place stands told (command.Get u s uid) old.world mid o p inner) where
  -- while it was read a crash leaves each unit as it was, whatever became of it but a failed device
  pub still-read : (IsTrue told → (h : plain.Whole) → Means reads old o h → (v : World) (it : Reply) → inner ≡ Ok it → GetsOr h.world u s uid v (said it) → v ≡ h.world)
      → IsTrue told → (h : plain.Whole) → Means reads old o h → Always (Answering reads h.world (command.Get u s uid) h.world o.now) o.now p.now
  still-read same t h m = go inner refl (a.obeyed t h.world m.world)
    where
      go : (r : Result Reply AllocError) → inner ≡ r → Obeys reads {R = Reply} {E = AllocError} said (means reads mid p) h.world (command.Get u s uid) r o.now p.now
          → Always (Answering reads h.world (command.Get u s uid) h.world o.now) o.now p.now
      go (Ok it) e (v, turned, there, moments) =
          subst (λ (w : World). Always (Answering reads h.world (command.Get u s uid) w o.now) o.now p.now) (same t h m v it e (gets h.world u s uid v (said it) m.world.settled turned.step)) moments
      go (Err error) e moments = subst (λ (w : World). Always (Answering reads h.world (command.Get u s uid) w o.now) o.now p.now) (get-stays h.world u uid s m.world.settled) moments

module _ {C : Type 0} {reads : List ℕ → Option Store} {place : C → ℕ} {stands : Bool → C → Outside → Type 0} {told : Bool} {c : Command} {old : Whole C} {o : Outside} (apart : is_plain c ≡ false)
    (begun : Standing reads place stands told old o) where
  -- nothing was asked yet
  pub rest-refused : (r : Refusal) → (IsTrue told → (h : plain.Whole) → Means reads old o h → whole_answer h c ≡ (h, replies.Reply.refused r)) → Applied reads place stands told c old old o o (Ok (reply.Refused r))
  rest-refused r is = record {
    stands = begun;
    stepped = λ t h m. apart-stepped reads old old o c h (Ok (reply.Refused r)) apart m (h, is t h m, m);
    ended = rest-ended reads told old o c (Ok (reply.Refused r)) (λ none. refl) (λ u. refl) (λ x is says. absurd (cc));
    kept = λ no. whole-refl c old;
  }

  pub rest-memory : {new : Whole C} {asked : List Command} (error : AllocError) → whole_takes_memory c ≡ true → AppliedBy reads place stands asked told c old new o o (Err error)
  rest-memory {new} error takes = record {
    stands = tt;
    stepped = λ t h m. apart-stepped reads old new o c h (Err error) apart m tt;
    ended = rest-ended reads told old o c (Err error) (λ none. absurd (both-ways (sym none ∙ takes))) tt (λ x is. tt);
    kept = tt;
  }

  -- an entry is read first
  module _ {mid : Engine C} {p : Outside} (u uid : ℕ) (s : List ℕ) {inner : Result Reply AllocError} (a : Inner reads place stands told (command.Get u s uid) old.world mid o p inner) where
    pub read-memory : {new : Whole C} (error : AllocError) → ((w : World) → steps_unread w c ≡ false) → is_format c ≡ false → whole_takes_memory c ≡ true → whole_uses_device c ≡ true
        → (IsTrue told → (rest : List Command) × (asked_in_turn (known_whole reads old o) c ≡ command.Get u s uid ∷ rest))
        → (IsTrue told → (h : plain.Whole) → Means reads old o h → Always (Answering reads h.world (command.Get u s uid) h.world o.now) o.now p.now)
        → ((x : ℕ) → p.dev_faults x ≡ o.dev_faults x) → Applied reads place stands told c old new o p (Err error)
    read-memory {new} error unread other memory device turn moments none = record {
      stands = tt;
      stepped = λ t h m.
          let w = whole_answer h c in record {
            next = w.0;
            reply = w.1;
            steps = wholes.plain (ap (option_and_then (unsure_look h.world)) (apart-looks c apart)) refl;
            threw = record { later = a.finished.later; rose = λ x k. absurd (both-ways (sym (apart-quiet h c x apart) ∙ k)) };
            failed = λ x k. none x;
            answered = tt;
            moments = Always-map (early reads h.world (command.Get u s uid) c w.0.world o.now o.now p.now (λ x. refl)) (moments t h m);
          };
      ended = reading-ended u uid s unread other memory device turn a.finished (λ t. tt) tt tt none;
      kept = tt;
    }
