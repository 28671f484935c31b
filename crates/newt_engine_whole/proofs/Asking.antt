-- What the whole promises of a command that it asks the world.
use Rattle.std.proofs.Common.{◌≡◌, refl, ap, sym, ◌∙◌, subst, arith, ℕ, ◌≤◌, List, [], ◌∷◌, Bool, true, IsTrue, Option, Some, option_map, option_and_then, unwrap_or}
use Rattle.std.specs.declared.alloc.AllocError.{AllocError}
use Rattle.std.specs.Prelude.{IsSome, Ok, Err}
use Rattle.newt_host.specs.Moments.{Always, MayLeave, image}
use Rattle.newt_host.specs.Outside.{Outside}
use Rattle.newt_notify.specs.Watch.{Watching, kept_all}
use Rattle.newt_notify.specs.declared.note.Kind.{Kind}
use Rattle.newt_notify.specs.declared.note.Kind.TheVariants.{Add, Change, Gone, Make, Remove}
use Rattle.newt_reply.specs.Said.{said}
use Rattle.newt_reply.specs.declared.reply.Reply.{Reply}
use Rattle.newt_script_session.specs.Steps.{Stepped}
use Rattle.newt_spec_graph.proofs.Lists.{both-ways}
use Rattle.newt_spec_store.specs.Store.{Soup, Store, soup_named}
use Rattle.newt_spec_store.specs.Valid.{valid}
use Rattle.newt_spec_whole.specs.Events.{Event, add_event, entry_event, events, next_sig, note_all, soup_event}
use Rattle.newt_spec_whole.specs.Step.{WholeStep}
use Rattle.newt_spec_whole.specs.Whole as plain
use Rattle.newt_spec_world.specs.Answer.{answer, new_uid}
use Rattle.newt_spec_world.specs.Reply as replies
use Rattle.newt_spec_world.specs.Step.{Step}
use Rattle.newt_spec_world.specs.World.{World, default_unit, mounted_store, soup_in}
use Rattle.newt_spec_world.specs.declared.command.Command.{Command}
use Rattle.newt_spec_world.specs.declared.command.Command.TheVariants as command
use Rattle.newt_laws_steps.specs.Answering.{Answering}
use Rattle.newt_laws_steps.specs.StandsFor.{Obeys, seen}
use Rattle.newt_laws_steps.specs.Thrown.{FaultsTold, Threw}
use Rattle.newt_laws_steps.proofs.Seen.{seen-step}
use Rattle.newt_laws_whole.specs.Steps.{notes_after, noting}
use Rattle.newt_laws_whole.proofs.Telling.{steps-tell}
use Rattle.newt_laws_world.specs.Worlds.{is_plain}
use Rattle.newt_laws_whole.specs.Runs.{DraftsFit}
use Rattle.newt_engine_units.specs.Stands.{world_of}
use Rattle.newt_engine_units.proofs.Known.{Laws}
use Rattle.newt_engine.specs.Calls.{Applied as Inner}
use Rattle.newt_engine.specs.Kept.{KeepsWorld}
use Rattle.newt_engine.specs.Standing as inner
use Rattle.newt_engine.specs.Standing.{IsStanding, marks_of, means}
use Rattle.newt_engine.specs.declared.world.World.{World as Engine}
use Rattle.newt_engine.proofs.Applying.{standing-told}
use Rattle.newt_engine.proofs.Refusing.{answer_quiet}
use Rattle.newt_engine_whole.specs.Calls.{Applied}
use Rattle.newt_engine_whole.specs.Ends.{whole_takes_memory}
use Rattle.newt_engine_whole.specs.Standing.{Means, Standing}
use Rattle.newt_engine_whole.specs.Told.{HasSig, Tells, all_due, due_told}
use Rattle.newt_engine_whole.specs.declared.due.Due.{Due}
use Rattle.newt_engine_whole.specs.declared.whole.Whole.{Whole}
use Rattle.newt_engine_whole.proofs.Leaving.{refusal-leaves, refusal-told}
use Rattle.newt_engine_whole.proofs.Apart.{at-rest, rest-ended}
use Rattle.newt_engine_whole.proofs.Ending.{ended-plain}
use Rattle.newt_engine_whole.proofs.Meant.{mounted-same, uid-on}
use Rattle.newt_engine_whole.proofs.Telling.{step-sig, told-same}

-- ---- notes go by what is mounted

module _ (w x : World) (mounted : (u : ℕ) → mounted_store w u ≡ mounted_store x u) (default : w.default ≡ x.default) where
  soups-by : (u : ℕ) (name : List ℕ) → soup_in w u name ≡ soup_in x u name
  soups-by u name = ap (option_and_then (soup_named name)) (mounted u)

  entry-by : (kind : Kind) (u : ℕ) (name : List ℕ) (uid : ℕ) → entry_event w kind u name uid ≡ entry_event x kind u name uid
  entry-by kind u name uid = ap (λ (o : Option Soup). let e : Event = (name, record { kind = kind; unit = u; soup = unwrap_or (option_map (λ (p : Soup). p.sig) o) 0; uid = uid }) in e) (soups-by u name)

  add-by : (u : ℕ) (name : List ℕ) → add_event w u name ≡ add_event x u name
  add-by u name = entry-by Add u name (new_uid w u name)
      ∙ ap (λ (o : Option Soup). entry_event x Add u name (unwrap_or (option_map (λ (p : Soup). p.next_uid) o) 0)) (soups-by u name)

  sig-by : (u : ℕ) → next_sig w u ≡ next_sig x u
  sig-by u = ap (λ (o : Option Store). unwrap_or (option_map (λ (s : Store). s.next_soup) o) 0) (mounted u)

  alone : (e f : Event) → e ≡ f → ◌≡◌ {A = List Event} (e ∷ []) (f ∷ [])
  alone e f same = ap (λ (g : Event). g ∷ []) same

  pub events-by : (c : Command) → events w c ≡ events x c
  unfolding events
  events-by (command.Soup u s) = ap (λ n. soup_event Make u s n ∷ []) (sig-by u)
  events-by (command.Drop u s) = alone _ _ (entry-by Gone u s 0)
  events-by (command.Add u s g) = alone _ _ (add-by u s)
  events-by (command.Addx u s g) = alone _ _ (add-by u s)
  events-by (command.Addu s g) = alone _ _ (add-by (default_unit w) s ∙ ap (λ (o : Option ℕ). add_event x (unwrap_or o 8) s) default)
  events-by (command.Set u s uid path g) = alone _ _ (entry-by Change u s uid)
  events-by (command.Change u s uid g) = alone _ _ (entry-by Change u s uid)
  events-by (command.Vwrite u s uid path at bytes) = alone _ _ (entry-by Change u s uid)
  events-by (command.Remove u s uid) = alone _ _ (entry-by Remove u s uid)
  events-by (command.Copy u s uid v t) = alone _ _ (add-by v t)
  events-by (command.Move u s uid v t) = ap (λ (e : Event). e ∷ entry_event w Remove u s uid ∷ []) (add-by v t) ∙ ap (λ (e : Event). add_event x v t ∷ e ∷ []) (entry-by Remove u s uid)
  events-by _ = refl

  pub has-sig-by : (c : Command) (r : replies.Reply) → HasSig w c r → HasSig x c r
  has-sig-by (command.Soup u s) r h = h ∙ ap replies.Reply.number (sig-by u)
  has-sig-by _ r h = tt

-- ---- what is told is what the world after tells

module _ {C : Type 0} {reads : List ℕ → Option Store} {place : C → ℕ} {soups : C → Store} {stands : Bool → C → Outside → Type 0} (laws : Laws reads place soups stands)
    (old new : Engine C) (o p : Outside) (before : inner.Standing reads place stands true old.units old.desk o) (after : inner.Standing reads place stands true new.units new.desk p)
    (c : Command) (due : Due) (is : (r : replies.Reply) → HasSig (world_of reads old.units o) c r → all_due due r ≡ events (world_of reads old.units o) c) where
  pub told-after : (w v : World) (r : replies.Reply) → means reads old o w → means reads new p v → Step w c v r → due_told soups new.units due r ≡ notes_after w c v r
  told-after w v r from to step = told-same soups new.units w v due (uid-on laws new.units new.desk p after v to) c r
      (λ q sig. is q (has-sig-by w (world_of reads old.units o) mounted from.default c q sig) ∙ sym (events-by w (world_of reads old.units o) mounted from.default c))
      (step-sig w c v r step)
    where
      mounted : (u : ℕ) → mounted_store w u ≡ mounted_store (world_of reads old.units o) u
      mounted = mounted-same laws old.units old.desk o before w from

-- ---- a step

pub asked-step : {C : Type 0} (reads : List ℕ → Option Store) (old new : Whole C) (o p : Outside) (c : Command) (h : plain.Whole) (it : Reply) (notes : List Event) → is_plain c ≡ true → Means reads old o h
    → Obeys reads {R = Reply} {E = AllocError} said (means reads new.world p) h.world c (Ok it) o.now p.now
    → ((v : World) → Step h.world c v (said it) → means reads new.world p v → notes ≡ notes_after h.world c v (said it))
    → ((watches : List (Option Watching)) → old.watches ≡ kept_all watches → new.watches ≡ kept_all (note_all notes watches)) → new.works ≡ old.works
    → Threw (said it) o.dev_faults p.dev_faults → FaultsTold (said it) o.dev_faults p.dev_faults
    → Stepped {E = AllocError} WholeStep reads c (Ok it) h (Means reads new p) o.now p.now o.dev_faults p.dev_faults
asked-step reads old new o p c h it notes plain m (v, turned, stands, moments) told watches works threw failed = record {
  next = noting h v (notes_after h.world c v (said it));
  reply = said it;
  steps = steps-tell h c v (said it) plain turned.step;
  threw = threw;
  failed = failed;
  answered = (
    refl,
    record {
      world = stands;
      watches = watches h.watches m.watches ∙ ap (λ (es : List Event). kept_all (note_all es h.watches)) (told v turned.step stands);
      copies = works ∙ m.copies;
    },
  );
  moments = moments;
}

-- it was not answered, for want of memory
pub asked-memory : {C : Type 0} (reads : List ℕ → Option Store) (old : Whole C) (o p : Outside) (c : Command) (h : plain.Whole) (error : AllocError) (After : plain.Whole → Type 0) → is_plain c ≡ true → Means reads old o h
    → ((u : ℕ) → IsSome (o.card u) → MayLeave u o.now (image u o.now)) → ((u : ℕ) (s : Store) → IsSome (o.card u) → reads (image u o.now) ≡ Some s → IsTrue (valid (o.blocks u) s))
    → Always (Answering reads h.world c (answer (seen reads h.world o.now c) c).0 o.now) o.now p.now → ((u : ℕ) → o.dev_faults u ≤ p.dev_faults u) → ((u : ℕ) → p.dev_faults u ≡ o.dev_faults u)
    → Stepped {E = AllocError} WholeStep reads c (Err error) h After o.now p.now o.dev_faults p.dev_faults
asked-memory reads old o p c h error After plain m may good moments later none =
    let a = answer (seen reads h.world o.now c) c in record {
      next = noting h a.0 (notes_after h.world c a.0 a.1);
      reply = a.1;
      steps = steps-tell h c a.0 a.1 plain (seen-step reads (marks_of old.world) o h.world c m.world may good);
      threw = record { later = later; rose = λ u k. absurd (both-ways (sym (answer_quiet (seen reads h.world o.now c) c u) ∙ k)) };
      failed = λ u k. none u;
      answered = tt;
      moments = moments;
    }

-- ---- all that is promised

module _ {C : Type 0} {reads : List ℕ → Option Store} {place : C → ℕ} {soups : C → Store} {stands : Bool → C → Outside → Type 0} (laws : Laws reads place soups stands) {told : Bool} {c : Command} {old : Whole C} {o : Outside}
    (itself : is_plain c ≡ true) (begun : Standing reads place stands told old o) where
  -- the command was answered, and the watches are told
  pub asked-applied : {mid new : Whole C} {p : Outside} {it : Reply} (due : Due)
      → (IsTrue told → (r : replies.Reply) → HasSig (world_of reads old.world.units o) c r → all_due due r ≡ events (world_of reads old.world.units o) c)
      → mid.watches ≡ old.watches → mid.works ≡ old.works → Inner reads place stands told c old.world mid.world o p (Ok it) → Tells (due_told soups mid.world.units due (said it)) mid new
      → Applied reads place stands told c old new o p (Ok it)
  asked-applied {mid} {new} {p} {it} due is watches works a tells = record {
    stands = record {
      world = subst (λ (w : Engine C). IsStanding reads place stands told w p) (sym tells.world) a.stands;
      watches = let k = begun.watches in (note_all (due_told soups mid.world.units due (said it)) k.0, tells.watches k.0 (watches ∙ k.1));
      drafts = λ t. subst DraftsFit (sym (tells.works ∙ works)) (begun.drafts t);
    };
    stepped = λ t h m. asked-step reads old new o p c h it (due_told soups mid.world.units due (said it)) itself m
        (subst (λ (w : Engine C). Obeys reads {R = Reply} {E = AllocError} said (means reads w p) h.world c (Ok it) o.now p.now) (sym tells.world) (a.obeyed t h.world m.world))
        (λ v step there. told-after laws old.world mid.world o p (standing-told begun.world t) (standing-told a.stands t) c due (is t) h.world v (said it) m.world
        (subst (λ (w : Engine C). means reads w p v) tells.world there) step)
        (λ ws kept. tells.watches ws (watches ∙ kept)) (tells.works ∙ works) a.finished.threw a.finished.failed;
    ended = ended-plain itself a.finished;
    kept = λ no. record {
      world = subst (λ (w : Engine C). KeepsWorld c old.world w) (sym tells.world) (a.kept (refusal-leaves c (said it) no));
      watches = let k = begun.watches in tells.watches k.0 (watches ∙ k.1)
          ∙ ap (λ (es : List Event). kept_all (note_all es k.0)) (refusal-told soups mid.world.units due (said it) no) ∙ sym k.1;
      works = tells.works ∙ works;
    };
  }

  module _ (may : IsTrue told → (u : ℕ) → IsSome (o.card u) → MayLeave u o.now (image u o.now))
      (good : IsTrue told → (u : ℕ) (s : Store) → IsSome (o.card u) → reads (image u o.now) ≡ Some s → IsTrue (valid (o.blocks u) s)) where
    -- memory was refused in the world
    pub asked-ends : {mid : Engine C} {new : Whole C} {p : Outside} (error : AllocError) → Inner reads place stands told c old.world mid o p (Err error) → Applied reads place stands told c old new o p (Err error)
    asked-ends {mid} {new} {p} error a = record {
      stands = tt;
      stepped = λ t h m. asked-memory reads old o p c h error (Means reads new p) itself m (may t) (good t) (a.obeyed t h.world m.world) a.finished.later a.finished.unhidden;
      ended = ended-plain itself a.finished;
      kept = tt;
    }

    -- or before it was asked
    pub unasked-ends : {new : Whole C} (error : AllocError) → whole_takes_memory c ≡ true → Applied reads place stands told c old new o o (Err error)
    unasked-ends {new} error takes = record {
      stands = tt;
      stepped = λ t h m. asked-memory reads old o o c h error (Means reads new o) itself m (may t) (good t) (at-rest reads (marks_of old.world) o h.world m.world c _) (λ u. omega arith) (λ u. refl);
      ended = rest-ended reads told old o c (Err error) (λ none. absurd (both-ways (sym none ∙ takes))) tt (λ x is. tt);
      kept = tt;
    }
