-- A command that has failed, with the cursors as they were.
use Rattle.std.proofs.Common.{◌≡◌, ◌⊎◌, ◌∙◌, Bool, refl, ap, sym, subst, ℕ, List, true, false, IsTrue, Option, inl, ◌&&◌, not, is_none}
use Rattle.std.specs.Prelude.{Result, Ok, Err, IfErr}
use Rattle.newt_base.specs.Refusals.{Checks, first_of}
use Rattle.newt_host.specs.Moments.{Moment, Always, changes}
use Rattle.newt_host.specs.Outside.{Outside}
use Rattle.newt_reply.specs.Said.{said}
use Rattle.newt_reply.specs.declared.reply.Reply.{Reply}
use Rattle.newt_spec_graph.proofs.Lists.{both-ways}
use Rattle.newt_spec_query.specs.Cursor.{Cursor}
use Rattle.newt_spec_store.specs.Store.{Store}
use Rattle.newt_spec_world.specs.Answer.{answer}
use Rattle.newt_spec_world.specs.Step.{formats, is_format_of, may_tear, moves_away, thrown_out, writes}
use Rattle.newt_spec_world.specs.World as plain_world
use Rattle.newt_spec_world.specs.World.{lost, settle}
use Rattle.newt_spec_world.specs.declared.command.Command.{Command}
use Rattle.newt_spec_world.specs.Refused.{checks}
use Rattle.newt_spec_world.specs.Reply as plain
use Rattle.newt_laws_world.specs.Cursors.{uses_cursors, with_cursors}
use Rattle.newt_laws_world.specs.Settled.{IsSettled, MountedApart}
use Rattle.newt_laws_world.proofs.Uncursored.{checks-apart}
use Rattle.newt_laws_steps.specs.StandsFor.{seen}
use Rattle.newt_store_change.specs.Faults.{GoesOn, IsEnd}
use Rattle.newt_store_change.specs.declared.fault.StoreFault.{StoreFault}
use Rattle.newt_engine_units.specs.Answers.{Answers}
use Rattle.newt_engine_units.specs.Breaks.{AtDevice, FailsAlone, Meanwhile}
use Rattle.newt_engine_units.specs.Calls.{AreRead, BreaksIn, Ended, Obeys}
use Rattle.newt_engine_units.proofs.Slots.{but-of}
use Rattle.newt_engine_units.specs.Stands.{Eight, Stands, due_in, world_of}
use Rattle.newt_engine_units.proofs.Broken.{at-device-both, at-device-map}
use Rattle.newt_engine_units.proofs.Costs.{alone-refl}
use Rattle.newt_engine_units.proofs.Known.{Laws}
use Rattle.newt_engine_units.proofs.Obeying.{end-answers, fault-goes, handed-ends}
use Rattle.newt_engine_units.proofs.Settings.{is-err}
use Rattle.newt_engine_cursors.specs.Fits.{DeskFits}
use Rattle.newt_engine.specs.Bounds.{CommandCosts, is_format, most_settled}
use Rattle.newt_engine.specs.Calls.{Fails, FailsHalfway, Obeyed, Served}
use Rattle.newt_engine.specs.Ends.{takes_memory, uses_device}
use Rattle.newt_engine.specs.Kept.{KeepsWorld, LeavesAll}
use Rattle.newt_engine.specs.Standing.{IsStanding, stood_for}
use Rattle.newt_engine.specs.declared.world.World.{World}
use Rattle.newt_engine.proofs.Costing.{alone_few, settled_costs, unread_uses_cursor, walks_steps}
use Rattle.newt_engine.proofs.Looking.{seen-with}
use Rattle.newt_engine.proofs.Obeying.{handed_obeyed}
use Rattle.newt_engine.proofs.Settling.{fault_answers, moments_with, seen-whole, stands_after, start-formed, whole, writes_with}

pub err-device-both : {T : Type 0} (P Q R : ℕ → Type 0) (result : Result T StoreFault) → ((u : ℕ) → P u → Q u → R u) → IfErr result (AtDevice P) → IfErr result (AtDevice Q) → IfErr result (AtDevice R)
err-device-both P Q R (Ok x) f h k = tt
err-device-both P Q R (Err fault) f h k = at-device-both P Q R fault f h k

-- ---- with cursors and without

module _ (ks : List (Option Cursor)) (w : plain_world.World) (c : Command) (none : uses_cursors c ≡ false) where
  pub tears-with : (u : ℕ) → may_tear (with_cursors ks w) c u ≡ may_tear w c u
  tears-with u = ap (λ (o : Checks). (is_none (first_of o) && writes (with_cursors ks w) c u) && not (moves_away c u)) (checks-apart ks w c none)
      ∙ ap (λ b. (is_none (first_of (checks w c)) && b) && not (moves_away c u)) (writes_with ks w c u)

  formats-with : (u : ℕ) → formats (with_cursors ks w) c u ≡ formats w c u
  formats-with u = ap (λ (o : Checks). is_format_of c u && is_none (first_of o)) (checks-apart ks w c none)

-- a unit that fails in a command, with the cursors
pub fails_with : {C : Type 0} {reads : List ℕ → Option Store} {place : C → ℕ} {stands : Bool → C → Outside → Type 0} {told : Bool} {old new : World C} {o p : Outside} {u : ℕ} (c : Command) → uses_cursors c ≡ false
    → new.desk ≡ old.desk → BreaksIn reads place stands told c old.units new.units o p u → Fails reads place stands told c old new o p u
fails_with {reads = reads} {old = old} {new = new} {o = o} {p} {u} c none desk b = record {
  stands = b.breaks.stands;
  desk = desk;
  world = λ t. ap (λ ks. thrown_out (with_cursors ks (world_of reads new.units p)) u (λ _. lost)) desk ∙ ap (with_cursors old.desk) (b.breaks.world t);
  others = b.breaks.others;
  same = λ t tears sure store. ap (changes u) (b.same t (sym (tears-with old.desk (world_of reads old.units o) c none u) ∙ tears) sure
      (λ fmt. store (ap (λ (x : plain_world.World). formats x c u) (seen-with reads (world_of reads old.units o) o.now c old.desk) ∙ formats-with old.desk (seen reads (world_of reads old.units o) o.now c) c none u ∙ fmt)));
  failed = b.breaks.failed;
}

-- one that fails in a command that reads alone
pub fails_reading : {C : Type 0} {reads : List ℕ → Option Store} {place : C → ℕ} {stands : Bool → C → Outside → Type 0} {told : Bool} {old new : World C} {o p : Outside} {u : ℕ} (c : Command)
    → AreRead reads place stands told old.units new.units o p → new.desk ≡ old.desk → FailsAlone o p u → Fails reads place stands told c old new o p u
fails_reading {reads = reads} {place} {stands} {told} {old} {new} {o} {p} {u} c looks desk failed = record {
  stands = but-of place stands told new.units u p looks.stand;
  desk = desk;
  world = λ t. ap (λ ks. thrown_out (with_cursors ks (world_of reads new.units p)) u (λ _. lost)) desk ∙ ap (λ (x : plain_world.World). thrown_out (with_cursors old.desk x) u (λ _. lost)) (looks.world t);
  others = λ t n other. ap (changes n) looks.moment;
  same = λ t tears sure store. ap (changes u) looks.moment;
  failed = failed;
}

-- ---- what is answered with the cursors

module _ {C : Type 0} {reads : List ℕ → Option Store} {place : C → ℕ} {soups : C → Store} {stands : Bool → C → Outside → Type 0} (laws : Laws reads place soups stands) (told : Bool) (old : World C) (o : Outside)
    (s : IsStanding reads place stands told old o) (t : IsTrue told) (c : Command) (none : uses_cursors c ≡ false) where
  abbrev seen_units : plain_world.World
  seen_units = seen reads (world_of reads old.units o) o.now c

  -- what the command sees, with the cursors
  pub seen_is : seen reads (stood_for reads old o) o.now c ≡ with_cursors old.desk seen_units
  seen_is = seen-with reads (world_of reads old.units o) o.now c old.desk

  pub whole_seen : answer (seen reads (stood_for reads old o) o.now c) c ≡ (settle (with_cursors old.desk (answer seen_units c).0), (answer seen_units c).1)
  whole_seen = ap (λ x. answer x c) seen_is ∙ (let k = seen-whole laws told old.units old.desk o s t c in whole old.desk seen_units k.0 k.1 k.2 k.3 c none)

  pub whole_known : answer (stood_for reads old o) c ≡ (settle (with_cursors old.desk (answer (world_of reads old.units o) c).0), (answer (world_of reads old.units o) c).1)
  whole_known = whole old.desk (world_of reads old.units o) refl (start-formed laws told old.units old.desk o s t c) (s.apart t) (s.settled t) c none

  pub moments_served : (now : Moment) → Always (Meanwhile reads (due_in old.units.slots.items) (world_of reads old.units o) c (answer seen_units c).0 o.now) o.now now
      → let w = stood_for reads old o in Always (Meanwhile reads (due_in old.units.slots.items) w c (answer (seen reads w o.now c) c).0 o.now) o.now now
  moments_served now way = subst (λ (a : plain_world.World × plain.Reply). Always (Meanwhile reads (due_in old.units.slots.items) (stood_for reads old o) c a.0 o.now) o.now now) (sym whole_seen)
      (moments_with reads (due_in old.units.slots.items) (world_of reads old.units o) old.desk c (answer seen_units c).0 o.now now none way)

-- ---- a command that has failed

pub served_fault : {C : Type 0} {reads : List ℕ → Option Store} {place : C → ℕ} {soups : C → Store} {stands : Bool → C → Outside → Type 0} (laws : Laws reads place soups stands) (told : Bool) (old new : World C)
    (o p : Outside) → IsStanding reads place stands told old o → Eight p → (c : Command) (none : uses_cursors c ≡ false) (fault : StoreFault) → Obeyed reads place stands told c old new o p (Err fault)
    → Served reads place stands told c old new o p (Err fault)
served_fault {reads = reads} laws told old new o p s eight c none fault e =
    let answers : IsTrue told → Answers (seen reads (stood_for reads old o) o.now c) (stood_for reads new p) c said (Err fault) = λ t.
    let k = seen-whole laws told old.units old.desk o s t c in
    subst (λ x. Answers x (stood_for reads new p) c said (Err fault)) (sym (seen_is laws told old o s t c none))
    (fault_answers old.desk (seen reads (world_of reads old.units o) o.now c) k.0 k.1 k.2 k.3 c none (world_of reads new.units p) fault (e.answered t) new.desk e.desk) in
    record {
      stands = λ goes. stands_after told new.units new.desk p (e.stands goes) eight (subst DeskFits (sym e.desk) s.desk) (seen reads (stood_for reads old o) o.now c) c said (Err fault)
          (λ t. let k = seen-whole laws told old.units old.desk o s t c in subst (λ x. MountedApart x × IsSettled x) (sym (seen_is laws told old o s t c none)) (k.2, k.3)) answers goes;
      answered = answers;
      moments = λ t. moments_served laws told old o s t c none p.now (e.moments t);
      costs = λ t. settled_costs old.desk none (e.costs t) (λ goes. goes) refl (λ u. alone-refl u _)
          (λ means. alone_few old.desk (world_of reads old.units o) c o p (whole_known laws told old o s t c none) ((e.costs t).fetched means));
      step = λ t unread. absurd (unread_uses_cursor (stood_for reads old o) c none unread);
      shown = λ walks. absurd (unread_uses_cursor (stood_for reads old o) c none (walks_steps (stood_for reads old o) c walks));
      fresh = λ t u is. tt;
      alone = e.alone;
      broke = at-device-map _ _ fault (λ u b. inl (fails_with c none e.desk b)) e.broke;
      kept = λ idle. record { units = e.kept idle; desk = λ within. e.desk };
      ends = e.ends;
    }

-- the same of a call whose fault is handed on
pub served_handed : {C : Type 0} {reads : List ℕ → Option Store} {place : C → ℕ} {soups : C → Store} {stands : Bool → C → Outside → Type 0} (laws : Laws reads place soups stands) (told : Bool) (old new : World C)
    (o p : Outside) → IsStanding reads place stands told old o → Eight p → (c : Command) → uses_cursors c ≡ false → takes_memory c ≡ true → uses_device c ≡ true → is_format c ≡ false → new.desk ≡ old.desk
    → (fault : StoreFault) (result : Result Reply StoreFault) → (e : StoreFault) × (result ≡ Err e) × (e ≡ fault)
    → Obeys reads place stands told c (λ n. plain.Reply.number n) old.units new.units o p (Err fault) → Served reads place stands told c old new o p result
served_handed {reads = reads} {place} {stands = stands} laws told old new o p s eight c none memory device other desk fault result h obeys =
    subst (λ (r : Result Reply StoreFault). Served reads place stands told c old new o p r) (sym (is-err result fault h))
    (served_fault laws told old new o p s eight c none fault (handed_obeyed (record { same = refl }) refl memory device other (λ x r k. cc) (λ x u. refl) obeys desk))

-- and of one that ends the command after what was done
pub served_ended : {C : Type 0} {reads : List ℕ → Option Store} {place : C → ℕ} {soups : C → Store} {stands : Bool → C → Outside → Type 0} (laws : Laws reads place soups stands) (told : Bool) (old new : World C)
    (o p : Outside) → IsStanding reads place stands told old o → Eight p → (c : Command) → uses_cursors c ≡ false → takes_memory c ≡ true → uses_device c ≡ true → (S : Type 0)
    (fault : StoreFault) (result : Result Reply StoreFault) → (e : StoreFault) × (result ≡ Err e) × (e ≡ fault) → (IsTrue told → IsEnd fault)
    → (GoesOn {T = S} (Err fault) → Stands place stands told new.units p) → DeskFits new.desk
    → (IsTrue told → let w = stood_for reads old o in Always (Meanwhile reads (due_in old.units.slots.items) w c (answer (seen reads w o.now c) c).0 o.now) o.now p.now)
    → (IsTrue told → let w = stood_for reads old o in CommandCosts {T = S} w c (most_settled w c) (Err fault) o p)
    → Ended {T = S} (Err fault) o p → AtDevice (λ u. Fails reads place stands told c old new o p u ⊎ FailsHalfway reads place stands told c old new o p u) fault
    → (LeavesAll c (Err fault) → KeepsWorld c old new) → Served reads place stands told c old new o p result
served_ended {reads = reads} {place} {stands = stands} laws told old new o p s eight c none memory device S fault result h only stand desk moments costs ended broke keeps =
    let answers : IsTrue told → Answers (seen reads (stood_for reads old o) o.now c) (stood_for reads new p) c said (Err fault) = λ t.
    end-answers (seen reads (stood_for reads old o) o.now c) (stood_for reads new p) c said (Err fault) fault (fault, refl, refl) (only t) in
    let over : Ended {T = Reply} (Err fault) o p = handed-ends (Err fault) (fault, refl, refl) ended in
    subst (λ (r : Result Reply StoreFault). Served reads place stands told c old new o p r) (sym (is-err result fault h))
    (record {
      stands = λ goes. stands_after told new.units new.desk p (stand (fault-goes {T = Reply} S (Err fault) (fault, refl, refl) goes)) eight desk (seen reads (stood_for reads old o) o.now c) c said (Err fault)
          (λ t. let k = seen-whole laws told old.units old.desk o s t c in subst (λ x. MountedApart x × IsSettled x) (sym (seen_is laws told old o s t c none)) (k.2, k.3)) answers goes;
      answered = answers;
      moments = moments;
      costs = λ t. let k = costs t in record { bound = k.bound; format = k.format; fetched = k.fetched; open_after = λ goes. k.open_after (fault-goes {T = Reply} S (Err fault) (fault, refl, refl) goes) };
      step = λ t unread. absurd (unread_uses_cursor (stood_for reads old o) c none unread);
      shown = λ walks. absurd (unread_uses_cursor (stood_for reads old o) c none (walks_steps (stood_for reads old o) c walks));
      fresh = λ t u is. tt;
      alone = over.alone;
      broke = broke;
      kept = keeps;
      ends = record {
        cause = over.cause;
        no_fault = over.no_fault;
        memory = λ no. absurd (both-ways (sym no ∙ memory));
        device = λ no. absurd (both-ways (sym no ∙ device));
        quiet = tt;
      };
    })
