-- What a call says of a command.
use Rattle.std.proofs.Common.{◌≡◌, refl, sym, ◌∙◌, ap, subst, ℕ, List, Bool, true, false, IsTrue, Option, Some, None}
use Rattle.std.specs.Prelude.{Result, Ok, Err, IfErr, IfOk, OnOk}
use Rattle.newt_base.specs.Refusals.{first_of}
use Rattle.newt_base.specs.declared.Refusal.{Refusal}
use Rattle.newt_host.specs.Moments.{Moment, Always}
use Rattle.newt_host.specs.Outside.{NoFault, Outside}
use Rattle.newt_pagebook.specs.declared.book.Stop.TheVariants as stops
use Rattle.newt_reply.specs.Said.{said}
use Rattle.newt_reply.specs.declared.reply.Reply.{Reply}
use Rattle.newt_spec_store.specs.Store.{Store}
use Rattle.newt_spec_world.specs.declared.command.Command.{Command}
use Rattle.newt_spec_world.specs.Reply as plain
use Rattle.newt_spec_world.specs.World.{World}
use Rattle.newt_laws_steps.specs.StandsFor.{seen, seen_on}
use Rattle.newt_spec_graph.proofs.Lists.{both-ways}
use Rattle.newt_spec_world.specs.Step.{looks_anew}
use Rattle.newt_spec_world.specs.declared.command.Command.TheVariants as command
use Rattle.newt_engine_cursors.specs.Calls.{FetchesAnswered, FetchesShown}
use Rattle.newt_engine.specs.Ends.{uses_device}
use Rattle.newt_spec_script.specs.Rows.{throws}
use Rattle.newt_engine_units.specs.Breaks.{Meanwhile}
use Rattle.newt_spec_world.specs.Answer.{answer, answered}
use Rattle.newt_spec_world.specs.Refused.{checks}
use Rattle.newt_store_change.specs.declared.fault.StoreFault.{StoreFault}
use Rattle.newt_store_change.specs.declared.fault.StoreFault.TheVariants.{Refused, Stop}
use Rattle.newt_engine_units.specs.declared.units.Units.{Units}
use Rattle.newt_engine_units.specs.Answers.{Answers}
use Rattle.newt_store_change.specs.Faults.{GoesOn, HasFaultCause, IsRefusal, NoDevice}
use Rattle.newt_engine_units.specs.Stands.{Eight, Stands, due_in, world_of}
use Rattle.newt_engine_units.proofs.Known.{Laws}
use Rattle.newt_engine_units.proofs.Turns.{still-moments}
use Rattle.newt_engine.specs.Calls.{IsNotThrown}
use Rattle.newt_engine.specs.Handed.{HandsOn, IsHanded}

module _ {T : Type 0} {made : T → plain.Reply} {found : Result T StoreFault} {result : Result Reply StoreFault} (on : HandsOn made found result) where
  -- where the command goes on, so did the call
  pub goes_back : GoesOn result → GoesOn found
  goes_back h = go found result on.same h
    where
      fault : (f : StoreFault) → GoesOn {T = Reply} (Err f) → GoesOn {T = T} (Err f)
      fault (Refused r) h = tt
      fault (Stop stop) h = absurd h

      go : (f : Result T StoreFault) (r : Result Reply StoreFault) → IsHanded made f r → GoesOn r → GoesOn f
      go (Ok x) _ s h = tt
      go (Err f) (Err g) s h = fault f (subst (λ e. GoesOn {T = Reply} (Err e)) s h)
      go (Err f) (Ok y) s h = absurd s

  -- what holds of the call's fault holds of the command's
  pub err_on : (P : StoreFault → Type 0) → IfErr found P → IfErr result P
  err_on P h = go found result on.same h
    where
      go : (f : Result T StoreFault) (r : Result Reply StoreFault) → IsHanded made f r → IfErr f P → IfErr r P
      go (Ok x) (Ok y) s h = tt
      go (Err f) (Err g) s h = subst P (sym s) h
      go (Ok x) (Err g) s h = absurd s
      go (Err f) (Ok y) s h = absurd s

  -- what was fetched for the answer was for the reply
  pub fetched_on : (o p : Outside) → FetchesAnswered made found o p
      → FetchesAnswered said result o p
  fetched_on o p h = go found result on.same h
    where
      fault : (f : StoreFault) → FetchesAnswered made (Err f) o p → FetchesAnswered said (Err f) o p
      fault (Refused r) h = h
      fault (Stop stop) h = tt

      go : (f : Result T StoreFault) (r : Result Reply StoreFault) → IsHanded made f r
          → FetchesAnswered made f o p → FetchesAnswered said r o p
      go (Ok x) (Ok y) s h = subst (λ it. FetchesShown it o p) (sym s) h
      go (Err f) (Err g) s h = subst (λ e. FetchesAnswered said (Err e) o p) (sym s) (fault f h)
      go (Ok x) (Err g) s h = absurd s
      go (Err f) (Ok y) s h = absurd s

  -- and what holds where the call is done holds where the command is
  pub ok_on : (P : Type 0) → OnOk found P → OnOk result P
  ok_on P h = go found result on.same h
    where
      go : (f : Result T StoreFault) (r : Result Reply StoreFault) → IsHanded made f r → OnOk f P → OnOk r P
      go (Ok x) (Ok y) s h = h
      go (Err f) (Err g) s h = tt
      go (Ok x) (Err g) s h = tt
      go (Err f) (Ok y) s h = absurd s

  -- the reply says of no unit that its device failed, where no reply made so does
  pub quiet_on : ((x : T) (u : ℕ) → throws u (made x) ≡ false) → IfOk result (λ it. IsNotThrown it)
  quiet_on never = go found result on.same
    where
      go : (f : Result T StoreFault) (r : Result Reply StoreFault) → IsHanded made f r → IfOk r (λ it. IsNotThrown it)
      go (Ok x) (Ok y) s = λ u. ap (throws u) s ∙ never x u
      go (Err f) (Err g) s = tt
      go (Ok x) (Err g) s = tt
      go (Err f) (Ok y) s = absurd s

  -- what the call answers is what the command answers
  pub answered_on : (w v : World) {c d : Command} → c ≡ d → Answers w v d made found → Answers w v c said result
  answered_on w v {c} {d} is h = go found result on.same (subst (λ x. Answers w v x made found) (sym is) h)
    where
      fault : (f : StoreFault) → Answers {T = T} w v c made (Err f) → Answers w v c said (Err f)
      fault (Refused r) k = k
      fault (Stop stop) k = tt

      go : (f : Result T StoreFault) (r : Result Reply StoreFault) → IsHanded made f r → Answers w v c made f → Answers w v c said r
      go (Ok x) (Ok y) s h = h ∙ ap (λ r. (v, r)) (sym s)
      go (Err f) (Err g) s h = subst (λ e. Answers w v c said (Err e)) (sym s) (fault f h)
      go (Ok x) (Err g) s h = absurd s
      go (Err f) (Ok y) s h = absurd s

-- a command whose reply is no refusal was not refused
pub unrefused_on : {T : Type 0} {made : T → plain.Reply} (w v : World) (c : Command) (found : Result T StoreFault) → ((x : T) (r : Refusal) → made x ≡ plain.Reply.refused r → ⊥) → Answers w v c made found
    → OnOk found (first_of (checks w c) ≡ None)
unfolding answer
unrefused_on {T} {made} w v c (Ok x) never h = go (first_of (checks w c)) refl
  where
    go : (o : Option Refusal) → first_of (checks w c) ≡ o → first_of (checks w c) ≡ None
    go None e = e
    go (Some r) e = absurd (never x r (sym (ap (λ (a : World × plain.Reply). a.1) h) ∙ ap (λ (o : Option Refusal). (answered w c o).1) e))
unrefused_on w v c (Err fault) never h = tt

-- the moments of a call are those of the command
pub moments_same : (reads : List ℕ → Option Store) (due : ℕ → Bool) (w : World) (start now : Moment) (c d : Command) → c ≡ d → Always (Meanwhile reads due w d (answer (seen reads w start d) d).0 start) start now
    → Always (Meanwhile reads due w c (answer (seen reads w start c) c).0 start) start now
moments_same reads due w start now c d same h = subst (λ x. Always (Meanwhile reads due w x (answer (seen reads w start x) x).0 start) start now) (sym same) h

-- ---- where no device is used

-- nothing is looked at anew
pub seen_in_memory : (reads : List ℕ → Option Store) (w : World) (now : Moment) (c : Command) → uses_device c ≡ false → seen reads w now c ≡ w
seen_in_memory reads w now c h = ap (seen_on reads w now) (none c h)
  where
    none : (c : Command) → uses_device c ≡ false → looks_anew w c ≡ None
    none (command.Format _ _ _) h = absurd (both-ways (sym h))
    none (command.Mount _) h = absurd (both-ways (sym h))
    none c h = refl

pub quiet : {C : Type 0} {reads : List ℕ → Option Store} {place : C → ℕ} {soups : C → Store} {stands : Bool → C → Outside → Type 0} → Laws reads place soups stands
    → (told : Bool) (units : Units C) (o : Outside) → Eight o → Stands place stands told units o → IsTrue told → (c : Command) (v : World)
    → Always (Meanwhile reads (due_in units.slots.items) (world_of reads units o) c v o.now) o.now o.now
quiet {C} {reads} {place} {soups} {stands} laws told units o e s t c v = still-moments laws units o e (subst (λ b. Stands place stands b units o) t s) c v o.now refl

pub told_stands : {C : Type 0} {place : C → ℕ} {stands : Bool → C → Outside → Type 0} (told : Bool) (units : Units C) (o : Outside) → Stands place stands told units o → IsTrue told → Stands place stands true units o
told_stands {C} {place} {stands} told units o s t = subst (λ b. Stands place stands b units o) t s

-- ---- causes

pub has_cause : {T : Type 0} (o p : Outside) (result : Result T StoreFault) → NoFault o p → IfErr result (λ fault. NoDevice fault) → IfErr result (λ fault. HasFaultCause fault o p)
has_cause o p (Ok x) none h = tt
has_cause o p (Err (Refused r)) none h = tt
has_cause o p (Err (Stop stops.Memory)) none h = none
has_cause o p (Err (Stop (stops.Device unit))) none h = absurd h

-- a refusal has no device to blame
pub blameless : {T : Type 0} (result : Result T StoreFault) → IfErr result (λ fault. IsRefusal fault) → IfErr result (λ fault. NoDevice fault)
blameless (Ok x) h = tt
blameless (Err (Refused r)) h = tt
blameless (Err (Stop stop)) h = absurd h

-- out of memory that was handed on is the answer
pub for_memory : (P : Result Reply StoreFault → Type 0) (result : Result Reply StoreFault) → (e : StoreFault) × (result ≡ Err e) × (e ≡ Stop stops.Memory) → P (Err (Stop stops.Memory)) → P result
for_memory P result e h = subst P (sym (e.1 ∙ ap {B = Result Reply StoreFault} (λ f. Err f) e.2)) h
