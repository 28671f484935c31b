-- A store is restored: what the reading of the input before leaves.
use Rattle.std.proofs.Common.{◌≡◌, inl, inr, refl, sym, ◌∙◌, ap, subst, ℕ, ◌+◌, ◌<◌, ◌≤◌, true, List, [], ◌++◌, length, Option, Some, None, Result, Ok as Made, Err as Refused, arith}
use Rattle.std.specs.Prelude.{option_and_then, slice_get}
use Rattle.newt_base.specs.declared.Refusal.{Refusal}
use Rattle.newt_host.specs.Meanings.{out_of, since}
use Rattle.newt_host.specs.Moments.{changes}
use Rattle.newt_host.specs.Outside.{Outside}
use Rattle.newt_host.proofs.Histories.{untouched-attached}
use Rattle.newt_laws_steps.specs.Devices.{SameDevices}
use Rattle.newt_script_session.specs.Named.{AtEachMoment, held_by}
use Rattle.newt_script_session.specs.Stream.{WroteSome}
use Rattle.newt_script_session.specs.declared.halt.Halt.{Halt}
use Rattle.newt_script_session.specs.declared.halt.Halt.TheVariants as halts
use Rattle.newt_script_session.proofs.Counting.{same-trans}
use Rattle.newt_pagebook.specs.Book.{format_bytes}
use Rattle.newt_spec_store.specs.Cost.{cost}
use Rattle.newt_spec_store.specs.Store.{Store}
use Rattle.newt_store_backup.specs.Restored.{IsRestored}
use Rattle.newt_top.specs.Reading.{OnlyReadsDevices}
use Rattle.newt_top.specs.Restoring.{CrashLeaves, RanRestored, RanRestoring, Replied, WroteRestored}
use Rattle.newt_top.specs.Status.{status_of}
use Rattle.newt_top.specs.Converting.{HasReadCause}
use Rattle.newt_top.specs.declared.status.Status.{Status}
use Rattle.newt_top.specs.declared.status.Status.TheVariants.{Ok, Usage, Memory, Device, Source, Sink, TooLong}

-- no device is attached, so of no moment anything is claimed
no-moment : (new : Outside) (P : (unit : ℕ) → (left shown : List ℕ) → Type 0) → ((unit : ℕ) → changes unit new.now ≡ []) → AtEachMoment new P
no-moment new P none unit t left shown at was = let never : since new unit ≡ None = untouched-attached unit new.now (none unit) in absurd (cc)

-- devices that are as they were were only read
same-read : (old new : Outside) → SameDevices true old new → OnlyReadsDevices old new
same-read old new same = λ unit.
    let work = same.counts.work unit in
    (omega (arith, work.programmed), record { erased = omega (arith, work.erased); synced = omega (arith, work.synced) })

-- what was not programmed is within any bound
no-more : (a b n : ℕ) → b ≡ a → b ≤ a + n
no-more a b n same = omega (arith, same)

-- the reading of the input was halted
pub halted-restoring : (names : List (List ℕ)) (limit : ℕ) (halt : Halt) (old new : Outside) → HasReadCause halt old new → (halt ≡ halts.TooLong → limit < length old.input)
    → out_of new ≡ out_of old → SameDevices true old new → ((unit : ℕ) → changes unit old.now ≡ []) → RanRestoring names limit (status_of halt) old new
halted-restoring names limit halts.Memory old new cause long quiet same fresh = record {
  attached = inr (refl, same);
  wrote = quiet;
  crash = λ outcome is. go outcome;
  no_memory = λ status. no-moment new _ none;
  once = λ s asked. no-more (old.programmed 0) (new.programmed 0) (format_bytes (cost s)) (same.counts.work 0).programmed;
}
  where
    none : (unit : ℕ) → changes unit new.now ≡ []
    none unit = same.changes refl unit ∙ fresh unit

    go : (outcome : Result Store Refusal) → CrashLeaves outcome names old new
    go (Made s) = no-moment new _ none
    go (Refused refusal) = (same-read old new same, no-moment new _ none)
halted-restoring names limit halts.Source old new cause long quiet same fresh = (quiet, same)
halted-restoring names limit halts.Sink old new cause long quiet same fresh = absurd cause
halted-restoring names limit halts.TooLong old new cause long quiet same fresh = (long refl, quiet, same)

-- ---- the input was read

module _ (names : List (List ℕ)) (old mid new : Outside) (quiet : out_of mid ≡ out_of old) (same : SameDevices true old mid) where
  -- the devices are held as they were
  held-same : (unit : ℕ) → held_by names mid unit ≡ held_by names old unit
  held-same unit = go (slice_get names unit)
    where
      go : (o : Option (List ℕ)) → option_and_then mid.devices o ≡ option_and_then old.devices o
      go None = refl
      go (Some name) = same.cards.devices name

  is-over : (input : List ℕ) (outcome : Result Store Refusal) → IsRestored input (held_by names mid 0) outcome → IsRestored input (held_by names old 0) outcome
  is-over input outcome is = subst (λ (d : Option (List ℕ)). IsRestored input d outcome) (held-same 0) is

  is-under : (input : List ℕ) (outcome : Result Store Refusal) → IsRestored input (held_by names old 0) outcome → IsRestored input (held_by names mid 0) outcome
  is-under input outcome is = subst (λ (d : Option (List ℕ)). IsRestored input d outcome) (sym (held-same 0)) is

  crash-over : (outcome : Result Store Refusal) → CrashLeaves outcome names mid new → CrashLeaves outcome names old new
  crash-over (Made s) crash = λ unit t left shown at was first out. crash unit t left shown at was first (subst (λ (o : List ℕ). length o < length shown) (sym quiet) out)
  crash-over (Refused refusal) crash = (
    λ unit.
        let work = same.counts.work unit in
        let read = crash.0 unit in
        (omega (arith, work.programmed, read.0), record { erased = omega (arith, work.erased, read.1.erased); synced = omega (arith, work.synced, read.1.synced) }),
    λ unit t left shown at was. sym (held-same unit) ∙ crash.1 unit t left shown at was,
  )

  -- what a reply was is the same
  reply-over : (input : List ℕ) (P Q : List ℕ → Type 0) → ((text : List ℕ) → P text → Q text) → Replied names input P mid new → Replied names input Q old new
  reply-over input P Q turns r = record {
    outcome = r.outcome;
    is_outcome = is-over input r.outcome r.is_outcome;
    written = turns _ r.written;
    made = r.made;
  }

  wrote-over : (status : Status) (input : List ℕ) → WroteRestored status names input mid new → WroteRestored status names input old new
  wrote-over Ok input wrote = reply-over input _ _ (λ text is. is ∙ ap (λ (o : List ℕ). o ++ text) quiet) wrote
  wrote-over Usage input wrote = absurd wrote
  wrote-over Memory input wrote = wrote ∙ quiet
  wrote-over (Device unit) input wrote = wrote ∙ quiet
  wrote-over Source input wrote = absurd wrote
  wrote-over Sink input wrote = reply-over input _ _ (λ text is. subst (λ (o : List ℕ). WroteSome text o (out_of new)) quiet is) wrote
  wrote-over TooLong input wrote = absurd wrote

  ran-over : (status : Status) (input : List ℕ) → RanRestored names input status mid new → RanRestored names input status old new
  ran-over status input r = record {
    attached = elim r.attached [
      | inl b ↦ inl (record { read = b.read; all = b.all; quiet = b.quiet ∙ quiet; same = same-trans same b.same; attached = b.attached; acts = b.acts })
      | inr none ↦ inr (none.0, same-trans same none.1)
    ];
    wrote = wrote-over status input r.wrote;
    crash = λ outcome is. crash-over outcome (r.crash outcome (is-under input outcome is));
    no_memory = λ memory unit t left shown at was. sym (held-same unit) ∙ r.no_memory memory unit t left shown at was;
    once = λ s asked. subst (λ (n : ℕ). new.programmed 0 ≤ n + format_bytes (cost s)) (same.counts.work 0).programmed (r.once s asked);
  }

  -- a store was restored of the input that was read
  pub read-restoring : (limit : ℕ) (status : Status) → RanRestored names old.input status mid new → new.input ≡ [] → length old.input ≤ limit → RanRestoring names limit status old new
  read-restoring limit Ok r left within = record { ran = ran-over Ok old.input r; left = left; within = within }
  read-restoring limit Usage r left within = absurd r.wrote
  read-restoring limit Memory r left within = ran-over Memory old.input r
  read-restoring limit (Device unit) r left within = record { ran = ran-over (Device unit) old.input r; left = left; within = within }
  read-restoring limit Source r left within = absurd r.wrote
  read-restoring limit Sink r left within = record { ran = ran-over Sink old.input r; left = left; within = within }
  read-restoring limit TooLong r left within = absurd r.wrote
