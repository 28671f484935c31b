-- A store is made on a device, or refused, and the reply put out.
use Rattle.std.proofs.Common.{◌≡◌, ◌⊎◌, inl, inr, ℕ, zero, suc, ◌+◌, ◌-◌, ◌<◌, ◌≤◌, ◌*◌, Bool, true, false, List, [], ◌∷◌, ◌++◌, length, drop, Option, Some, None, IsSome, Result, Ok as Good, Err as Bad, is_err, refl, sym, ◌∙◌, ap, subst, arith}
use Rattle.std.proofs.lemmas.Bool.{cases_lt}
use Rattle.std.proofs.lemmas.List.{length-append}
use Rattle.newt_base.specs.declared.Refusal.{Refusal}
use Rattle.newt_host.specs.Meanings.{device_on, out_of}
use Rattle.newt_host.specs.Moments.{Change, On, Printed, Took, IsHistory, LeftBy, MayLeave, Moment, Always, here, bytes_after, changes, moment_at, output, taken}
use Rattle.newt_host.specs.Outside.{Outside, PrintsSome, SameCounts, SameWork, Wears}
use Rattle.newt_host.proofs.Extending.{extends-always, moment-stays}
use Rattle.newt_host.proofs.Moments.{Always-last}
use Rattle.newt_host.proofs.Outside.{SameWork-append, SameWork-refl, Wears-refl, Wears-widen}
use Rattle.newt_host.proofs.Since.{Always-at}
use Rattle.newt_host_attach.specs.Named.{AreAttached}
use Rattle.newt_laws_steps.specs.Devices.{SameDevices}
use Rattle.newt_nsof_read.specs.Reading.{decoded}
use Rattle.newt_pagebook.specs.Book.{format_bytes}
use Rattle.newt_pagebook.specs.declared.book.Stop.{Stop}
use Rattle.newt_script_session.specs.Calls.{OutputFailed, WriteCall}
use Rattle.newt_script_session.specs.Named.{AtEachMoment, held_by}
use Rattle.newt_script_session.specs.Stream.{PutsText, WroteSome}
use Rattle.newt_spec_image.specs.Records.{bank_blocks}
use Rattle.newt_spec_store.specs.Cost.{cost}
use Rattle.newt_spec_store.specs.Store.{Store}
use Rattle.newt_store_backup.specs.Restored.{IsAsked, IsDone, IsLeft, IsRestored, Restores}
use Rattle.newt_store_backup.proofs.Outcomes.{one-outcome}
use Rattle.newt_store_catalog.specs.Readable.{readable}
use Rattle.newt_top.specs.Restoring.{AttachedAfter, CrashLeaves, IsMade, RanRestored, Replied, WritesOneDevice}
use Rattle.newt_top.specs.declared.status.Status.TheVariants.{Ok, Memory, Device, Sink}
use Rattle.newt_top.proofs.Acting.{attached-filling}
use Rattle.newt_top.proofs.Looking.{crash-held, crash-since, device-held, only-read, still}

-- ---- what was shown

-- no earlier moment shows more output
drop-shows-less : (n : ℕ) (now : Moment) → length (output (drop n now)) ≤ length (output now)
drop-shows-less zero now = omega arith
drop-shows-less (suc n) [] = omega arith
drop-shows-less (suc n) (On unit change ∷ before) = drop-shows-less n before
drop-shows-less (suc n) (Printed byte ∷ before) = let less = drop-shows-less n before in omega (arith, less, length-append (output before) (byte ∷ []))
drop-shows-less (suc n) (Took bytes ∷ before) = drop-shows-less n before

shows-less : (k : ℕ) (now : Moment) → length (output (moment_at k now)) ≤ length (output now)
shows-less k now = drop-shows-less (length now - k) now

-- where nothing was put out, no moment shows more than there was
none-shown : {P : Type 0} (k : ℕ) (old new : Outside) (shown : List ℕ) → out_of new ≡ out_of old → output (moment_at k new.now) ≡ shown → length (out_of old) < length shown → P
none-shown k old new shown quiet is more = absurd (omega (arith, shows-less k new.now, ap length quiet, ap length is, more))

-- ---- what a crash leaves

module _ (old done new : Outside) (quiet : out_of done ≡ out_of old) (later : Always (λ m. (unit : ℕ) → changes unit m ≡ changes unit done.now) done.now new.now) where
  -- a moment that shows more comes after the store was made
  since-made : (k : ℕ) (shown : List ℕ) → k ≤ length new.now → output (moment_at k new.now) ≡ shown → length (out_of old) < length shown → (unit : ℕ) → changes unit (moment_at k new.now) ≡ changes unit done.now
  since-made k shown to is more = elim (cases_lt k (length done.now)) [
    | inl early ↦
        let same : moment_at k new.now ≡ moment_at k done.now = moment-stays k (extends-always later) (omega (arith, early)) in
        none-shown k old done shown quiet (ap output (sym same) ∙ is) more
    | inr late ↦ Always-at later k late to
  ]

  -- so a crash leaves it
  made-left : (s : Store) (mid : Outside) → IsLeft (Good s) 0 mid done → AtEachMoment new (λ unit left shown. unit ≡ 0 → length (out_of old) < length shown → readable left ≡ Some s)
  made-left s mid made unit t left shown at (k, from, to, may, is) first more =
      let there : MayLeave 0 (moment_at k new.now) left = subst (λ (u : ℕ). MayLeave u (moment_at k new.now) left) first may in
      let then : MayLeave 0 done.now left = subst (λ (cs : List Change). LeftBy cs left) (since-made k shown to is more 0) there in
      ap readable (made.1 left then) ∙ made.0

  -- it is there at the end
  made-still : (outcome : Result Store Refusal) (mid : Outside) → IsLeft outcome 0 mid done → IsMade outcome new
  made-still (Good s) mid made =
      let same : changes 0 new.now ≡ changes 0 done.now = Always-last later 0 in
      (ap readable (ap bytes_after same) ∙ made.0, λ left may. made.1 left (subst (λ (cs : List Change). LeftBy cs left) same may) ∙ sym (ap bytes_after same))
  made-still (Bad refusal) mid looks = tt

-- ---- the call that restores

-- What every host keeps that tells bytes: to a unit without a device nothing has happened, and to one that has a device what can happen to it.
pub record HasHistory (new : Outside) : Type 0 where
  pub untouched : (unit : ℕ) → new.card unit ≡ None → changes unit new.now ≡ []
  pub history : (unit : ℕ) → IsSome (new.card unit) → IsHistory (new.blocks unit * 4096) (changes unit new.now)

module _ {T : Type 0} (names : List (List ℕ)) (input : List ℕ) (old mid done : Outside) (r : Result T Stop) (fresh : (unit : ℕ) → changes unit old.now ≡ []) (blank : (unit : ℕ) → mid.card unit ≡ None → changes unit mid.now ≡ [])
    (a : AreAttached true names old mid) (restores : Restores true 0 input mid done r) where
  -- the device is attached as it was held
  at-hand : (outcome : Result Store Refusal) → IsRestored input (held_by names old 0) outcome → IsRestored input (device_on 0 mid) outcome
  at-hand outcome is = subst (λ (d : Option (List ℕ)). IsRestored input d outcome) (sym (device-held names old mid a 0)) is

  as-held : (outcome : Result Store Refusal) → IsRestored input (device_on 0 mid) outcome → IsRestored input (held_by names old 0) outcome
  as-held outcome is = subst (λ (d : Option (List ℕ)). IsRestored input d outcome) (device-held names old mid a 0) is

  -- each page was written once, and nothing was programmed after that
  once-by : (new : Outside) → SameWork 0 done new → (s : Store) → IsAsked (decoded input) (Good s) → new.programmed 0 ≤ old.programmed 0 + format_bytes (cost s)
  once-by new last s asked = between (old.programmed 0) (mid.programmed 0) (done.programmed 0) (new.programmed 0) (format_bytes (cost s)) (a.counts.work 0).programmed (restores.once s asked) last.programmed
    where
      between : (a b c d n : ℕ) → b ≡ a → c ≤ b + n → d ≡ c → d ≤ a + n
      between a b c d n first most last = omega (arith, first, most, last)

  -- nothing was put out
  quiet-done : out_of done ≡ out_of old
  quiet-done = (Always-last (restores.any_moment refl)).output ∙ a.quiet refl

  module _ (new : Outside) (past : HasHistory new) (text : List ℕ) (prints : Always (PrintsSome text done.now) done.now new.now) (cards : (unit : ℕ) → new.card unit ≡ done.card unit)
      (work : (unit : ℕ) → SameWork unit done new) where
    -- a store was refused
    crash-refused : (refusal : Refusal) → IsRestored input (held_by names old 0) (Bad refusal) → CrashLeaves (Bad refusal) names old new
    crash-refused refusal is =
        let looks = restores.refused refl (Bad refusal) (at-hand (Bad refusal) is) refl in (
          λ unit. only-read old mid done new unit (a.counts.work unit) looks (work unit),
          crash-since names old mid done a looks fresh new past.untouched past.history text prints cards,
        )

    -- the call has answered
    crash-done : IsDone input 0 mid done text → (outcome : Result Store Refusal) → IsRestored input (held_by names old 0) outcome → CrashLeaves outcome names old new
    crash-done d outcome is = go outcome is (one-outcome input (device_on 0 mid) outcome d.outcome (at-hand outcome is) d.is_restored)
      where
        go : (outcome : Result Store Refusal) → IsRestored input (held_by names old 0) outcome → d.outcome ≡ outcome → CrashLeaves outcome names old new
        go (Good s) is same = made-left old done new quiet-done (still text done new prints) s mid (subst (λ (o : Result Store Refusal). IsLeft o 0 mid done) same d.left)
        go (Bad refusal) is same = crash-refused refusal is

  -- the device was attached first, and filled before the reply
  attached-first : (new : Outside) (text : List ℕ) → Always (PrintsSome text done.now) done.now new.now → ((unit : ℕ) → new.card unit ≡ done.card unit) → taken new.now ≡ taken done.now
      → {X : Type 0} → AttachedAfter names old new ⊎ X
  attached-first new text prints cards unread = inl (attached-filling names old mid new blank a (λ unit. cards unit ∙ restores.alone.cards.card unit) text done (restores.any_moment refl) prints unread)

  -- what the reply tells
  replied : (new : Outside) (text : List ℕ) → Always (PrintsSome text done.now) done.now new.now → (P : List ℕ → Type 0) → IsDone input 0 mid done text → P text → Replied names input P old new
  replied new text prints P d put = record {
    outcome = d.outcome;
    is_outcome = as-held d.outcome d.is_restored;
    written = subst P d.text_is put;
    made = made-still old done new quiet-done (still text done new prints) d.outcome mid d.left;
  }

  -- the call was halted
  module _ (past : HasHistory done) where
    none-put : Always (PrintsSome [] done.now) done.now done.now
    none-put = here (record { done = []; rest = []; split = refl; moment = refl })

    crash-halted : (outcome : Result Store Refusal) → IsRestored input (held_by names old 0) outcome → CrashLeaves outcome names old done
    crash-halted (Good s) is = λ unit t left shown at was first more. none-shown was.0 old done shown quiet-done was.4 more
    crash-halted (Bad refusal) is = crash-refused done past [] none-put (λ unit. refl) (λ unit. SameWork-refl unit done) refusal is

    -- by the device
    pub ran-failed : (unit : ℕ) → RanRestored names input (Device unit) old done
    ran-failed unit = record {
      attached = attached-first done [] none-put (λ unit. refl) refl;
      wrote = quiet-done;
      crash = crash-halted;
      no_memory = λ memory. absurd (cc);
      once = once-by done (SameWork-refl 0 done);
    }

    -- by want of memory, and nothing has happened
    pub ran-short : done.now ≡ mid.now → RanRestored names input Memory old done
    ran-short same = record {
      attached = attached-first done [] none-put (λ unit. refl) refl;
      wrote = quiet-done;
      crash = crash-halted;
      no_memory = λ memory.
          let none : Always (λ m. (unit : ℕ) → changes unit m ≡ changes unit mid.now) mid.now done.now = subst (λ (m : Moment). Always (λ n. (unit : ℕ) → changes unit n ≡ changes unit mid.now) mid.now m) (sym same) (here (λ unit. refl)) in
          crash-held names old mid a done none restores.alone.cards.card fresh past.untouched past.history;
      once = once-by done (SameWork-refl 0 done);
    }

  -- the reply was put out, or the output failed
  pub ran-replied : {U E : Type 0} (new : Outside) (past : HasHistory new) (text : List ℕ) (put : Result U E) → IsDone input 0 mid done text → PutsText put text done.now new.now → WriteCall true OutputFailed put done new
      → (is_err put ≡ true → RanRestored names input Sink old new) × (is_err put ≡ false → RanRestored names input Ok old new)
  ran-replied new past text (Good x) d puts call = (
    λ fails. absurd (cc),
    λ works. record {
      attached = attached-first new text puts.moments call.devices.cards.card (Always-last (call.unread.moments refl));
      wrote = replied new text puts.moments (λ t. out_of new ≡ out_of old ++ t) d (puts.whole ∙ ap (λ (o : List ℕ). o ++ text) quiet-done);
      crash = crash-done new past text puts.moments call.devices.cards.card call.devices.counts.work d;
      no_memory = λ memory. absurd (cc);
      once = once-by new (call.devices.counts.work 0);
    },
  )
  ran-replied new past text (Bad e) d puts call = (
    λ fails. record {
      attached = attached-first new text puts.moments call.devices.cards.card (Always-last (call.unread.moments refl));
      wrote = replied new text puts.moments (λ t. WroteSome t (out_of old) (out_of new)) d (subst (λ (o : List ℕ). WroteSome text o (out_of new)) quiet-done puts.failed);
      crash = crash-done new past text puts.moments call.devices.cards.card call.devices.counts.work d;
      no_memory = λ memory. absurd (cc);
      once = once-by new (call.devices.counts.work 0);
    },
    λ works. absurd (cc),
  )

-- ---- one device is written

-- how often blocks were erased and the unit synced, over what left it alone
wears-between : (a b c d most : ℕ) → b ≡ a → c ≤ b + most → d ≡ c → d ≤ a + most
wears-between a b c d most first within last = omega (arith, first, within, last)

-- before anything was done to a device
pub writes-after : (old mid new : Outside) → SameCounts old mid → WritesOneDevice mid new → WritesOneDevice old new
writes-after old mid new same w =
    let work = same.work 0 in
    record {
      others = λ unit other. SameWork-append (same.work unit) (w.others unit other);
      wears = record {
        erased = wears-between (old.erased 0) (mid.erased 0) (new.erased 0) (new.erased 0) (bank_blocks (new.blocks 0) + 3) work.erased w.wears.erased refl;
        synced = wears-between (old.synced 0) (mid.synced 0) (new.synced 0) (new.synced 0) 9 work.synced w.wears.synced refl;
      };
    }

-- and after it was
pub writes-before : {told : Bool} (old mid new : Outside) → WritesOneDevice old mid → SameDevices told mid new → WritesOneDevice old new
writes-before old mid new w same =
    let work = same.counts.work 0 in
    let wears : Wears 0 (bank_blocks (new.blocks 0) + 3) 9 old mid = subst (λ (n : ℕ). Wears 0 (bank_blocks n + 3) 9 old mid) (sym (same.cards.blocks 0)) w.wears in
    record {
      others = λ unit other. SameWork-append (w.others unit other) (same.counts.work unit);
      wears = record {
        erased = wears-between (old.erased 0) (old.erased 0) (mid.erased 0) (new.erased 0) (bank_blocks (new.blocks 0) + 3) refl wears.erased work.erased;
        synced = wears-between (old.synced 0) (old.synced 0) (mid.synced 0) (new.synced 0) 9 refl wears.synced work.synced;
      };
    }

-- no device is
pub writes-none : {told : Bool} (old new : Outside) → SameDevices told old new → WritesOneDevice old new
writes-none old new same = writes-before old old new (record {
  others = λ unit other. SameWork-refl unit old;
  wears = Wears-widen 0 0 (bank_blocks (old.blocks 0) + 3) 9 (omega arith) (omega arith) (Wears-refl 0 old);
}) same

-- the call that restores writes one
pub writes-restored : {T : Type 0} (told : Bool) (input : List ℕ) (mid done : Outside) (r : Result T Stop) → Restores told 0 input mid done r → WritesOneDevice mid done
writes-restored told input mid done r restores = record {
  others = restores.alone.others;
  wears = subst (λ (n : ℕ). Wears 0 (bank_blocks n + 3) 9 mid done) (sym (restores.alone.cards.blocks 0)) restores.wears;
}
