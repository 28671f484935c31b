-- What a run leaves that makes the store of a backup on a device. All of it is this project's own.
use Rattle.std.specs.Prelude.{◌≡◌, ◌≢◌, ◌⊎◌, ℕ, ◌+◌, ◌<◌, ◌≤◌, true, List, [], ◌++◌, length, Some, Result}
use Rattle.std.specs.Prelude.{Ok as Made, Err as Refused}
use Rattle.newt_base.specs.declared.Refusal.{Refusal}
use Rattle.newt_host.specs.Meanings.{out_of}
use Rattle.newt_host.specs.Moments.{IsDurable, image, taken}
use Rattle.newt_host.specs.Outside.{Outside, SameWork, Wears}
use Rattle.newt_laws_steps.specs.Devices.{SameDevices}
use Rattle.newt_nsof_read.specs.Reading.{decoded}
use Rattle.newt_pagebook.specs.Book.{format_bytes}
use Rattle.newt_script_session.specs.Named.{AtEachMoment, AttachedFirst, held_by}
use Rattle.newt_script_session.specs.Stream.{WroteSome}
use Rattle.newt_spec_image.specs.Records.{bank_blocks}
use Rattle.newt_spec_store.specs.Cost.{cost}
use Rattle.newt_spec_store.specs.Store.{Store}
use Rattle.newt_store_backup.specs.Restored.{IsAsked, IsRestored, restored_text}
use Rattle.newt_store_catalog.specs.Readable.{readable}
use Rattle.newt_top.specs.Reading.{ActsBeforeReply, OnlyReadsDevices}
use Rattle.newt_top.specs.declared.status.Status.{Status}
use Rattle.newt_top.specs.declared.status.Status.TheVariants.{Ok, Usage, Memory, Device, Source, Sink, TooLong}

-- a store that was made is on the device, and nothing is pending there
abbrev pub IsMade : Result Store Refusal → Outside → Type 0
IsMade (Made s) new = (readable (image 0 new.now) ≡ Some s) × IsDurable 0 new.now
IsMade (Refused refusal) new = Unit {0}

-- The device of the first name, as it was held, has got its store of this input, or was refused
-- one; and this holds of the reply.
pub record Replied (names : List (List ℕ)) (input : List ℕ) (IsWritten : List ℕ → Type 0)
    (old new : Outside) : Type 0 where
  pub outcome : Result Store Refusal
  pub is_outcome : IsRestored input (held_by names old 0) outcome
  pub written : IsWritten (restored_text outcome)
  pub made : IsMade outcome new

-- what was written, by the status: with Ok all of the reply, where the output failed a first part,
-- else nothing
abbrev pub WroteRestored : Status → List (List ℕ) → List ℕ → (old new : Outside) → Type 0
WroteRestored Ok names input old new =
    Replied names input (λ text. out_of new ≡ out_of old ++ text) old new
WroteRestored Usage names input old new = ⊥
WroteRestored Memory names input old new = out_of new ≡ out_of old
WroteRestored (Device unit) names input old new = out_of new ≡ out_of old
WroteRestored Source names input old new = ⊥
WroteRestored Sink names input old new =
    Replied names input (λ text. WroteSome text (out_of old) (out_of new)) old new
WroteRestored TooLong names input old new = ⊥

-- at each moment since it was attached a crash leaves a device as it was held
abbrev pub IsAsHeld : List (List ℕ) → (old new : Outside) → Type 0
IsAsHeld names old new = AtEachMoment new (λ unit left shown. held_by names old unit ≡ Some left)

-- where the device gets no store, it is only read, and a crash leaves it as it was held, whatever
-- the status is; where it gets one, a crash leaves that store on it from when a byte of the reply
-- is out
abbrev pub CrashLeaves : Result Store Refusal → List (List ℕ) → (old new : Outside) → Type 0
CrashLeaves (Made s) names old new =
    AtEachMoment new (λ unit left shown. unit ≡ 0 → length (out_of old) < length shown
    → readable left ≡ Some s)
CrashLeaves (Refused refusal) names old new = OnlyReadsDevices old new × IsAsHeld names old new

-- The device was attached after all that is read of the input was taken: until then nothing was put
-- out, and nothing done to a device. From there on it was attached first, and nothing is done to a
-- device once a byte of the reply is out: so the reply begins after the store was written.
pub record AttachedAfter (names : List (List ℕ)) (old new : Outside) : Type 0 where
  pub read : Outside
  pub all : taken new.now ≡ taken read.now
  pub quiet : out_of read ≡ out_of old
  pub same : SameDevices true old read
  pub attached : AttachedFirst names read new
  pub acts : ActsBeforeReply read.now new.now

-- A store was restored of this input to the device of the first name, or refused. The device was
-- attached after the input was read; or memory was refused to the input itself, and no device was
-- touched. Where memory ran out the device is as it was held; and whatever the status is, each page
-- of the store that is asked for was written once at most.
pub record RanRestored (names : List (List ℕ)) (input : List ℕ) (status : Status)
    (old new : Outside) : Type 0 where
  pub attached : AttachedAfter names old new ⊎ ((status ≡ Memory) × SameDevices true old new)
  pub wrote : WroteRestored status names input old new
  pub crash : (outcome : Result Store Refusal) → IsRestored input (held_by names old 0) outcome
      → CrashLeaves outcome names old new
  pub no_memory : status ≡ Memory → IsAsHeld names old new
  pub once : (s : Store) → IsAsked (decoded input) (Made s) →
      new.programmed 0 ≤ old.programmed 0 + format_bytes (cost s)

-- The same of the whole input, of which nothing is left.
pub record RanOver (names : List (List ℕ)) (limit : ℕ) (status : Status)
    (old new : Outside) : Type 0 where
  pub ran : RanRestored names old.input status old new
  pub left : new.input ≡ []
  pub within : length old.input ≤ limit

-- what a run leaves that restores a store: with too long an input, and where the input failed, no
-- device was touched and nothing written
abbrev pub RanRestoring : List (List ℕ) → ℕ → Status → (old new : Outside) → Type 0
RanRestoring names limit Ok old new = RanOver names limit Ok old new
RanRestoring names limit Usage old new = ⊥
RanRestoring names limit Memory old new = RanRestored names old.input Memory old new
RanRestoring names limit (Device unit) old new = RanOver names limit (Device unit) old new
RanRestoring names limit Source old new = (out_of new ≡ out_of old) × SameDevices true old new
RanRestoring names limit Sink old new = RanOver names limit Sink old new
RanRestoring names limit TooLong old new =
    (limit < length old.input) × (out_of new ≡ out_of old) × SameDevices true old new

-- Nothing was done to a device but that of the first name, of which each block of a bank and each
-- vote was erased once at most.
pub record WritesOneDevice (old new : Outside) : Type 0 where
  pub others : (unit : ℕ) → unit ≢ 0 → SameWork unit old new
  pub wears : Wears 0 (bank_blocks (new.blocks 0) + 3) 9 old new
