-- What one call does to the log and to the card of its unit.
use Rattle.std.specs.Prelude.{◌≡◌, ◌⊎◌, ℕ, ◌+◌, ◌-◌, ◌^◌, ◌≤◌, ◌<◌, zero, suc, min, Option, Some, None, slice_index_or, Bool, true, List, [], ◌∷◌, ◌++◌, length, take, drop, Result, Ok, Err, IsErr, is_err, OnOk, OnErr, vec_len, vec_capacity}
use Rattle.std.proofs.Common.{Vec, Global}
use Rattle.newt_host.specs.Moments.{Attached, On, Wrote, changes}
use Rattle.newt_host.specs.Outside.{Work, Writes, printed as printed_after}
use Rattle.newt_memhost.specs.Log.{HasRoom, now_of}
use Rattle.newt_memhost.specs.Past.{unit_at}
use Rattle.newt_memhost.specs.Cards.{StandsAs, free_device}
use Rattle.newt_memhost.specs.declared.card.Card.{Card}
use Rattle.newt_memhost.specs.declared.card.Device.{Device}
use Rattle.newt_memhost.specs.declared.happened.Happened.{Happened}
use Rattle.newt_memhost.specs.declared.log.Log.{Log}

-- a count after so many more; it stays at its last value
abbrev pub raised : ℕ → ℕ → ℕ
raised more count = min (count + more) (2 ^ 64 - 1)

-- a count of faults after a call: one more where that failed, and otherwise as it was
abbrev pub faults_after : {T E : Type 0} → Result T E → ℕ → ℕ
faults_after (Ok x) count = count
faults_after (Err e) count = raised 1 count

-- a count of bytes after a call on so many of them; where that failed, as it was
abbrev pub moved_after : {T E : Type 0} → ℕ → Result T E → ℕ → ℕ
moved_after bytes (Ok x) count = raised bytes count
moved_after bytes (Err e) count = count

-- a count of calls after none or more of them, whether they failed or not
abbrev pub worn : ℕ → ℕ → ℕ
worn zero count = count
worn (suc n) count = raised (suc n) count

-- A call was kept: as one more entry that has a number, on its unit or on none. It failed exactly
-- where it was to fail.
pub record WasKept {T E : Type 0} (unit : Option ℕ) (fails : Bool) (result : Result T E) (old new : Log) : Type 0 where
  pub entry : Happened
  pub bytes : List ℕ
  pub entries_are : new.entries.items ≡ old.entries.items ++ entry ∷ []
  pub bytes_are : new.store.items ≡ old.store.items ++ bytes
  pub numbered : new.calls ≡ old.calls + 1
  pub is_on : unit_at (Some entry) ≡ unit
  pub failed : is_err result ≡ fails

-- There was less room than a call uses, and no memory for more. The call failed, and nothing has
-- happened.
pub record HadNoRoom {T E : Type 0} (room : Type 0) (result : Result T E) (old new : Log) : Type 0 where
  pub entries_are : new.entries.items ≡ old.entries.items
  pub bytes_are : new.store.items ≡ old.store.items
  pub failed : IsErr result
  pub full : room → ⊥

-- What became of a call: nothing that happened before was forgotten, and nothing but that call has
-- happened.
abbrev pub Became : {T E : Type 0} → Option ℕ → Bool → Type 0 → Result T E → Log → Log → Type 0
Became unit fails room result old new = WasKept unit fails result old new ⊎ HadNoRoom room result old new

-- A call uses at most one entry of the room of the log and so many bytes of it. It leaves room for
-- the entries that wait for attaches.
pub record Keeps {T E : Type 0} (waiting bytes : ℕ) (unit : Option ℕ) (fails : Bool) (room : Type 0) (result : Result T E) (old new : Log) : Type 0 where
  pub became : Became unit fails room result old new
  pub waits : HasRoom waiting 0 new
  pub entries_used : vec_len new.entries ≤ vec_len old.entries + 1
  pub bytes_used : vec_len new.store ≤ vec_len old.store + bytes
  pub entries_left : vec_capacity old.entries ≤ vec_capacity new.entries
  pub bytes_left : vec_capacity old.store ≤ vec_capacity new.store

-- A call on a card leaves what is attached. It counts its fault where it failed, and otherwise the
-- bytes that it programmed and fetched. It counts an erase and a sync in any case. No count falls.
-- The card keeps whether it failed.
pub record OnCard {T E : Type 0} (work : Work) (result : Result T E) (old new : Card) : Type 0 where
  pub attached : new.attached ≡ old.attached
  pub name : new.name.items ≡ old.name.items
  pub first : new.first.items ≡ old.first.items
  pub faults : old.faults ≤ new.faults
  pub faults_are : new.faults ≡ faults_after result old.faults
  pub programmed : old.programmed ≤ new.programmed
  pub programmed_is : new.programmed ≡ moved_after work.programs result old.programmed
  pub fetched : old.fetched ≤ new.fetched
  pub fetched_is : new.fetched ≡ moved_after work.fetches result old.fetched
  pub erased : old.erased ≤ new.erased
  pub erased_is : new.erased ≡ worn work.erases old.erased
  pub synced : old.synced ≤ new.synced
  pub synced_is : new.synced ≡ worn work.syncs old.synced
  pub broken_is : new.broken ≡ is_err result

-- the first device of this name stands there
pub record IsPlaceOf (name : List ℕ) (shelf : List Device) (place : ℕ) : Type 0 where
  pub inside : place < length shelf
  pub named : (d : Device) → (slice_index_or shelf place d).name.items ≡ name
  pub found : (d : Device) → free_device name shelf ≡ Some (slice_index_or shelf place d).first.items

-- a device has moved to a card, whose counts stay
pub record HasMoved (device : Device) (old new : Card) : Type 0 where
  pub attached : new.attached ≡ true
  pub name : new.name.items ≡ device.name.items
  pub first : new.first.items ≡ device.first.items
  pub held : new.held.items ≡ device.first.items
  pub faults : new.faults ≡ old.faults
  pub programmed : new.programmed ≡ old.programmed
  pub fetched : new.fetched ≡ old.fetched
  pub erased : new.erased ≡ old.erased
  pub synced : new.synced ≡ old.synced
  pub broken : new.broken ≡ old.broken

-- there is room for so many entries and bytes in the log, and for as many bytes in the output
pub record HasRoomFor (entries bytes : ℕ) (output : Vec ℕ Global) (log : Log) : Type 0 where
  pub log_fits : HasRoom entries bytes log
  pub output_fits : vec_len output + bytes ≤ vec_capacity output

-- A call that was to program or erase a range, was kept and failed: the range is pending with what
-- it read.
abbrev pub LeavesPending : {T E : Type 0} → ℕ → ℕ → ℕ → List ℕ → Result T E → Log → Log → Type 0
LeavesPending unit at n held result old new = new.calls ≡ old.calls + 1 → OnErr result (now_of new ≡ On unit (Wrote at (take n (drop at held))) ∷ now_of old)

-- What a call does that is to put n bytes into a range. The range reads like these, and the card
-- holds what has happened. After an error the range is pending and reads as before.
pub record PutsBytes {T E : Type 0} (unit at n : ℕ) (bytes : List ℕ) (result : Result T E)
    (old new : Card) (before now : Log) : Type 0 where
  pub event : Writes unit at bytes result (now_of before) (now_of now)
  pub stands : StandsAs true old (changes unit (now_of before))
      → StandsAs true new (changes unit (now_of now))
  pub pending : LeavesPending unit at n old.held.items result before now
  pub unchanged : OnErr result (new.held.items ≡ old.held.items)

-- What a call does that is to print a piece: the piece is appended to the output, or the call
-- failed and the output is as it was. It uses no more room than the piece has bytes, and gives none
-- up.
pub record Prints {T E : Type 0} (waiting : ℕ) (fails : Bool) (piece : List ℕ) (result : Result T E)
    (shown now : Vec ℕ Global) (old new : Log) : Type 0 where
  pub printed : OnOk result (now_of new ≡ printed_after piece (now_of old))
  pub appended : OnOk result (now.items ≡ shown.items ++ piece)
  pub same : OnErr result (now_of new ≡ now_of old)
  pub unchanged : OnErr result (now.items ≡ shown.items)
  pub kept : Keeps waiting (length piece) None fails
      (HasRoomFor (waiting + 1) (length piece) shown old) result old new
  pub used : vec_len now ≤ vec_len shown + length piece
  pub more : vec_capacity shown ≤ vec_capacity now

-- an attach stands at the end of the log, which has no less room for entries
pub record LogsAttach (unit : ℕ) (first : List ℕ) (old new : Log) : Type 0 where
  pub moment : now_of new ≡ On unit (Attached first) ∷ now_of old
  pub calls : new.calls ≡ old.calls
  pub entries : vec_len new.entries ≡ vec_len old.entries + 1
  pub more_entries : vec_capacity old.entries ≤ vec_capacity new.entries
  pub store : new.store ≡ old.store
