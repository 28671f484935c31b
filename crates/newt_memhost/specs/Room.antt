-- The room of the host, and what its calls do beside what a host promises.
use Rattle.std.specs.Prelude.{◌≡◌, ◌≢◌, ℕ, ◌+◌, ◌-◌, ◌^◌, ◌==◌, min, Bool, false, List, [], length, Option, Some, None, Result, IfOk, OnOk, OnErr, vec_len}
use Rattle.std.specs.List.{list_any}
use Rattle.newt_host.specs.Meanings.{attached, held, left}
use Rattle.newt_host.specs.Moments.{image}
use Rattle.newt_host.specs.Outside.{Outside, SameCounts, Work}
use Rattle.newt_memhost.specs.Calls.{Became, HasRoomFor, LeavesPending, faults_after, moved_after, worn}
use Rattle.newt_memhost.specs.Outside.{outside_of}
use Rattle.newt_memhost.specs.Words.{calls_of, failing_of, most_of}
use Rattle.newt_memhost.specs.declared.host.MemHost.{MemHost}

-- the host has room for so many calls and bytes more, and for an attach of each device that waits
abbrev pub HasRoomOf : ℕ → ℕ → MemHost → Type 0
HasRoomOf calls bytes m = HasRoomFor (vec_len m.shelf + calls) bytes m.output m.log

-- the call that comes next is on the list of those that fail
abbrev pub is_listed : MemHost → Bool
is_listed m = list_any (λ listed. listed == m.log.calls) m.failing.items

-- the same calls are to fail, and one on the input or the output moves as many bytes at most
pub record SamePlan (old new : MemHost) : Type 0 where
  pub failing : new.failing.items ≡ old.failing.items
  pub most : new.most ≡ old.most

-- What becomes of a call that answers a Result. Either it was kept with the number that comes next,
-- and failed exactly where that number is listed. Or there was less room than it uses, one call and
-- so many bytes; then it failed and nothing has happened. It uses no more room than that.
pub record IsKept {T E : Type 0} (bytes : ℕ) (unit : Option ℕ) (result : Result T E)
    (old new : MemHost) : Type 0 where
  pub became : Became unit (is_listed old) (HasRoomOf 1 bytes old) result old.log new.log
  pub room : (calls more : ℕ)
      → HasRoomOf (calls + 1) (more + bytes) old → HasRoomOf calls more new
  pub plan : SamePlan old new

-- A call on a unit counted its fault where it failed, and otherwise the bytes that it programmed
-- and fetched. It counted its erase or its sync in any case.
pub record IsCounted {T E : Type 0} (unit : ℕ) (work : Work) (result : Result T E)
    (old new : Outside) : Type 0 where
  pub faults : new.dev_faults unit ≡ faults_after result (old.dev_faults unit)
  pub programmed : new.programmed unit ≡ moved_after work.programs result (old.programmed unit)
  pub fetched : new.fetched unit ≡ moved_after work.fetches result (old.fetched unit)
  pub erased : new.erased unit ≡ worn work.erases (old.erased unit)
  pub synced : new.synced unit ≡ worn work.syncs (old.synced unit)

-- What every call on a unit promises of this host: it is counted exactly, and kept.
pub record UnitKept {T E : Type 0} (bytes unit : ℕ) (work : Work) (result : Result T E)
    (old new : MemHost) : Type 0 where
  pub counted : IsCounted unit work result (outside_of old) (outside_of new)
  pub kept : IsKept bytes (Some unit) result old new

-- What every call on the input promises of this host: it moves the longest piece that there is,
-- counts its fault, and is kept.
pub record InputKept {E : Type 0} (bytes : ℕ) (result : Result ℕ E)
    (old new : MemHost) : Type 0 where
  pub piece : IfOk result
      (λ count. count ≡ min (min bytes (length (left (outside_of old)))) old.most)
  pub faults : new.in_faults ≡ faults_after result old.in_faults
  pub kept : IsKept bytes None result old new

-- The same for the output. After an error nothing was printed.
pub record OutputKept {E : Type 0} (bytes : ℕ) (result : Result ℕ E)
    (old new : MemHost) : Type 0 where
  pub piece : IfOk result (λ count. count ≡ min bytes old.most)
  pub none : OnErr result ((outside_of new).now ≡ (outside_of old).now)
  pub faults : new.out_faults ≡ faults_after result old.out_faults
  pub kept : IsKept bytes None result old new

-- An attach uses no room that was taken for calls, and has no number.
pub record AttachKept (old new : MemHost) : Type 0 where
  pub room : (calls more : ℕ) → HasRoomOf calls more old → HasRoomOf calls more new
  pub numbers : new.log.calls ≡ old.log.calls
  pub plan : SamePlan old new

-- A call that was to write a range was kept and failed: the range is pending, and reads as before.
pub record LeavesRange {T E : Type 0} (unit at n : ℕ) (result : Result T E)
    (old new : MemHost) : Type 0 where
  pub pending : LeavesPending unit at n (image unit (outside_of old).now) result old.log new.log
  pub unchanged : OnErr result
      (image unit (outside_of new).now ≡ image unit (outside_of old).now)

-- A call that sets the host up: nothing has happened by it, no unit got or lost its device, and no
-- count moved.
pub record SetsUp (old new : MemHost) : Type 0 where
  pub entries : new.log.entries.items ≡ old.log.entries.items
  pub bytes : new.log.store.items ≡ old.log.store.items
  pub moment : (outside_of new).now ≡ (outside_of old).now
  pub units : (unit : ℕ) → attached (outside_of new) unit ≡ attached (outside_of old) unit
  pub counts : SameCounts (outside_of old) (outside_of new)
  pub in_faults : new.in_faults ≡ old.in_faults
  pub out_faults : new.out_faults ≡ old.out_faults

-- the same devices wait, each with the same bytes, and the same input
pub record SameStock (old new : MemHost) : Type 0 where
  pub devices : (name : List ℕ) → held (outside_of new) name ≡ held (outside_of old) name
  pub input : left (outside_of new) ≡ left (outside_of old)

-- There is a device of this name, and the others are as they were. After an error there is none.
pub record AddsDevice {T E : Type 0} (name bytes : List ℕ) (result : Result T E)
    (old new : Outside) : Type 0 where
  pub ok : OnOk result (held new name ≡ Some bytes)
  pub err : OnErr result (held new name ≡ None)
  pub others : (other : List ℕ) → other ≢ name → held new other ≡ held old other

-- nothing was counted yet, and no call failed
pub record HasNoCounts (outside : Outside) : Type 0 where
  pub in_faults : outside.in_faults ≡ 0
  pub out_faults : outside.out_faults ≡ 0
  pub dev_faults : (unit : ℕ) → outside.dev_faults unit ≡ 0
  pub programmed : (unit : ℕ) → outside.programmed unit ≡ 0
  pub fetched : (unit : ℕ) → outside.fetched unit ≡ 0
  pub erased : (unit : ℕ) → outside.erased unit ≡ 0
  pub synced : (unit : ℕ) → outside.synced unit ≡ 0
  pub broken : (unit : ℕ) → outside.broken unit ≡ false

-- A host on which nothing has happened: no devices, no input, no calls that are to fail, and no
-- limit on pieces.
pub record IsNew (m : MemHost) : Type 0 where
  pub moment : (outside_of m).now ≡ []
  pub input : left (outside_of m) ≡ []
  pub devices : (name : List ℕ) → held (outside_of m) name ≡ None
  pub units : (unit : ℕ) → attached (outside_of m) unit ≡ None
  pub list : failing_of m ≡ []
  pub calls : calls_of m ≡ 0
  pub counts : HasNoCounts (outside_of m)
  pub most : most_of m ≡ 2 ^ 64 - 1
