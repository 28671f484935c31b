-- Statuses, their numbers and their causes.
use Rattle.std.specs.Prelude.{◌≡◌, ℕ, Option, Some, None, Result, Ok as Answered, Err as Ended}
use Rattle.newt_host.specs.Outside.{Outside, NoFault, Rose}
use Rattle.newt_script_session.specs.Causes.{NeverLess, NoStreamFault}
use Rattle.newt_script_session.specs.declared.halt.Halt.{Halt}
use Rattle.newt_script_session.specs.declared.halt.Halt.TheVariants.{Memory as NoMemory, Source as BadSource, Sink as BadSink, TooLong as LongInput}
use Rattle.newt_top.specs.declared.status.Mode.{Mode}
use Rattle.newt_top.specs.declared.status.Mode.TheVariants.{Run, Convert, Generate, Read, Restore}
use Rattle.newt_top.specs.declared.status.Status.{Status}
use Rattle.newt_top.specs.declared.status.Status.TheVariants.{Ok, Usage, Memory, Device, Source, Sink, TooLong}

-- the number with which a program ends
abbrev pub exit_of : Status → ℕ
exit_of Ok = 0
exit_of Usage = 2
exit_of Memory = 3
exit_of (Device unit) = 4
exit_of Source = 5
exit_of Sink = 6
exit_of TooLong = 7

-- the status of a run that was halted
abbrev pub status_of : Halt → Status
status_of NoMemory = Memory
status_of BadSource = Source
status_of BadSink = Sink
status_of LongInput = TooLong

-- and of one that may have been
abbrev pub ended_as : {T : Type 0} → Result T Halt → Status
ended_as (Answered x) = Ok
ended_as (Ended halt) = status_of halt

-- a device is read in this mode, or a store is made on it, and where it fails the run ends
abbrev pub NeedsDevice : Option Mode → Type 0
NeedsDevice None = ⊥
NeedsDevice (Some Run) = ⊥
NeedsDevice (Some (Convert conversion)) = ⊥
NeedsDevice (Some (Generate seed count)) = ⊥
NeedsDevice (Some (Read reading)) = Unit {0}
NeedsDevice (Some Restore) = Unit {0}

-- the device of unit 0 failed where it was read; in the other modes a device that fails ends no run
abbrev pub HasDeviceCause : Option Mode → ℕ → (old new : Outside) → Type 0
HasDeviceCause mode unit old new =
    NeedsDevice mode × (unit ≡ 0) × Rose (old.dev_faults 0) (new.dev_faults 0)

-- no fault was counted that would have ended a run: where a device is read none, in the other modes
-- none of the input or of the output
abbrev pub HasRunThrough : Option Mode → (old new : Outside) → Type 0
HasRunThrough None old new = NoStreamFault old new
HasRunThrough (Some Run) old new = NoStreamFault old new
HasRunThrough (Some (Convert conversion)) old new = NoStreamFault old new
HasRunThrough (Some (Generate seed count)) old new = NoStreamFault old new
HasRunThrough (Some (Read reading)) old new = NoFault old new
HasRunThrough (Some Restore) old new = NoFault old new

-- a fault was counted where one is told, and none that would have ended the run where memory was
-- refused or the input is too long
abbrev pub HasStatusCause : Option Mode → Status → (old new : Outside) → Type 0
HasStatusCause mode Ok old new = Unit {0}
HasStatusCause mode Usage old new = Unit {0}
HasStatusCause mode Memory old new = HasRunThrough mode old new
HasStatusCause mode TooLong old new = HasRunThrough mode old new
HasStatusCause mode (Device unit) old new = HasDeviceCause mode unit old new
HasStatusCause mode Source old new = Rose old.in_faults new.in_faults
HasStatusCause mode Sink old new = Rose old.out_faults new.out_faults

-- a status that tells of no fault
abbrev pub IsFaultless : Status → Type 0
IsFaultless (Device unit) = ⊥
IsFaultless Source = ⊥
IsFaultless Sink = ⊥
IsFaultless status = Unit {0}

-- with Usage no fault was counted, and with Ok none that would have ended the run
abbrev pub IsFaultFree : Option Mode → Status → (old new : Outside) → Type 0
IsFaultFree mode Ok old new = HasRunThrough mode old new
IsFaultFree mode Usage old new = NoFault old new
IsFaultFree mode status old new = Unit {0}

-- What a run promises of faults. No count has fallen. A fault is told only where it was counted;
-- with Ok, Memory and TooLong none was that would have ended the run, of a stream, or where a device
-- is read of a device, and with Usage none at all; and where none of a stream was counted, nor one of
-- the device that is read, none is told.
pub record StatusFaults (mode : Option Mode) (status : Status) (old new : Outside) : Type 0 where
  pub later : NeverLess old new
  pub cause : HasStatusCause mode status old new
  pub no_fault : IsFaultFree mode status old new
  pub complete : ¬ Rose old.in_faults new.in_faults → ¬ Rose old.out_faults new.out_faults
      → (NeedsDevice mode → ¬ Rose (old.dev_faults 0) (new.dev_faults 0)) → IsFaultless status
