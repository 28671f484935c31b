-- What the calls of a script promise beside their own effect, on faults, on the input and on what
-- is attached.
use Rattle.std.specs.Prelude.{◌≡◌, Bool, IsTrue, Result, OnOk, IfErr}
use Rattle.newt_host.specs.Moments.{Always, taken}
use Rattle.newt_host.specs.Outside.{Outside, Rose, SameCards}
use Rattle.newt_laws_steps.specs.Devices.{SameDevices}
use Rattle.newt_script_session.specs.Causes.{HasCause, HasSinkCause, NeverLess, NoStreamFault}
use Rattle.newt_script_session.specs.declared.halt.Halt.{Halt}
use Rattle.newt_script_session.specs.declared.halt.Halt.TheVariants.{Source}

-- No count of faults has fallen. With an error there is its cause, and with an answer no fault of
-- the input or of the output was counted.
pub record Faults {T E : Type 0} (Cause : E → (old new : Outside) → Type 0) (result : Result T E)
    (old new : Outside) : Type 0 where
  pub later : NeverLess old new
  pub cause : IfErr result (λ error. Cause error old new)
  pub no_fault : OnOk result (NoStreamFault old new)

-- the output has failed, whatever the error is
abbrev pub OutputFailed : {E : Type 0} → E → (old new : Outside) → Type 0
OutputFailed error old new = Rose old.out_faults new.out_faults

-- No byte of the input is read, at any moment.
pub record Unread (told : Bool) (old new : Outside) : Type 0 where
  pub input : new.input ≡ old.input
  pub moments : IsTrue told → Always (λ m. taken m ≡ taken old.now) old.now new.now

-- What every call promises that puts out a text: no byte is read, and no device has changed.
pub record WriteCall {T E : Type 0} (told : Bool) (Cause : E → (old new : Outside) → Type 0)
    (result : Result T E) (old new : Outside) : Type 0 where
  pub unread : Unread told old new
  pub devices : SameDevices told old new
  pub faults : Faults Cause result old new

-- What every call promises that answers lines: no byte is read, and the same devices are attached.
pub record AnswerCall {T : Type 0} (told : Bool) (result : Result T Halt)
    (old new : Outside) : Type 0 where
  pub unread : Unread told old new
  pub cards : SameCards old new
  pub faults : Faults HasSinkCause result old new

-- the input has failed
abbrev pub HasReadCause : Halt → (old new : Outside) → Type 0
HasReadCause halt old new = (halt ≡ Source) × Rose old.in_faults new.in_faults

-- What a read of the input promises: the output has counted no fault, and no device has changed.
pub record ReadCall {T : Type 0} (told : Bool) (result : Result T Halt)
    (old new : Outside) : Type 0 where
  pub devices : SameDevices told old new
  pub out_faults : new.out_faults ≡ old.out_faults
  pub faults : Faults HasReadCause result old new

-- What every call promises that reads the input and answers its lines: the same devices are
-- attached.
pub record RunCall {T : Type 0} (result : Result T Halt) (old new : Outside) : Type 0 where
  pub cards : SameCards old new
  pub faults : Faults HasCause result old new

-- So far no byte was read, the same devices are attached, and no fault of a stream was counted.
pub record Quiet (told : Bool) (old new : Outside) : Type 0 where
  pub unread : Unread told old new
  pub cards : SameCards old new
  pub no_fault : NoStreamFault old new
