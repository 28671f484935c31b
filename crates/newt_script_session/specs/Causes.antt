-- Why the answering of lines halts.
use Rattle.std.specs.Prelude.{◌≡◌, ℕ, ◌≤◌, Bool, true, false}
use Rattle.newt_host.specs.Outside.{Outside, Rose}
use Rattle.newt_script_session.specs.declared.halt.Flow.{Flow}
use Rattle.newt_script_session.specs.declared.halt.Flow.TheVariants.{Go, Quit}
use Rattle.newt_script_session.specs.declared.halt.Halt.{Halt}
use Rattle.newt_script_session.specs.declared.halt.Halt.TheVariants.{Memory, Source, Sink, TooLong}

-- the script goes on, except after a quit
abbrev pub flow_of : Bool → Flow
flow_of true = Quit
flow_of false = Go

-- no fault of the input or of the output was counted, and no count of a device has fallen
pub record NoStreamFault (old new : Outside) : Type 0 where
  pub in_faults : new.in_faults ≡ old.in_faults
  pub out_faults : new.out_faults ≡ old.out_faults
  pub dev_faults : (unit : ℕ) → old.dev_faults unit ≤ new.dev_faults unit

-- what may halt the writing of a text: out of memory, where no stream has failed, or the output
-- where it has failed
abbrev pub HasSinkCause : Halt → (old new : Outside) → Type 0
HasSinkCause Memory old new = NoStreamFault old new
HasSinkCause Sink old new = Rose old.out_faults new.out_faults
HasSinkCause Source old new = ⊥
HasSinkCause TooLong old new = ⊥

-- a fault of the input or of the output was counted where one is said to have halted the run; none
-- was counted where anything else has
abbrev pub HasCause : Halt → (old new : Outside) → Type 0
HasCause Memory old new = NoStreamFault old new
HasCause TooLong old new = NoStreamFault old new
HasCause Source old new = Rose old.in_faults new.in_faults
HasCause Sink old new = Rose old.out_faults new.out_faults

-- no count of faults has fallen
pub record NeverLess (old new : Outside) : Type 0 where
  pub in_faults : old.in_faults ≤ new.in_faults
  pub out_faults : old.out_faults ≤ new.out_faults
  pub dev_faults : (unit : ℕ) → old.dev_faults unit ≤ new.dev_faults unit
