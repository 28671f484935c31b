-- An input that is read to its end, and then converted.
use Rattle.std.proofs.Common.{◌≡◌, ℕ, ◌<◌, Bool, IsTrue, List, length, Result, Ok, Err, sym, subst, arith}
use Rattle.newt_host.specs.Meanings.{out_of}
use Rattle.newt_host.specs.Outside.{Outside}
use Rattle.newt_script_session.specs.Calls.{HasReadCause as ReadFailed, ReadCall, WriteCall}
use Rattle.newt_laws_steps.specs.Devices.{SameDevices}
use Rattle.newt_script_session.specs.Causes.{HasCause, HasSinkCause, NoStreamFault}
use Rattle.newt_script_session.specs.declared.halt.Halt.{Halt}
use Rattle.newt_script_session.specs.declared.halt.Halt.TheVariants.{Memory, Source, Sink, TooLong}
use Rattle.newt_script_session.proofs.Counting.{faults_err, faults_same, none-append, none-refl, same-refl, same-trans, sink_from}
use Rattle.newt_top.specs.Converting.{HasReadCause, ReadsAll, InputCall}

-- So far no device is other than it was, and no fault of a stream was counted.
pub record Reading (told : Bool) (old now : Outside) : Type 0 where
  pub devices : SameDevices told old now
  pub no_fault : NoStreamFault old now

pub reading-refl : (told : Bool) (a : Outside) → Reading told a a
reading-refl told a = record { devices = same-refl told a; no_fault = none-refl a }

pub reading_more : {told : Bool} {T : Type 0} {x : T} {a b c : Outside} → Reading told a b → ReadCall told (Ok x) b c → Reading told a c
reading_more r w = record { devices = same-trans r.devices w.devices; no_fault = none-append r.no_fault w.faults.no_fault }

-- not all of it was read
pub unread : {told : Bool} {T : Type 0} {limit : ℕ} {read : List ℕ} (result : Result T Halt) (halt : Halt) {a b : Outside} → result ≡ Err halt
    → (IsTrue told → halt ≡ TooLong → limit < length a.input) → (IsTrue told → out_of b ≡ out_of a) → ReadsAll told limit read result a b
unread {told} {T} {limit} {read} result halt {a} {b} is long quiet = subst (λ (r : Result T Halt). ReadsAll told limit read r a b) (sym is)
    (record { input = λ _. tt; left = λ _. tt; within = tt; too_long = long; quiet = quiet })

read_failed : (halt : Halt) (a b c : Outside) → NoStreamFault a b → ReadFailed halt b c → HasReadCause halt a c
read_failed halt a b c none cause = subst (λ (h : Halt). HasReadCause h a c) (sym cause.0) (omega (arith, cause.1, none.in_faults))

pub input_unread : {told : Bool} {T U : Type 0} (result : Result T Halt) (halt : Halt) {a b c : Outside} → result ≡ Err halt → Reading told a b
    → ReadCall {T = U} told (Err halt) b c → InputCall told HasReadCause result a c
input_unread {T = T} {U = U} result halt {a} {b} {c} is r w = record {
  devices = same-trans r.devices w.devices;
  faults = faults_err ReadFailed HasReadCause a b c r.no_fault {T = T} {U = U} result halt halt is (λ cause. read_failed halt a b c r.no_fault cause) w.faults;
}

read_cause : (halt : Halt) (a b : Outside) → HasReadCause halt a b → HasCause halt a b
read_cause Memory a b cause = cause
read_cause TooLong a b cause = cause
read_cause Source a b cause = cause
read_cause Sink a b cause = absurd cause

-- the run ends with it
pub input_ends : {told : Bool} {T U : Type 0} (result : Result T Halt) (halt : Halt) {a b : Outside} → result ≡ Err halt
    → InputCall {T = U} told HasReadCause (Err halt) a b → InputCall told HasCause result a b
input_ends {T = T} {U = U} result halt {a} {b} is w = record {
  devices = w.devices;
  faults = faults_err HasReadCause HasCause a a b (none-refl a) {T = T} {U = U} result halt halt is (λ cause. read_cause halt a b cause) w.faults;
}

sink_cause : (halt : Halt) (a b : Outside) → HasSinkCause halt a b → HasCause halt a b
sink_cause Memory a b cause = cause
sink_cause Sink a b cause = cause
sink_cause Source a b cause = absurd cause
sink_cause TooLong a b cause = absurd cause

-- and then the text was put out
pub input_put : {told : Bool} {T U : Type 0} {x : U} {result : Result T Halt} {a b c : Outside} → InputCall told HasReadCause (Ok x) a b → WriteCall told HasSinkCause result b c → InputCall told HasCause result a c
input_put {result = result} {a} {b} {c} r w = record {
  devices = same-trans r.devices w.devices;
  faults = faults_same HasSinkCause HasCause a b c result r.faults.no_fault (λ halt cause. sink_cause halt a c (sink_from halt a b c r.faults.no_fault cause)) w.faults;
}
