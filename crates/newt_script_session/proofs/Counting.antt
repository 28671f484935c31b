-- What calls leave of devices and counts, one after another.
use Rattle.std.proofs.Common.{◌≡◌, ℕ, List, Bool, IsTrue, Result, Ok, Err, OnOk, OnErr, refl, sym, ap, ◌∙◌, subst, arith}
use Rattle.newt_host.specs.Moments.{Moment, changes}
use Rattle.newt_host.specs.Outside.{Outside, InputCall, OnDevices, OutputCall, PrintsSome, Rose, SameCards, SameCounts, Takes}
use Rattle.newt_host.proofs.Outside.{SameCards-refl, SameCards-append, SameCounts-append, SameWork-refl}
use Rattle.newt_script_session.specs.Calls.{AnswerCall, Faults, HasReadCause, OutputFailed, Quiet, ReadCall, RunCall, Unread, WriteCall}
use Rattle.newt_laws_steps.specs.Devices.{SameDevices}
use Rattle.newt_script_session.specs.Causes.{HasCause, HasSinkCause, NeverLess, NoStreamFault}
use Rattle.newt_script_session.proofs.Reading.{unread-append, unread-refl, unread_printing}
use Rattle.newt_script_session.proofs.Writing.{prints_devices}
use Rattle.newt_script_session.specs.declared.halt.Halt.{Halt}
use Rattle.newt_script_session.specs.declared.halt.Halt.TheVariants.{Memory, Source, Sink, TooLong}

-- ---- counts

pub none-refl : (a : Outside) → NoStreamFault a a
none-refl a = record { in_faults = refl; out_faults = refl; dev_faults = λ unit. omega arith }

pub none-append : {a b c : Outside} → NoStreamFault a b → NoStreamFault b c → NoStreamFault a c
none-append s t = record {
  in_faults = t.in_faults ∙ s.in_faults;
  out_faults = t.out_faults ∙ s.out_faults;
  dev_faults = λ unit. omega (arith, s.dev_faults unit, t.dev_faults unit);
}

pub never-refl : (a : Outside) → NeverLess a a
never-refl a = record { in_faults = omega arith; out_faults = omega arith; dev_faults = λ unit. omega arith }

pub never_of : {a b : Outside} → NoStreamFault a b → NeverLess a b
never_of s = record {
  in_faults = omega (arith, s.in_faults);
  out_faults = omega (arith, s.out_faults);
  dev_faults = λ unit. omega (arith, s.dev_faults unit);
}

never_then : {a b c : Outside} → NoStreamFault a b → NeverLess b c → NeverLess a c
never_then s t = record {
  in_faults = omega (arith, s.in_faults, t.in_faults);
  out_faults = omega (arith, s.out_faults, t.out_faults);
  dev_faults = λ unit. omega (arith, s.dev_faults unit, t.dev_faults unit);
}

-- ---- causes, from before calls that counted no fault

pub sink_from : (halt : Halt) (a b c : Outside) → NoStreamFault a b → HasSinkCause halt b c → HasSinkCause halt a c
sink_from Memory a b c none cause = none-append none cause
sink_from Sink a b c none cause = omega (arith, cause, none.out_faults)
sink_from Source a b c none cause = cause
sink_from TooLong a b c none cause = cause

pub run_from : (halt : Halt) (a b c : Outside) → NoStreamFault a b → HasCause halt b c → HasCause halt a c
run_from Memory a b c none cause = none-append none cause
run_from Sink a b c none cause = omega (arith, cause, none.out_faults)
run_from Source a b c none cause = omega (arith, cause, none.in_faults)
run_from TooLong a b c none cause = none-append none cause

sink_run : (halt : Halt) (a b : Outside) → HasSinkCause halt a b → HasCause halt a b
sink_run Memory a b cause = cause
sink_run Sink a b cause = cause
sink_run Source a b cause = absurd cause
sink_run TooLong a b cause = absurd cause

read_run : (halt : Halt) (a b : Outside) → HasReadCause halt a b → HasCause halt a b
read_run halt a b cause = subst (λ (h : Halt). HasCause h a b) (sym cause.0) cause.1

-- ---- faults

module _ {E F : Type 0} (Before : E → (old new : Outside) → Type 0) (After : F → (old new : Outside) → Type 0) (a b c : Outside) (none : NoStreamFault a b) where
  -- of a call that comes after calls which counted none, and with whose error the run ends
  pub faults_err : {T U : Type 0} (result : Result T F) (error : E) (fault : F) → result ≡ Err fault → (Before error b c → After fault a c) → Faults {T = U} Before (Err error) b c → Faults After result a c
  faults_err {T} {U} result error fault is turns f =
      subst (λ (v : Result T F). Faults After v a c) (sym is) (record { later = never_then none f.later; cause = turns f.cause; no_fault = tt })

  pub faults_ok : {T U : Type 0} (x : T) (y : U) → Faults {T = U} Before (Ok y) b c → Faults {T = T} After (Ok x) a c
  faults_ok x y f = record { later = never_then none f.later; cause = tt; no_fault = none-append none f.no_fault }

pub faults_same : {T E : Type 0} (Before After : E → (old new : Outside) → Type 0) (a b c : Outside) (result : Result T E) → NoStreamFault a b
    → ((error : E) → Before error b c → After error a c) → Faults Before result b c → Faults After result a c
faults_same {T} Before After a b c (Ok x) none turns f = faults_ok Before After a b c none {T = T} {U = T} x x f
faults_same {T} Before After a b c (Err error) none turns f = faults_err Before After a b c none {T = T} {U = T} (Err error) error error refl (turns error) f

pub faults_none : {T E : Type 0} (Cause : E → (old new : Outside) → Type 0) (x : T) (a b : Outside) → NoStreamFault a b → Faults {T = T} Cause (Ok x) a b
faults_none Cause x a b none = record { later = never_of none; cause = tt; no_fault = none }

pub faults_end : {T E : Type 0} (Cause : E → (old new : Outside) → Type 0) (error : E) (a b : Outside) → NoStreamFault a b → Cause error a b → Faults {T = T} Cause (Err error) a b
faults_end Cause error a b none cause = record { later = never_of none; cause = cause; no_fault = tt }

-- ---- devices

SameCounts-refl : (a : Outside) → SameCounts a a
SameCounts-refl a = record { dev_faults = λ unit. refl; work = λ unit. SameWork-refl unit a }

pub same-refl : (told : Bool) (a : Outside) → SameDevices told a a
same-refl told a = record { cards = SameCards-refl a; counts = SameCounts-refl a; changes = λ tells unit. refl }

pub same-trans : {told : Bool} {a b c : Outside} → SameDevices told a b → SameDevices told b c → SameDevices told a c
same-trans s t = record { cards = SameCards-append s.cards t.cards; counts = SameCounts-append s.counts t.counts; changes = λ tells unit. t.changes tells unit ∙ s.changes tells unit }

-- ---- calls that put out a text

-- So far no byte was read, no device is other than it was, and no fault was counted.
pub record Still (told : Bool) (a b : Outside) : Type 0 where
  pub unread : Unread told a b
  pub devices : SameDevices told a b
  pub no_fault : NoStreamFault a b

pub still-refl : (told : Bool) (a : Outside) → Still told a a
still-refl told a = record { unread = unread-refl a; devices = same-refl told a; no_fault = none-refl a }

pub still_then : {told : Bool} {T E : Type 0} {x : T} {a b c : Outside} → Still told a b → WriteCall told (OutputFailed {E = E}) (Ok x) b c → Still told a c
still_then s w = record { unread = unread-append s.unread w.unread; devices = same-trans s.devices w.devices; no_fault = none-append s.no_fault w.faults.no_fault }

pub write_ok : {told : Bool} {T E : Type 0} {x : T} {Cause : E → (old new : Outside) → Type 0} {a b : Outside} → Still told a b → WriteCall told Cause (Ok x) a b
write_ok {T = T} {x = x} {Cause = Cause} {a = a} {b = b} s = record { unread = s.unread; devices = s.devices; faults = faults_none {T = T} Cause x a b s.no_fault }

-- nothing was done, when out of memory
pub write_memory : {told : Bool} {T : Type 0} (a : Outside) → WriteCall {T = T} told HasSinkCause (Err Memory) a a
write_memory {told} a = record { unread = unread-refl a; devices = same-refl told a; faults = faults_end HasSinkCause Memory a a (none-refl a) (none-refl a) }

pub write_failed : {told : Bool} {T U E F : Type 0} (result : Result T E) (error : F) (failed : E) {a b c : Outside} → result ≡ Err failed → Still told a b
    → WriteCall {T = U} told (OutputFailed {E = F}) (Err error) b c → WriteCall told (OutputFailed {E = E}) result a c
write_failed {T = T} {U = U} {E = E} {F = F} result error failed {a} {b} {c} is s w = record {
  unread = unread-append s.unread w.unread;
  devices = same-trans s.devices w.devices;
  faults = faults_err (OutputFailed {E = F}) (OutputFailed {E = E}) a b c s.no_fault {T = T} {U = U} result error failed is (λ rose. omega (arith, rose, s.no_fault.out_faults)) w.faults;
}

-- what a host promises of a write
pub write_call : {told : Bool} {T E : Type 0} (result : Result T E) (bytes : List ℕ) (a b : Outside) → (IsTrue told → PrintsSome bytes a.now b.now) → OutputCall result a b → WriteCall told OutputFailed result a b
write_call {told = told} {T = T} {E = E} result bytes a b prints call = record {
  unread = record { input = call.input; moments = λ tells. unread_printing bytes a.now b.now (prints tells) };
  devices = prints_devices told bytes a b call.cards call.counts prints;
  faults = go result call.faults.cause call.faults.no_fault;
}
  where
    go : (v : Result T E) → OnErr v (Rose a.out_faults b.out_faults) → OnOk v (b.out_faults ≡ a.out_faults) → Faults OutputFailed v a b
    go (Ok x) rose same = faults_none OutputFailed x a b (record { in_faults = call.in_faults; out_faults = same; dev_faults = λ unit. omega (arith, call.counts.dev_faults unit) })
    go (Err error) rose same = record {
      later = record { in_faults = omega (arith, call.in_faults); out_faults = call.faults.later; dev_faults = λ unit. omega (arith, call.counts.dev_faults unit) };
      cause = rose;
      no_fault = tt;
    }

-- ---- calls that answer lines

pub quiet-refl : {told : Bool} (a : Outside) → Quiet told a a
quiet-refl a = record { unread = unread-refl a; cards = SameCards-refl a; no_fault = none-refl a }

pub quiet_then : {told : Bool} {T : Type 0} {x : T} {a b c : Outside} → Quiet told a b → AnswerCall told (Ok x) b c → Quiet told a c
quiet_then q w = record { unread = unread-append q.unread w.unread; cards = SameCards-append q.cards w.cards; no_fault = none-append q.no_fault w.faults.no_fault }

-- a command was answered
pub quiet_apply : {told : Bool} {a b : Outside} → Unread told a b → OnDevices a b → Quiet told a b
quiet_apply unread on = record { unread = unread; cards = on.cards; no_fault = record { in_faults = on.in_faults; out_faults = on.out_faults; dev_faults = on.dev_faults } }

pub answer_ok : {told : Bool} {T : Type 0} {x : T} {a b : Outside} → Quiet told a b → AnswerCall told (Ok x) a b
answer_ok {x = x} {a = a} {b = b} q = record { unread = q.unread; cards = q.cards; faults = faults_none HasSinkCause x a b q.no_fault }

pub answer_memory : {told : Bool} {T : Type 0} {a b : Outside} → Quiet told a b → AnswerCall {T = T} told (Err Memory) a b
answer_memory {a = a} {b = b} q = record { unread = q.unread; cards = q.cards; faults = faults_end HasSinkCause Memory a b q.no_fault q.no_fault }

-- memory was refused in it
pub answer_stopped : {told : Bool} {T : Type 0} {a b : Outside} → Unread told a b → OnDevices a b → AnswerCall {T = T} told (Err Memory) a b
answer_stopped unread on = answer_memory (quiet_apply unread on)

-- calls after calls that counted no fault
pub answer_then : {told : Bool} {T : Type 0} {result : Result T Halt} {a b c : Outside} → Quiet told a b → AnswerCall told result b c → AnswerCall told result a c
answer_then {result = result} {a = a} {b = b} {c = c} q w = record {
  unread = unread-append q.unread w.unread;
  cards = SameCards-append q.cards w.cards;
  faults = faults_same HasSinkCause HasSinkCause a b c result q.no_fault (λ halt cause. sink_from halt a b c q.no_fault cause) w.faults;
}

pub answer_err : {told : Bool} {T U : Type 0} (result : Result T Halt) (halt : Halt) {a b c : Outside} → result ≡ Err halt → Quiet told a b → AnswerCall {T = U} told (Err halt) b c → AnswerCall told result a c
answer_err {told} {T} {U} result halt {a} {b} {c} is q w = record {
  unread = unread-append q.unread w.unread;
  cards = SameCards-append q.cards w.cards;
  faults = faults_err HasSinkCause HasSinkCause a b c q.no_fault {T = T} {U = U} result halt halt is (λ cause. sink_from halt a b c q.no_fault cause) w.faults;
}

-- a reply was put out after them
pub answer_put : {told : Bool} {T U : Type 0} {x : T} {y : U} {a b c : Outside} → Quiet told a b → WriteCall {T = U} told HasSinkCause (Ok y) b c → AnswerCall {T = T} told (Ok x) a c
answer_put {T = T} {U = U} {x = x} {y = y} {a} {b} {c} q w = record {
  unread = unread-append q.unread w.unread;
  cards = SameCards-append q.cards w.devices.cards;
  faults = faults_ok HasSinkCause HasSinkCause a b c q.no_fault {T = T} {U = U} x y w.faults;
}

pub answer_unput : {told : Bool} {T U : Type 0} (result : Result T Halt) (halt : Halt) {a b c : Outside} → result ≡ Err halt → Quiet told a b
    → WriteCall {T = U} told HasSinkCause (Err halt) b c → AnswerCall told result a c
answer_unput {T = T} {U = U} result halt {a} {b} {c} is q w = record {
  unread = unread-append q.unread w.unread;
  cards = SameCards-append q.cards w.devices.cards;
  faults = faults_err HasSinkCause HasSinkCause a b c q.no_fault {T = T} {U = U} result halt halt is (λ cause. sink_from halt a b c q.no_fault cause) w.faults;
}

pub answer_write : {told : Bool} {T : Type 0} (result : Result T Halt) {a b c : Outside} → Quiet told a b → WriteCall told HasSinkCause result b c → AnswerCall told result a c
answer_write {T = T} (Ok x) q w = answer_put {T = T} {U = T} {x = x} {y = x} q w
answer_write {T = T} (Err halt) q w = answer_unput {T = T} {U = T} (Err halt) halt refl q w

-- ---- calls that read the input

-- what a host promises of a read
pub read_ok : {told : Bool} {T U E : Type 0} (x : T) (y : U) (bytes : List ℕ) (a b : Outside) → (IsTrue told → Takes bytes a b) → InputCall {E = E} (Ok y) a b → ReadCall told (Ok x) a b
read_ok {told = told} x y bytes a b takes call = record {
  devices = record { cards = call.cards; counts = call.counts; changes = λ tells unit. ap (λ (m : Moment). changes unit m) (takes tells).moment };
  out_faults = call.out_faults;
  faults = faults_none HasReadCause x a b (record { in_faults = call.faults.no_fault; out_faults = call.out_faults; dev_faults = λ unit. omega (arith, call.counts.dev_faults unit) });
}

pub read_err : {told : Bool} {T U E : Type 0} (error : E) (a b : Outside) → b.now ≡ a.now → InputCall {T = U} (Err error) a b → ReadCall {T = T} told (Err Source) a b
read_err error a b same call = record {
  devices = record { cards = call.cards; counts = call.counts; changes = λ tells unit. ap (λ (m : Moment). changes unit m) same };
  out_faults = call.out_faults;
  faults = record {
    later = record { in_faults = call.faults.later; out_faults = omega (arith, call.out_faults); dev_faults = λ unit. omega (arith, call.counts.dev_faults unit) };
    cause = (refl, call.faults.cause);
    no_fault = tt;
  };
}

-- So far the same devices are attached, and no fault was counted.
pub record Running (a b : Outside) : Type 0 where
  pub cards : SameCards a b
  pub no_fault : NoStreamFault a b

pub running-refl : (a : Outside) → Running a a
running-refl a = record { cards = SameCards-refl a; no_fault = none-refl a }

pub running_read : {told : Bool} {T : Type 0} {x : T} {a b c : Outside} → Running a b → ReadCall told (Ok x) b c → Running a c
running_read r w = record { cards = SameCards-append r.cards w.devices.cards; no_fault = none-append r.no_fault w.faults.no_fault }

pub running_answer : {told : Bool} {T : Type 0} {x : T} {a b c : Outside} → Running a b → AnswerCall told (Ok x) b c → Running a c
running_answer r w = record { cards = SameCards-append r.cards w.cards; no_fault = none-append r.no_fault w.faults.no_fault }

pub run_ok : {T : Type 0} {x : T} {a b : Outside} → Running a b → RunCall (Ok x) a b
run_ok {T} {x} {a} {b} r = record { cards = r.cards; faults = faults_none HasCause x a b r.no_fault }

pub run_memory : {T : Type 0} {a b : Outside} → Running a b → RunCall {T = T} (Err Memory) a b
run_memory {T} {a} {b} r = record { cards = r.cards; faults = faults_end HasCause Memory a b r.no_fault r.no_fault }

pub run_long : {T : Type 0} {a b : Outside} → Running a b → RunCall {T = T} (Err TooLong) a b
run_long {T} {a} {b} r = record { cards = r.cards; faults = faults_end HasCause TooLong a b r.no_fault r.no_fault }

pub run_unread : {told : Bool} {T U : Type 0} (result : Result T Halt) (halt : Halt) {a b c : Outside} → result ≡ Err halt → Running a b → ReadCall {T = U} told (Err halt) b c → RunCall result a c
run_unread {T = T} {U = U} result halt {a} {b} {c} is r w = record {
  cards = SameCards-append r.cards w.devices.cards;
  faults = faults_err HasReadCause HasCause a b c r.no_fault {T = T} {U = U} result halt halt is (λ cause. run_from halt a b c r.no_fault (read_run halt b c cause)) w.faults;
}

pub run_unanswered : {told : Bool} {T U : Type 0} (result : Result T Halt) (halt : Halt) {a b c : Outside} → result ≡ Err halt → Running a b → AnswerCall {T = U} told (Err halt) b c → RunCall result a c
run_unanswered {told} {T} {U} result halt {a} {b} {c} is r w = record {
  cards = SameCards-append r.cards w.cards;
  faults = faults_err HasSinkCause HasCause a b c r.no_fault {T = T} {U = U} result halt halt is (λ cause. run_from halt a b c r.no_fault (sink_run halt b c cause)) w.faults;
}

pub run_answer : {told : Bool} {T : Type 0} (result : Result T Halt) {a b c : Outside} → Running a b → AnswerCall told result b c → RunCall result a c
run_answer (Ok x) r w = run_ok (running_answer r w)
run_answer {told} {T} (Err halt) r w = run_unanswered {T = T} {U = T} (Err halt) halt refl r w
