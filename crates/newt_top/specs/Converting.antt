-- What is made of an input that is taken as a whole.
use Rattle.std.specs.Prelude.{◌≡◌, ℕ, ◌<◌, ◌≤◌, Bool, IsTrue, IfErr, OnOk, List, [], length, Result, Ok, Err}
use Rattle.newt_base.specs.declared.Refusal.TheVariants as refusals
use Rattle.newt_graph.specs.Graph.{RawGraph}
use Rattle.newt_lit_read.specs.declared.fault.LitFault.{LitFault}
use Rattle.newt_lit_read.specs.declared.fault.LitFault.TheVariants as lit_faults
use Rattle.newt_spec_nsof.specs.Written.{nsof}
use Rattle.newt_nsof_read.specs.Reading.{decoded}
use Rattle.newt_nsof_read.specs.declared.fault.NsofFault.{NsofFault}
use Rattle.newt_nsof_read.specs.declared.fault.NsofFault.TheVariants as nsof_faults
use Rattle.newt_spec_world.specs.Reply as replies
use Rattle.newt_script.specs.Graphs.{literal_of}
use Rattle.newt_host.specs.Meanings.{out_of}
use Rattle.newt_host.specs.Outside.{Outside, Rose}
use Rattle.newt_script_session.specs.Calls.{Faults}
use Rattle.newt_script_session.specs.Causes.{NoStreamFault}
use Rattle.newt_laws_steps.specs.Devices.{SameDevices}
use Rattle.newt_script_session.specs.Stream.{WroteSome}
use Rattle.newt_script_session.specs.declared.halt.Halt.{Halt}
use Rattle.newt_script_session.specs.declared.halt.Halt.TheVariants.{Memory, Source, Sink, TooLong}
use Rattle.newt_top.specs.declared.status.Conversion.{Conversion}
use Rattle.newt_top.specs.declared.status.Conversion.TheVariants.{Show, Pack}

-- the literal of the graph that an object stream spells, or the refusal of its reading; no reading
-- is defined to want memory
abbrev pub shown : Result RawGraph NsofFault → List ℕ
shown (Ok graph) = replies.reply_text (replies.Reply.literal_of graph)
shown (Err nsof_faults.Malformed) = replies.reply_text (replies.Reply.refused refusals.Malformed)
shown (Err nsof_faults.Compressed) = replies.reply_text (replies.Reply.refused refusals.Compressed)
shown (Err nsof_faults.Memory) = []

-- the object stream of the graph that a literal writes down, or the refusal of its reading
abbrev pub packed : Result RawGraph LitFault → List ℕ
packed (Ok graph) = nsof graph
packed (Err lit_faults.Literal) = replies.reply_text (replies.Reply.refused refusals.Literal)
packed (Err lit_faults.Memory) = []

-- what a conversion makes of an input
unfoldable pub converted : Conversion → List ℕ → List ℕ
converted Show input = shown (decoded input)
converted Pack input = packed (literal_of input)

-- what a run leaves that converts an input and is halted before
abbrev pub HaltedConverting : Conversion → ℕ → Halt → (input old now : List ℕ) → Type 0
HaltedConverting conversion limit Memory input old now =
    WroteSome (converted conversion input) old now
HaltedConverting conversion limit Sink input old now =
    WroteSome (converted conversion input) old now
HaltedConverting conversion limit Source input old now = now ≡ old
HaltedConverting conversion limit TooLong input old now = (limit < length input) × (now ≡ old)

-- what may halt the reading of all the input: out of memory or too long an input, neither of which
-- hides a fault, or the input where it has failed
abbrev pub HasReadCause : Halt → (old new : Outside) → Type 0
HasReadCause Memory old new = NoStreamFault old new
HasReadCause TooLong old new = NoStreamFault old new
HasReadCause Source old new = Rose old.in_faults new.in_faults
HasReadCause Sink old new = ⊥

-- All of the input was read, at most so many bytes, and nothing of it is left; or it was halted,
-- for too long an input only where there are more. Nothing is written.
pub record ReadsAll {T : Type 0} (told : Bool) (limit : ℕ) (read : List ℕ) (result : Result T Halt)
    (old new : Outside) : Type 0 where
  pub input : IsTrue told → OnOk result (read ≡ old.input)
  pub left : IsTrue told → OnOk result (new.input ≡ [])
  pub within : OnOk result (length read ≤ limit)
  pub too_long : IsTrue told → IfErr result (λ halt. halt ≡ TooLong → limit < length old.input)
  pub quiet : IsTrue told → out_of new ≡ out_of old

-- What every call that takes an input as a whole promises: no device is other than it was, and no
-- fault is swallowed.
pub record InputCall {T : Type 0} (told : Bool) (Cause : Halt → (old new : Outside) → Type 0)
    (result : Result T Halt) (old new : Outside) : Type 0 where
  pub devices : SameDevices told old new
  pub faults : Faults Cause result old new
