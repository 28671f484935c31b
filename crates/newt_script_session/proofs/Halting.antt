-- Why a run halts that answers lines.
use Rattle.std.proofs.Common.{◌≡◌, inl, inr, ℕ, List, [], ◌++◌, take, Result, Ok, Err, OnErr, IfErr, sym, ◌∙◌, ap}
use Rattle.newt_host.specs.Outside.{Outside}
use Rattle.newt_spec_script.specs.Script.{Item}
use Rattle.newt_script_session.specs.Causes.{HasSinkCause}
use Rattle.newt_script_session.specs.Run.{SummaryHalted}
use Rattle.newt_script_session.specs.Stream.{WroteSome}
use Rattle.newt_script_session.specs.declared.halt.Halt.{Halt}
use Rattle.newt_script_session.specs.declared.halt.Halt.TheVariants.{Memory, Source, Sink, TooLong}

-- ---- what was written of the summary

-- nothing was
pub halted_quiet : (halt : Halt) (old new : Outside) (rest : List Item) (text before now : List ℕ) → HasSinkCause halt old new → now ≡ before → SummaryHalted halt rest text before now
halted_quiet Memory old new rest text before now cause same = inl same
halted_quiet Sink old new rest text before now cause same = inl same
halted_quiet Source old new rest text before now cause same = absurd cause
halted_quiet TooLong old new rest text before now cause same = absurd cause

sink_reply : (halt : Halt) (old new : Outside) (rest : List Item) (text before now : List ℕ) → rest ≡ [] → HasSinkCause halt old new → WroteSome text before now → SummaryHalted halt rest text before now
sink_reply Memory old new rest text before now all cause some = inr (all, some)
sink_reply Sink old new rest text before now all cause some = inr (all, some)
sink_reply Source old new rest text before now all cause some = absurd cause
sink_reply TooLong old new rest text before now all cause some = absurd cause

-- a first part of the text was
pub halted_writing : {T : Type 0} (result : Result T Halt) (old new : Outside) (rest : List Item) (text before now : List ℕ) → rest ≡ []
    → IfErr result (λ halt. HasSinkCause halt old new) → OnErr result (WroteSome text before now) → IfErr result (λ halt. SummaryHalted halt rest text before now)
halted_writing (Ok x) old new rest text before now all cause some = tt
halted_writing (Err halt) old new rest text before now all cause some = sink_reply halt old new rest text before now all cause some

-- nothing was read, and nothing was left
pub none_left : (n : ℕ) (buffer before now : List ℕ) → n ≡ 0 → before ≡ take n buffer ++ now → before ≡ [] → now ≡ []
none_left n buffer before now zero split nil = sym (ap (λ m. take m buffer ++ now) zero) ∙ (sym split ∙ nil)
