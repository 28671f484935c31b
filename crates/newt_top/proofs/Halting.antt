-- Why a conversion halts, and a run of a script.
use Rattle.std.proofs.Common.{◌≡◌, ◌≢◌, inl, ℕ, ◌<◌, false, List, [], length, Option, Some, None, Err, refl, sym, ◌∙◌, append-nil}
use Rattle.newt_host.specs.Meanings.{since}
use Rattle.newt_host.specs.Outside.{Outside, Rose}
use Rattle.newt_script_session.specs.Calls.{Faults}
use Rattle.newt_script_session.specs.Causes.{HasCause, HasSinkCause, NeverLess, NoStreamFault}
use Rattle.newt_script_session.specs.Named.{CountedNamed}
use Rattle.newt_script_session.specs.Script.{script_items}
use Rattle.newt_script_session.proofs.Acting.{acts_start}
use Rattle.newt_script_session.proofs.Throwing.{threw_none}
use Rattle.newt_script_session.specs.declared.halt.Halt.{Halt}
use Rattle.newt_script_session.specs.declared.halt.Halt.TheVariants.{Memory, Source, Sink, TooLong}
use Rattle.newt_spec_whole.specs.Step.{WholeStep}
use Rattle.newt_store_catalog.specs.Readable.{readable}
use Rattle.newt_top.specs.Calls.{RunEnds}
use Rattle.newt_top.specs.Status.{HasRunThrough, HasStatusCause, IsFaultFree, IsFaultless, NeedsDevice, StatusFaults, status_of}
use Rattle.newt_top.specs.declared.status.Mode.{Mode}
use Rattle.newt_top.specs.declared.status.Status.{Status}
use Rattle.newt_top.specs.declared.status.Status.TheVariants as statuses
use Rattle.newt_top.specs.Converting.{converted, HaltedConverting, HasReadCause}
use Rattle.newt_top.specs.declared.status.Conversion.{Conversion}

-- nothing was written
pub halted_reading : (conversion : Conversion) (limit : ℕ) (halt : Halt) (before after : Outside) (input old now : List ℕ)
    → HasReadCause halt before after → (halt ≡ TooLong → limit < length input) → now ≡ old → HaltedConverting conversion limit halt input old now
halted_reading conversion limit Memory before after input old now cause long same = (converted conversion input, record { done = []; split = refl; out = same ∙ sym (append-nil old) })
halted_reading conversion limit TooLong before after input old now cause long same = (long refl, same)
halted_reading conversion limit Source before after input old now cause long same = same
halted_reading conversion limit Sink before after input old now cause long same = absurd cause

-- ---- faults

module _ (mode : Option Mode) (old new : Outside) where
  complete_of : (status : Status) → HasStatusCause mode status old new → ¬ Rose old.in_faults new.in_faults → ¬ Rose old.out_faults new.out_faults
      → (NeedsDevice mode → ¬ Rose (old.dev_faults 0) (new.dev_faults 0)) → IsFaultless status
  complete_of statuses.Ok cause source sink device = tt
  complete_of statuses.Usage cause source sink device = tt
  complete_of statuses.Memory cause source sink device = tt
  complete_of statuses.TooLong cause source sink device = tt
  complete_of (statuses.Device unit) cause source sink device = absurd (device cause.0 cause.2)
  complete_of statuses.Source cause source sink device = absurd (source cause)
  complete_of statuses.Sink cause source sink device = absurd (sink cause)

  -- nothing was done
  pub faults_quiet : (status : Status) → HasStatusCause mode status old new → IsFaultFree mode status old new → NeverLess old new → StatusFaults mode status old new
  faults_quiet status cause free later = record { later = later; cause = cause; no_fault = free; complete = complete_of status cause }

module _ (mode : Mode) (old new : Outside) where
  pub ends_quiet : (status : Status) → HasStatusCause (Some mode) status old new → IsFaultFree (Some mode) status old new → status ≢ statuses.Usage → NeverLess old new → RunEnds mode status old new
  ends_quiet status cause free other later = record { faults = faults_quiet (Some mode) old new status cause free later; not_usage = other }

  pub ends_ok : HasRunThrough (Some mode) old new → NeverLess old new → RunEnds mode statuses.Ok old new
  ends_ok through later = ends_quiet statuses.Ok tt through (λ same. absurd (cc)) later

  pub ends_halted : {T : Type 0} (halt : Halt) → (NoStreamFault old new → HasRunThrough (Some mode) old new) → Faults {T = T} HasCause (Err halt) old new → RunEnds mode (status_of halt) old new
  ends_halted Memory through f = ends_quiet statuses.Memory (through f.cause) tt (λ same. absurd (cc)) f.later
  ends_halted Source through f = ends_quiet statuses.Source f.cause tt (λ same. absurd (cc)) f.later
  ends_halted Sink through f = ends_quiet statuses.Sink f.cause tt (λ same. absurd (cc)) f.later
  ends_halted TooLong through f = ends_quiet statuses.TooLong (through f.cause) tt (λ same. absurd (cc)) f.later

  pub ends_counting : {T : Type 0} (halt : Halt) → (NoStreamFault old new → HasRunThrough (Some mode) old new) → Faults {T = T} HasSinkCause (Err halt) old new → RunEnds mode (status_of halt) old new
  ends_counting Memory through f = ends_quiet statuses.Memory (through f.cause) tt (λ same. absurd (cc)) f.later
  ends_counting Source through f = absurd f.cause
  ends_counting Sink through f = ends_quiet statuses.Sink f.cause tt (λ same. absurd (cc)) f.later
  ends_counting TooLong through f = absurd f.cause

-- memory was refused before a device was attached
pub counted_nothing : (script : List ℕ) (names : List (List ℕ)) (old : Outside) → ((unit : ℕ) → since old unit ≡ None) → CountedNamed {T = Unit {0}} WholeStep readable script (Err Memory) names old old
counted_nothing script names old never = record {
  given = record { first = []; rest = script_items script; split = refl; rows = []; run = tt };
  out = tt;
  halted = inl refl;
  threw = threw_none old.dev_faults old.dev_faults (λ unit. refl);
  failed = λ unit none. refl;
  acts = acts_start false [] old.now;
  crash = λ unit t left out at some. let apart : None ≡ Some t = sym (never unit) ∙ at in absurd (cc);
}
