-- A call that was kept in the log was kept by the host.
use Rattle.std.proofs.Common.{◌≡◌, inl, inr, ℕ, ◌+◌, ◌≤◌, Bool, Option, None, Result, is_err, ◌∙◌, arith, vec_len, vec_capacity}
use Rattle.newt_memhost.specs.Calls.{HasRoomFor, Keeps}
use Rattle.newt_memhost.specs.Log.{HasRoom}
use Rattle.newt_memhost.specs.Room.{HasRoomOf, IsKept, SamePlan, is_listed}
use Rattle.newt_memhost.specs.declared.host.MemHost.{MemHost}
use Rattle.newt_memhost.specs.declared.log.Log.{Log}

-- what stays beside the log, and what the output uses
pub record Beside (bytes : ℕ) (old new : MemHost) : Type 0 where
  pub shelf : vec_len new.shelf ≡ vec_len old.shelf
  pub plan : SamePlan old new
  pub output_used : vec_len new.output ≤ vec_len old.output + bytes
  pub output_left : vec_capacity old.output ≤ vec_capacity new.output

pub kept-host : {T E S F : Type 0} (bytes waiting : ℕ) (unit : Option ℕ) (fails : Bool) (room : Type 0) (inner : Result S F) (result : Result T E) (old new : MemHost) → waiting ≡ vec_len old.shelf → fails ≡ is_listed old
    → Keeps waiting bytes unit fails room inner old.log new.log → (HasRoomOf 1 bytes old → room) → is_err result ≡ is_err inner → Beside bytes old new → IsKept bytes unit result old new
kept-host bytes waiting unit fails room inner result old new waits listed kept enough same beside = record {
  became = elim kept.became [
    | inl was ↦ inl (record {
      entry = was.entry;
      bytes = was.bytes;
      entries_are = was.entries_are;
      bytes_are = was.bytes_are;
      numbered = was.numbered;
      is_on = was.is_on;
      failed = same ∙ was.failed ∙ listed;
    })
    | inr none ↦ inr (record { entries_are = none.entries_are; bytes_are = none.bytes_are; failed = same ∙ none.failed; full = λ has. none.full (enough has) })
  ];
  room = λ calls more has. record {
    log_fits = record {
      entries_fit = omega (arith, has.log_fits.entries_fit, kept.entries_used, kept.entries_left, beside.shelf);
      bytes_fit = omega (arith, has.log_fits.bytes_fit, kept.bytes_used, kept.bytes_left);
    };
    output_fits = omega (arith, has.output_fits, beside.output_used, beside.output_left);
  };
  plan = beside.plan;
}

-- less was used than might have been
pub keeps-wider : {T E : Type 0} (waiting piece bytes : ℕ) (unit : Option ℕ) (fails : Bool) {room : Type 0} (result : Result T E) (old new : Log) → piece ≤ bytes
    → Keeps waiting piece unit fails room result old new → Keeps waiting bytes unit fails room result old new
keeps-wider waiting piece bytes unit fails result old new fits kept = record {
  became = kept.became;
  waits = kept.waits;
  entries_used = kept.entries_used;
  bytes_used = omega (arith, kept.bytes_used, fits);
  entries_left = kept.entries_left;
  bytes_left = kept.bytes_left;
}

-- A piece of the input is kept in the log alone, and may be shorter than the buffer.
pub kept-in : {T E S F : Type 0} (bytes piece waiting : ℕ) (fails : Bool) (inner : Result S F) (result : Result T E) (old new : MemHost) → piece ≤ bytes → waiting ≡ vec_len old.shelf → fails ≡ is_listed old
    → Keeps waiting piece None fails (HasRoom (waiting + 1) piece old.log) inner old.log new.log → is_err result ≡ is_err inner → Beside 0 old new → IsKept bytes None result old new
kept-in bytes piece waiting fails inner result old new fits waits listed kept same beside =
    kept-host bytes waiting None fails _ inner result old new waits listed
    (keeps-wider waiting piece bytes None fails inner old.log new.log fits kept)
    (λ has. record { entries_fit = omega (arith, has.log_fits.entries_fit, waits); bytes_fit = omega (arith, has.log_fits.bytes_fit, fits) })
    same
    (record { shelf = beside.shelf; plan = beside.plan; output_used = omega (arith, beside.output_used); output_left = beside.output_left })

-- A piece of the output may be shorter than what was to be printed.
pub kept-out : {T E S F : Type 0} (bytes piece waiting : ℕ) (fails : Bool) (inner : Result S F) (result : Result T E) (old new : MemHost) → piece ≤ bytes → waiting ≡ vec_len old.shelf → fails ≡ is_listed old
    → Keeps waiting piece None fails (HasRoomFor (waiting + 1) piece old.output old.log) inner old.log new.log → is_err result ≡ is_err inner → vec_len new.shelf ≡ vec_len old.shelf → SamePlan old new
    → vec_len new.output ≤ vec_len old.output + piece → vec_capacity old.output ≤ vec_capacity new.output → IsKept bytes None result old new
kept-out bytes piece waiting fails inner result old new fits waits listed kept same shelf plan used left =
    kept-host bytes waiting None fails _ inner result old new waits listed
    (keeps-wider waiting piece bytes None fails inner old.log new.log fits kept)
    (λ has. record {
      log_fits = record { entries_fit = omega (arith, has.log_fits.entries_fit, waits); bytes_fit = omega (arith, has.log_fits.bytes_fit, fits) };
      output_fits = omega (arith, has.output_fits, fits);
    })
    same (record { shelf = shelf; plan = plan; output_used = omega (arith, used, fits); output_left = left })
