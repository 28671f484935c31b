-- One write on a device, at each of its moments.
use Rattle.std.proofs.Common.{ℕ, List, length, subst, ◌≡◌, Result}
use Rattle.newt_host.specs.Moments.{Moment, SameOutside, Leaves}
use Rattle.newt_host.specs.Outside.{Writes}
use Rattle.newt_host.proofs.Moments.{Leaves-start, Leaves-write}
use Rattle.newt_host.proofs.Ranges.{same-refl}
use Rattle.newt_journal.specs.Pieces.{IsTornIn}

pub torn_in : {T E : Type 0} {unit at : ℕ} {bytes : List ℕ} {result : Result T E} {old new : Moment} (size : ℕ) → length bytes ≡ size → Writes unit at bytes result old new → Leaves unit (IsTornIn unit at size old) old new
torn_in {unit = unit} {at = at} {bytes = bytes} {old = old} size is wrote =
    Leaves-write (Leaves-start (λ left may. (left, may, same-refl at size left))) wrote (λ before left may same. (before, may, subst (λ (n : ℕ). SameOutside at n before left) is same))
