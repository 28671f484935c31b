-- What the calls of a run ask and promise. All of it is this project's own.
use Rattle.std.specs.Prelude.{◌≡◌, ◌≢◌, ℕ, IsTrue, List, Some, None}
use Rattle.newt_host.specs.Outside.{Outside}
use Rattle.newt_top.specs.Status.{StatusFaults}
use Rattle.newt_top.specs.Words.{are_names}
use Rattle.newt_top.specs.declared.status.Mode.{Mode}
use Rattle.newt_top.specs.declared.status.Status.{Status}
use Rattle.newt_top.specs.declared.status.Status.TheVariants.{Usage}

-- These can be the names of devices, and no device is attached to a unit yet.
pub record MayRun (named : List (List ℕ)) (outside : Outside) : Type 0 where
  pub names : IsTrue (are_names named)
  pub free : (unit : ℕ) → outside.card unit ≡ None

-- How a run in a mode ends: what its status says of faults, and that it is not Usage.
pub record RunEnds (mode : Mode) (result : Status) (old new : Outside) : Type 0 where
  pub faults : StatusFaults (Some mode) result old new
  pub not_usage : result ≢ Usage
