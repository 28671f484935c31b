-- Hosts before their run.
use Rattle.std.specs.Prelude.{◌≡◌, ℕ, List, None}
use Rattle.newt_host.specs.Outside.{Outside}

-- nothing is attached
abbrev pub IsFree : Outside → Type 0
IsFree outside = (unit : ℕ) → outside.card unit ≡ None

-- there are no devices
abbrev pub HasNone : Outside → Type 0
HasNone outside = (name : List ℕ) → outside.devices name ≡ None
