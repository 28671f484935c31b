-- Why a call on a store does not answer.
use Rattle.std.specs.Prelude.{◌≡◌}
use Rattle.newt_base.specs.declared.Refusal.{Refusal}
use Rattle.newt_store_change.specs.declared.fault.StoreFault.{StoreFault}
use Rattle.newt_store_change.specs.declared.fault.StoreFault.TheVariants.{Refused, Stop}

-- the only refusal is this one
abbrev pub RefusesOnly : Refusal → StoreFault → Type 0
RefusesOnly only (Refused refusal) = refusal ≡ only
RefusesOnly only (Stop stop) = Unit {0}
