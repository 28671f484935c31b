-- Why a change or a command is not done, and what stands then. All of it is this project's own.
use Rattle.std.specs.Prelude.{◌≡◌, ℕ, Option, Some, None, Result, Ok, Err}
use Rattle.newt_host.specs.Outside.{Outside}
use Rattle.newt_base.specs.Refusals.{Checks, first_of}
use Rattle.newt_base.specs.declared.Refusal.{Refusal}
use Rattle.newt_base.specs.declared.Refusal.TheVariants.{Path as NoPath, Limit}
use Rattle.newt_path.specs.declared.fault.SetFault.{SetFault}
use Rattle.newt_path.specs.declared.fault.SetFault.TheVariants as put
use Rattle.newt_pagebook.specs.Stops.{HasStopCause, StopsAt}
use Rattle.newt_pagebook.specs.declared.book.Stop.TheVariants as stops
use Rattle.newt_store_change.specs.declared.fault.StoreFault.{StoreFault}
use Rattle.newt_store_change.specs.declared.fault.StoreFault.TheVariants.{Refused, Stop as Ends}

-- a refusal has no device to blame; an end of the run has its cause
abbrev pub HasFaultCause : StoreFault → Outside → Outside → Type 0
HasFaultCause (Refused refusal) old new = Unit {0}
HasFaultCause (Ends stop) old new = HasStopCause stop old new

-- the answer is no end of the run
abbrev pub GoesOn : {T : Type 0} → Result T StoreFault → Type 0
GoesOn (Ok value) = Unit {0}
GoesOn (Err (Refused refusal)) = Unit {0}
GoesOn (Err (Ends stop)) = ⊥

-- the answer is a refusal
abbrev pub IsRefused : {T : Type 0} → Result T StoreFault → Type 0
IsRefused (Ok value) = ⊥
IsRefused (Err (Refused refusal)) = Unit {0}
IsRefused (Err (Ends stop)) = ⊥

-- What a call does that makes one thing of another, where its tests are passed: it answers well and has made it, or answers the first test that holds and has
-- made nothing.
abbrev pub Does : {T A : Type 0} → Checks → (T → Type 0) → (before after now : A) → Result T StoreFault → Type 0
Does tests good before after now (Ok value) = (first_of tests ≡ None) × good value × (now ≡ after)
Does tests good before after now (Err (Refused refusal)) = (first_of tests ≡ Some refusal) × (now ≡ before)
Does tests good before after now (Err (Ends stop)) = Unit {0}

-- a fault of a device is one of this unit, and was counted
abbrev pub FaultsAt : ℕ → Outside → Outside → StoreFault → Type 0
FaultsAt unit old new (Refused refusal) = Unit {0}
FaultsAt unit old new (Ends stop) = StopsAt unit old new stop

-- a refusal is the first test that holds, and the run does not end
abbrev pub RefusesBy : Checks → StoreFault → Type 0
RefusesBy tests (Refused refusal) = first_of tests ≡ Some refusal
RefusesBy tests (Ends stop) = ⊥

-- a refusal is the one that is due
abbrev pub RefusesWith : Option Refusal → StoreFault → Type 0
RefusesWith due (Refused refusal) = due ≡ Some refusal
RefusesWith due (Ends stop) = Unit {0}

-- the run goes on
abbrev pub IsRefusal : StoreFault → Type 0
IsRefusal (Refused refusal) = Unit {0}
IsRefusal (Ends stop) = ⊥

-- the run ends
abbrev pub IsEnd : StoreFault → Type 0
IsEnd (Refused refusal) = ⊥
IsEnd (Ends stop) = Unit {0}

-- no device is at fault: a refusal, or out of memory
abbrev pub NoDevice : StoreFault → Type 0
NoDevice (Refused refusal) = Unit {0}
NoDevice (Ends stops.Memory) = Unit {0}
NoDevice (Ends (stops.Device unit)) = ⊥

-- why a value is not put at a path: a refusal, or out of memory
abbrev pub set_fault : SetFault → StoreFault
set_fault put.NoPath = Refused NoPath
set_fault put.Limit = Refused Limit
set_fault put.Memory = Ends stops.Memory
