-- Why calls end, one after another.
use Rattle.std.proofs.Common.{◌≡◌, ℕ, Result, Ok, Err, IfErr, IsErrAnd, IsErrOf, sym, subst, arith}
use Rattle.newt_base.specs.declared.Refusal.{Refusal}
use Rattle.newt_host.specs.Outside.{Outside, NoFault, OnlyReads, Wears}
use Rattle.newt_host.proofs.Outside.{NoFault-append, Wears-append, Wears-refl, Wears-widen}
use Rattle.newt_pagebook.specs.declared.book.Stop.{Stop as StopOf}
use Rattle.newt_pagebook.specs.declared.book.Stop.TheVariants.{Memory}
use Rattle.newt_store_change.specs.Faults.{FaultsAt, GoesOn, IsRefused}
use Rattle.newt_store_change.specs.declared.fault.StoreFault.{StoreFault}
use Rattle.newt_store_change.specs.declared.fault.StoreFault.TheVariants.{Refused, Stop}
use Rattle.newt_store_catalog.specs.Reading.{ReadEnds}
use Rattle.newt_store_catalog.proofs.Exits.{stops-on}
use Rattle.newt_store.specs.Calls.{CallEnds}
use Rattle.newt_store.specs.Next.{IsNoDevice}
use Rattle.newt_store.proofs.Unanswered.{no-device}

goes-as : (T U : Type 0) (fault : StoreFault) → GoesOn {T = U} (Err fault) → GoesOn {T = T} (Err fault)
goes-as T U (Refused refusal) goes = tt
goes-as T U (Stop stop) goes = absurd goes

-- a fault that is handed on
pub ends-fails : {T U : Type 0} {unit : ℕ} {before after : Outside} (r : Result U StoreFault) (fault : StoreFault) → IsErrAnd r (λ f. f ≡ fault) → CallEnds {T = T} unit before after (Err fault) → CallEnds unit before after r
ends-fails (Ok x) fault fails e = absurd fails
ends-fails {T = T} {U = U} {unit = unit} {before = before} {after = after} (Err f) fault fails e = record {
  cause = subst (FaultsAt unit before after) (sym fails) e.cause;
  no_fault = λ goes. e.no_fault (subst (λ (x : StoreFault). GoesOn {T = T} (Err x)) fails (goes-as T U f goes));
}

-- out of memory, where no fault was counted
pub ends-memory : {T : Type 0} {unit : ℕ} {before after : Outside} (r : Result T StoreFault) (fault : StoreFault) → NoFault before after → IsErrAnd r (λ f. f ≡ fault) → fault ≡ Stop Memory → CallEnds unit before after r
ends-memory {unit = unit} {before = before} {after = after} r fault none fails is =
    ends-fails {T = Unit {0}} r fault fails (subst (λ (f : StoreFault). CallEnds {T = Unit {0}} unit before after (Err f)) (sym is) (record { cause = none; no_fault = λ goes. absurd goes }))

-- a reading that stopped
pub ends-stop : {T U : Type 0} {unit : ℕ} {before after : Outside} (r : Result U StoreFault) (stop : StopOf) → IsErrAnd r (λ f. f ≡ Stop stop) → ReadEnds {T = T} unit before after (Err stop) → CallEnds unit before after r
ends-stop {T = T} {unit = unit} {before = before} {after = after} r stop fails e = ends-fails {T = T} r (Stop stop) fails (record { cause = e.cause; no_fault = λ goes. absurd goes })

-- nothing was done of which a device could fail
pub ends-none : {T : Type 0} {unit : ℕ} {before after : Outside} (r : Result T StoreFault) → IfErr r IsNoDevice → NoFault before after → CallEnds unit before after r
ends-none {unit = unit} {before = before} {after = after} r none same = record { cause = no-device r unit before after same none; no_fault = λ goes. same }

-- a refusal
pub ends-refused : {T : Type 0} {unit : ℕ} {before after : Outside} {r : Result T StoreFault} → IfErr r (FaultsAt unit before after) → NoFault before after → CallEnds unit before after r
ends-refused cause same = record { cause = cause; no_fault = λ goes. same }

-- after calls that only read
pub ends-after : {T : Type 0} {unit unit' : ℕ} {before mid after : Outside} (r : Result T StoreFault) → unit' ≡ unit → OnlyReads unit before mid → NoFault before mid → CallEnds unit' mid after r → CallEnds unit before after r
ends-after (Ok x) same looks none e = record { cause = tt; no_fault = λ goes. NoFault-append none (e.no_fault goes) }
ends-after (Err (Refused refusal)) same looks none e = record { cause = tt; no_fault = λ goes. NoFault-append none (e.no_fault goes) }
ends-after {after = after} (Err (Stop stop)) same looks none e = record { cause = stops-on stop after same looks none e.cause; no_fault = λ goes. absurd goes }

-- an answer that is this refusal is one
pub range-refused : {T : Type 0} {r : Result T StoreFault} {refusal : Refusal} → IsErrOf r (Refused refusal) → IsRefused r
range-refused {T = T} is = subst (λ (x : Result T StoreFault). IsRefused x) (sym is) tt

-- ---- erases and syncs

pub wears-none : {unit : ℕ} {before after : Outside} → Wears unit 0 0 before after → Wears unit 0 2 before after
wears-none wears = Wears-widen 0 0 0 2 (omega arith) (omega arith) wears

pub wears-nothing : (unit : ℕ) (outside : Outside) → Wears unit 0 2 outside outside
wears-nothing unit outside = wears-none (Wears-refl unit outside)

-- after calls that only read
pub wears-after : {unit unit' : ℕ} {before mid after : Outside} → unit' ≡ unit → OnlyReads unit before mid → Wears unit' 0 2 mid after → Wears unit 0 2 before after
wears-after {mid = mid} {after = after} same looks wears = Wears-append 0 0 0 2 looks.wears (subst (λ (u : ℕ). Wears u 0 2 mid after) same wears)
