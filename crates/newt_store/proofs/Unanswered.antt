-- An answer out of memory, of which most clauses say nothing.
use Rattle.std.proofs.Common.{◌≡◌, ℕ, Result, Ok, Err, IfOk, IfErr, OnOk, IsErr, IsErrAnd, IsErrOf, sym, ap, subst}
use Rattle.newt_base.specs.declared.Refusal.TheVariants.{Full}
use Rattle.newt_pagebook.specs.declared.book.Stop.TheVariants.{Memory, Device}
use Rattle.newt_store_change.specs.declared.fault.StoreFault.{StoreFault}
use Rattle.newt_store_change.specs.declared.fault.StoreFault.TheVariants.{Refused, Stop}
use Rattle.newt_store_change.specs.Faults.{FaultsAt}
use Rattle.newt_host.specs.Outside.{NoFault, Outside}
use Rattle.newt_store.specs.Next.{IsNoDevice}
use Rattle.newt_store_change.specs.Faults.{GoesOn, IsRefused}

-- an error is no value
pub no-value : {T E : Type 0} (r : Result T E) (P : T → Type 0) → IsErr r → IfOk r P
no-value (Ok x) P e = absurd (cc)
no-value (Err f) P e = tt

-- what holds of each such error
pub by-error : {T E : Type 0} (r : Result T E) (Q P : E → Type 0) → IsErrAnd r Q → ((e : E) → Q e → P e) → IfErr r P
by-error (Ok x) Q P is all = tt
by-error (Err e) Q P is all = all e is

-- the answer is that memory is wanting
abbrev pub IsMemory : {T : Type 0} → Result T StoreFault → Type 0
IsMemory r = IsErrAnd r (λ fault. fault ≡ Stop Memory)

-- what holds of that answer
pub by-memory : {T : Type 0} (r : Result T StoreFault) (P : Result T StoreFault → Type 0) → IsMemory r → P (Err (Stop Memory)) → P r
by-memory (Ok x) P is p = absurd is
by-memory {T = T} (Err fault) P is p = subst (λ (f : StoreFault). P (Err f)) (sym is) p

pub memory-on : {T : Type 0} (r : Result T StoreFault) (A : Type 0) → IsMemory r → OnOk r A
memory-on r A is = by-memory r (λ x. OnOk x A) is tt

pub memory-if : {T : Type 0} (r : Result T StoreFault) (P : T → Type 0) → IsMemory r → IfOk r P
memory-if r P is = by-memory r (λ x. IfOk x P) is tt

pub memory-err : {T : Type 0} (r : Result T StoreFault) (P : StoreFault → Type 0) → IsMemory r → P (Stop Memory) → IfErr r P
memory-err r P is p = by-memory r (λ x. IfErr x P) is p

pub memory-stops : {T : Type 0} (r : Result T StoreFault) → IsMemory r → GoesOn r → ⊥
memory-stops r is = by-memory r (λ x. GoesOn x → ⊥) is (λ goes. goes)

pub memory-refuses : {T : Type 0} (r : Result T StoreFault) → IsMemory r → IsRefused r → ⊥
memory-refuses r is = by-memory r (λ x. IsRefused x → ⊥) is (λ refused. refused)

pub memory-fits : {T : Type 0} (r : Result T StoreFault) → IsMemory r → IsErrOf r (Refused Full) → ⊥
memory-fits r is = by-memory r (λ x. IsErrOf x (Refused Full) → ⊥) is (λ full. absurd (cc))

-- an error that is want of memory
memory-is : {T : Type 0} {fault : StoreFault} → IsErrOf {T = T} (Err fault) (Stop Memory) → fault ≡ Stop Memory
memory-is same = cc

-- it is one under any type of values
pub memory-as : {T U : Type 0} (fault : StoreFault) → IsErrOf {T = T} (Err fault) (Stop Memory) → IsErrOf {T = U} (Err fault) (Stop Memory)
memory-as {U = U} fault is = ap (λ (f : StoreFault). let r : Result U StoreFault = Err f in r) (memory-is is)

-- a value is none
pub memory-none : {T : Type 0} {x : T} → IsErrOf {T = T} (Ok x) (Stop Memory) → ⊥
memory-none same = cc

-- a fault that no device has needs no device that failed, where none did
pub no-device : {T : Type 0} (r : Result T StoreFault) (unit : ℕ) (old new : Outside) → NoFault old new → IfErr r IsNoDevice → IfErr r (FaultsAt unit old new)
no-device (Ok x) unit old new same none = tt
no-device (Err (Refused refusal)) unit old new same none = tt
no-device (Err (Stop Memory)) unit old new same none = same
no-device (Err (Stop (Device at))) unit old new same none = absurd none
