-- What an exit says of its answer, and what is handed on over calls that only read.
use Rattle.std.proofs.Common.{◌≡◌, inr, ℕ, ◌+◌, ◌/◌, ◌≤◌, List, length, Result, Ok, Err, IfOk, IfErr, IsErrAnd, IsErrOf, sym, ◌∙◌, ap, subst, arith}
use Rattle.newt_host.specs.Outside.{NoFault, Outside, Spends}
use Rattle.newt_host.proofs.Outside.{Broke-on, Broke-since, NoFault-append, Spends-refl, Spends-widen, Spends-append}
use Rattle.newt_spec_image.specs.Pages.{Change}
use Rattle.newt_pagebook.specs.Batch.{no_change}
use Rattle.newt_pagebook.specs.Book.{IsOpenFor, batch_bytes}
use Rattle.newt_pagebook.specs.declared.book.Stop.{Stop as StopOf}
use Rattle.newt_pagebook.specs.declared.book.Stop.TheVariants.{Memory, Device}
use Rattle.newt_base.specs.declared.Refusal.{Refusal}
use Rattle.newt_base.specs.declared.Refusal.TheVariants.{Full, Range}
use Rattle.newt_spec_store.specs.Cost.{patch_bytes}
use Rattle.newt_store_change.specs.declared.fault.StoreFault.{StoreFault}
use Rattle.newt_store_change.specs.declared.fault.StoreFault.TheVariants.{Refused, Stop}
use Rattle.newt_store_change.specs.Faults.{FaultsAt}
use Rattle.newt_objects_commit.specs.Faults.{RefusesOnly}
use Rattle.newt_objects_commit.specs.Patch.{IsRangeOrFull}

-- the answer is this fault
abbrev pub Fails : {T : Type 0} → Result T StoreFault → StoreFault → Type 0
Fails r f = IsErrAnd r (λ fault. fault ≡ f)

-- then it is no value
pub no-value : {T : Type 0} (r : Result T StoreFault) (f : StoreFault) (P : T → Type 0) → Fails r f → IfOk r P
no-value (Ok x) f P fails = absurd fails
no-value (Err e) f P fails = tt

-- and what is said of its fault is said of this one
pub by-fault : {T : Type 0} (r : Result T StoreFault) (f : StoreFault) (Q : StoreFault → Type 0) → Fails r f → Q f → IfErr r Q
by-fault (Ok x) f Q fails q = tt
by-fault (Err e) f Q fails q = subst Q (sym fails) q

-- a run that ends refuses nothing
pub no-refusal : {T : Type 0} {stop : StopOf} {refusal : Refusal} → IsErrOf {T = T} (Err (Stop stop)) (Refused refusal) → ⊥
no-refusal same = cc

refused-stop : {refusal : Refusal} → Refused refusal ≡ Stop Memory → ⊥
refused-stop same = cc

pub not-refused : {T : Type 0} (r : Result T StoreFault) (refusal : Refusal) → Fails r (Stop Memory) → IsErrOf r (Refused refusal) → ⊥
not-refused {T = T} r refusal fails same = refused-stop (subst (λ (x : Result T StoreFault). Fails x (Stop Memory)) same fails)

-- what refuses as Full alone refuses as Range not
range-full : Range ≡ Full → ⊥
range-full same = cc

pub never-range : {T : Type 0} (r : Result T StoreFault) → IfErr r (RefusesOnly Full) → IsErrOf r (Refused Range) → ⊥
never-range {T = T} r only same = range-full (subst (λ (x : Result T StoreFault). IfErr x (RefusesOnly Full)) same only)

pub or-range : {T : Type 0} (r : Result T StoreFault) → IfErr r (RefusesOnly Full) → IfErr r IsRangeOrFull
or-range (Ok x) only = tt
or-range (Err (Refused refusal)) only = inr only
or-range (Err (Stop stop)) only = tt

pub spends-nothing : (unit programs fetches : ℕ) (outside : Outside) → Spends unit programs fetches outside outside
spends-nothing unit programs fetches outside = Spends-widen 0 0 programs fetches (omega arith) (omega arith) (Spends-refl unit outside)

-- a fault of a later call, where none was counted before
pub faults-since : {T : Type 0} (r : Result T StoreFault) (unit mid : ℕ) (old between new : Outside) → mid ≡ unit → NoFault old between → IfErr r (FaultsAt mid between new) → IfErr r (FaultsAt unit old new)
faults-since (Ok x) unit mid old between new same none cause = tt
faults-since (Err (Refused refusal)) unit mid old between new same none cause = tt
faults-since (Err (Stop Memory)) unit mid old between new same none cause = NoFault-append none cause
faults-since (Err (Stop (Device at))) unit mid old between new same none cause = (cause.0 ∙ same, Broke-since (none.dev_faults unit) (Broke-on same cause.1))

-- the bytes of the batch of a patch
pub few-bytes : (batch first : Change) (count : ℕ) → first ≡ no_change → length batch.puts ≤ length first.puts + ((count + 499) / 500 + 1) → batch.deletes ≡ first.deletes → batch_bytes batch ≤ patch_bytes count
few-bytes batch first count none few same =
    omega (arith, few, ap (λ (c : Change). length c.puts) none, ap (λ (l : List ℕ). length l) same, ap (λ (c : Change). length c.deletes) none)

pub open-for-less : (less more : ℕ) (image : List ℕ) → less ≤ more → IsOpenFor more image → IsOpenFor less image
open-for-less less more image low ready = record { is_open = ready.is_open; room = omega (arith, low, ready.room) }

-- pages are read, and then a batch is written
pub spends-both : (unit fetches bytes programs : ℕ) (old between new : Outside) → bytes ≤ programs → Spends unit 0 fetches old between → Spends unit bytes 0 between new → Spends unit programs fetches old new
spends-both unit fetches bytes programs old between new low reads writes = Spends-widen (0 + bytes) (fetches + 0) programs fetches (omega (arith, low)) (omega arith) (Spends-append 0 fetches bytes 0 reads writes)

pub reads-only : (unit fetches programs : ℕ) (old new : Outside) → Spends unit 0 fetches old new → Spends unit programs fetches old new
reads-only unit fetches programs old new reads = Spends-widen 0 fetches programs fetches (omega arith) (omega arith) reads
