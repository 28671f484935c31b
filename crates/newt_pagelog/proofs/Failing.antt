-- What an answer that is an error says.
use Rattle.std.proofs.Common.{◌≡◌, ℕ, ◌+◌, ◌<◌, ◌≤◌, Result, Ok, Err, IfErr, IfOk, OnOk, OnErr, IsErr, IsErrAnd, IsErrOf, subst, sym, arith}
use Rattle.std.proofs.lemmas.Bool.{false≢true}
use Rattle.newt_pagebook.specs.declared.book.BookFault.{BookFault}
use Rattle.newt_pagebook.specs.declared.book.BookFault.TheVariants.{Device, Memory, NotStore}
use Rattle.newt_pagebook.specs.declared.book.Stop.{Stop}
use Rattle.newt_pagebook.specs.declared.book.Stop.TheVariants as stops
use Rattle.newt_pagebook.specs.Stops.{BlamesNone, StopsAt}
use Rattle.newt_host.specs.Outside.{Broke, NoFault, Outside}
use Rattle.newt_host.proofs.Outside.{Broke-on, Broke-since}

-- an error is no value
pub no-value : {T E : Type 0} (r : Result T E) (P : T → Type 0) → IsErr r → IfOk r P
no-value (Ok x) P err = absurd (false≢true err)
no-value (Err e) P err = tt

pub no-ok : {T E : Type 0} (r : Result T E) (A : Type 0) → IsErr r → OnOk r A
no-ok (Ok x) A err = absurd (false≢true err)
no-ok (Err e) A err = tt

-- what holds always holds of an error
pub on-err : {T E : Type 0} (r : Result T E) {A : Type 0} → A → OnErr r A
on-err (Ok x) a = tt
on-err (Err e) a = a

pub on-ok : {T E : Type 0} (r : Result T E) {A : Type 0} → A → OnOk r A
on-ok (Ok x) a = a
on-ok (Err e) a = tt

-- an answer is one error
pub same-err : {T E : Type 0} (r : Result T E) (e f : E) → IsErrAnd r (λ x. x ≡ e) → IsErrOf r f → e ≡ f
same-err (Ok x) e f is so = absurd is
same-err (Err x) e f is so = cc

pub not-err : {T E : Type 0} {x : T} {e : E} → Ok x ≡ Err e → ⊥
not-err is = (cc)

-- a fault of the device and what is no store are two errors
pub device-not-store : {T : Type 0} (r : Result T BookFault) → IsErrAnd r (λ x. x ≡ Device) → IsErrOf r NotStore → ⊥
device-not-store r is so = let no = same-err r Device NotStore is so in (cc)

pub store-not-device : {T : Type 0} (r : Result T BookFault) → IsErrAnd r (λ x. x ≡ NotStore) → IsErrOf r Device → ⊥
store-not-device r is so = let no = same-err r NotStore Device is so in (cc)

-- a unit that broke in a later call, where no call before it counted a fault
pub broke-over : (u v : ℕ) (a b c : Outside) → u ≡ v → b.dev_faults v ≡ a.dev_faults v → Broke u b c → Broke v a c
broke-over u v a b c on same broke = Broke-since same (Broke-on on broke)

-- an error that was handed on
pub blames-as : {T : Type 0} (T' : Type 0) (r : Result T BookFault) (e : BookFault)
    → IsErrAnd r (λ x. x ≡ e) → BlamesNone r → BlamesNone {T = T'} (Err e)
blames-as T' (Ok x) e is none = absurd is
blames-as T' (Err Memory) e is none = subst (λ (f : BookFault). BlamesNone {T = T'} (Err f)) is tt
blames-as T' (Err NotStore) e is none = subst (λ (f : BookFault). BlamesNone {T = T'} (Err f)) is tt
blames-as T' (Err Device) e is none = absurd none

-- want of memory, where no fault was counted
pub memory-stops : {T : Type 0} (r : Result T Stop) (unit : ℕ) {a b : Outside}
    → IsErrAnd r (λ x. x ≡ stops.Memory) → NoFault a b → IfErr r (StopsAt unit a b)
memory-stops (Ok x) unit is none = tt
memory-stops (Err x) unit {a = a} {b = b} is none =
    subst (λ (stop : Stop). StopsAt unit a b stop) (sym is) none

-- two numbers are as their names are
pub more-named : (live most l m : ℕ) → live ≡ l → most ≡ m → most < live → m < l
more-named live most l m is limit more = omega (arith, is, limit, more)

pub not-more : (live most l m : ℕ) → live ≡ l → most ≡ m → live ≤ most → m < l → ⊥
not-more live most l m is limit few more = absurd (omega (arith, is, limit, few, more))
