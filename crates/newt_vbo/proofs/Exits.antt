-- What an exit by a fault says of its answer, and what it hands on of the calls before it.
use Rattle.std.proofs.Common.{◌≡◌, ℕ, ◌+◌, ◌-◌, ◌*◌, ◌/◌, ◌<◌, ◌≤◌, Option, Some, None, IfSome, Result, Err, Ok, IfOk, OnOk, IsErrAnd, IsErrOf, sym, ◌∙◌, ap, subst, arith}
use Rattle.std.proofs.lemmas.Result.{err_from_is_err_and}
use Rattle.newt_host.specs.Outside.{Outside, Spends}
use Rattle.newt_host.proofs.Outside.{Spends-refl, Spends-widen}
use Rattle.newt_spec_image.specs.Objects.{Extent}
use Rattle.newt_vbo.specs.declared.fault.RangeFault.{RangeFault}
use Rattle.newt_vbo.specs.declared.fault.RangeFault.TheVariants.{Range, Memory, Device}
use Rattle.newt_vbo.specs.Ranges.{parts_met}
use Rattle.newt_vbo.proofs.Parts.{spends_more}

-- the answer is this fault
abbrev pub Fails : {T : Type 0} → Result T RangeFault → RangeFault → Type 0
Fails r f = IsErrAnd r (λ fault. fault ≡ f)

-- then it is no value
pub no_value : {T : Type 0} (r : Result T RangeFault) (f : RangeFault) (P : T → Type 0) → Fails r f → IfOk r P
no_value (Ok x) f P fails = absurd fails
no_value (Err e) f P fails = tt

pub no_done : {T : Type 0} (r : Result T RangeFault) (f : RangeFault) (A : Type 0) → Fails r f → OnOk r A
no_done (Ok x) f A fails = absurd fails
no_done (Err e) f A fails = tt

-- and what it says is said of this fault
pub the_fault : {T : Type 0} (r : Result T RangeFault) (f q : RangeFault) → Fails r f → IsErrOf r q → f ≡ q
the_fault {T = T} r f q fails same = sym (subst (λ (x : Result T RangeFault). Fails x f) same fails)

pub is_fault : {T : Type 0} (r : Result T RangeFault) (f q : RangeFault) → Fails r f → f ≡ q → IsErrOf r q
is_fault r f q fails same = let p = err_from_is_err_and r fails in p.1 ∙ ap Err (p.2 ∙ same)

-- a value is no fault
pub no_fault : {T : Type 0} {x : T} {f : RangeFault} → IsErrOf (Ok x) f → ⊥
no_fault same = cc

pub range_device : Range ≡ Device → ⊥
range_device same = cc

pub device_range : Device ≡ Range → ⊥
device_range same = cc

pub memory_range : Memory ≡ Range → ⊥
memory_range same = cc

pub memory_device : Memory ≡ Device → ⊥
memory_device same = cc

-- past the object's end a call answers what it shall, and within it nothing is asked
pub past_end : (o : Option Extent) (end : ℕ) (Answer : Type 0) → Answer → IfSome o (λ x. x.length < end → Answer)
past_end None end Answer answer = tt
past_end (Some x) end Answer answer = λ past. answer

pub not_past : (o : Option Extent) (end : ℕ) (Answer : Type 0) → IfSome o (λ x. end ≤ x.length) → IfSome o (λ x. x.length < end → Answer)
not_past None end Answer within = tt
not_past (Some x) end Answer within = λ past. absurd (omega (arith, past, within))

-- nothing is spent before a part is loaded
pub spends_none : (unit fetches : ℕ) (outside : Outside) → Spends unit 0 fetches outside outside
spends_none unit fetches outside = Spends-widen 0 0 0 fetches (omega arith) (omega arith) (Spends-refl unit outside)

-- with one part more no more than all is spent
pub spends_part : (unit at n part met : ℕ) (a b c : Outside) → met ≡ parts_met at n → at / 500 ≤ part → part < at / 500 + met → Spends unit 0 (512 * (part - at / 500)) a b → Spends unit 0 512 b c
    → Spends unit 0 (512 * parts_met at n) a c
spends_part unit at n part met a b c is low below before more =
    Spends-widen 0 (512 * (part + 1 - at / 500)) 0 (512 * parts_met at n) (omega arith) (omega (arith, is, below)) (spends_more unit (at / 500) part a b c low before more)

-- after the last part all that are met are done
pub all_met : (at n part met : ℕ) → met ≡ parts_met at n → (at / 500 ≤ at / 500 + met → part ≤ at / 500 + met) → at / 500 + met ≤ part → part ≡ at / 500 + parts_met at n
all_met at n part met is high low = let most : part ≤ at / 500 + met = high (omega arith) in omega (arith, is, most, low)

pub count_met : (at n part : ℕ) → part ≡ at / 500 + parts_met at n → part - at / 500 ≡ parts_met at n
count_met at n part is = omega (arith, is)
