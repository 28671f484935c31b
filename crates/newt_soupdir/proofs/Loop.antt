-- Reading things one after another, as a loop does.
use Rattle.std.proofs.Common.{◌≡◌, ℕ, suc, ◌-◌, ◌+◌, ◌≤◌, ◌<◌, List, [], ◌∷◌, ◌++◌, Option, Some, None, option_and_then, refl, sym, ap, ◌∙◌, append_assoc, arith}
use Rattle.std.proofs.lemmas.List.{append-nil}
use Rattle.newt_spec_store.specs.Reading.{Take, times}
use Rattle.newt_soupdir.specs.declared.fault.DirFault.{DirFault}
use Rattle.newt_soupdir.specs.declared.fault.DirFault.TheVariants.{Bad, Memory}
use Rattle.newt_soupdir.specs.Reading.{Fails}

-- what was read before, and what is still read
abbrev pub with_front : {A : Type 0} → List A → Option (List A × List ℕ) → Option (List A × List ℕ)
with_front front None = None
with_front front (Some x) = Some (front ++ x.0, x.1)

abbrev one_before : {A : Type 0} → A → Option (List A × List ℕ) → Option (List A × List ℕ)
one_before n read = option_and_then (λ x. Some (n ∷ x.0, x.1)) read

regroup : {A : Type 0} (front : List A) (n : A) (read : Option (List A × List ℕ)) → with_front front (one_before n read) ≡ with_front (front ++ n ∷ []) read
regroup {A} front n (Some x) = ap (λ (ns : List A). Some (ns, x.1)) (simp append_assoc)
regroup front n None = refl

pub goes_on : {A : Type 0} (item : Take A) (front : List A) (count i : ℕ) (bytes : List ℕ) (n : A) (after : List ℕ) (total : Option (List A × List ℕ)) → i < count → item bytes ≡ Some (n, after)
    → with_front front (times (count - i) item bytes) ≡ total → with_front (front ++ n ∷ []) (times (count - (i + 1)) item after) ≡ total
goes_on item front count i bytes n after total lt h so_far =
    let k : count - i ≡ suc (count - (i + 1)) = omega arith in
    let one : with_front front (times (count - i) item bytes) ≡ with_front (front ++ n ∷ []) (times (count - (i + 1)) item after) = rw (k, h) (regroup front n (times (count - (i + 1)) item after)) in
    sym one ∙ so_far

pub ends : {A : Type 0} (e : DirFault) (item : Take A) (front : List A) (count i : ℕ) (bytes : List ℕ) (total : Option (List A × List ℕ)) → i < count → Fails e (item bytes)
    → with_front front (times (count - i) item bytes) ≡ total → Fails e total
ends Memory item front count i bytes total lt h so_far = tt
ends Bad item front count i bytes total lt h so_far =
    let k : count - i ≡ suc (count - (i + 1)) = omega arith in
    let one : with_front front (times (count - i) item bytes) ≡ None = rw (k, h) refl in
    sym so_far ∙ one

pub is_done : {A : Type 0} (item : Take A) (front : List A) (count i : ℕ) (bytes : List ℕ) (total : Option (List A × List ℕ)) → count ≤ i → with_front front (times (count - i) item bytes) ≡ total → total ≡ Some (front, bytes)
is_done {A} item front count i bytes total le so_far =
    let k : count - i ≡ 0 = omega arith in
    let one : with_front front (times (count - i) item bytes) ≡ Some (front, bytes) = rw k (ap (λ (ns : List A). Some (ns, bytes)) (append-nil front)) in
    sym so_far ∙ one
