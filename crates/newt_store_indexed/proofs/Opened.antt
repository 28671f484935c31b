-- Faults of an opening, told apart.
use Rattle.std.proofs.Common.{◌≡◌, ap, Ok, Err}
use Rattle.std.specs.Prelude.{Result, IsErrOf}
use Rattle.newt_pagebook.specs.declared.book.BookFault.{BookFault}

pub never-ok : {T E P : Type 0} (x : T) (e : E) → IsErrOf (Ok x) e → P
never-ok {T} {E} x e h = absurd (let k : ◌≡◌ {A = Result T E} (Ok x) (Err e) = h in cc)

-- a fault that is handed on is the one of the call
pub same-fault : {S T : Type 0} (f g : BookFault) → IsErrOf {T = T} (Err f) g → IsErrOf {T = S} (Err f) g
same-fault {S} {T} f g h = let k : f ≡ g = (let e : ◌≡◌ {A = Result T BookFault} (Err f) (Err g) = h in cc) in ap {B = Result S BookFault} (λ x. Err x) k
