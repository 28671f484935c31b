-- What an exit by a fault says of its answer, and what the calls before an exit have done together.
use Rattle.std.proofs.Common.{◌≡◌, ℕ, Bool, IsTrue, None, Result, Err, Ok, IfOk, OnOk, IsErrAnd, IsErrOf, sym, ◌∙◌, ap, subst, arith}
use Rattle.newt_host.specs.Moments.{image}
use Rattle.newt_host.specs.Outside.{Outside, Broke, NoFault, OnlyReads}
use Rattle.newt_host.proofs.Outside.{Broke-on, Broke-since, NoFault-append, OnlyReads-append, OnlyReads-refl}
use Rattle.newt_pagebook.specs.Book.{Numbers}
use Rattle.newt_pagebook.specs.Stops.{BlamesNone, StopsAt}
use Rattle.newt_pagebook.specs.declared.book.BookFault.{BookFault}
use Rattle.newt_pagebook.specs.declared.book.BookFault.TheVariants.{NotStore, Memory, Device}
use Rattle.newt_pagebook.specs.declared.book.Stop.{Stop}
use Rattle.newt_pagebook.specs.declared.book.Stop.TheVariants as stops
use Rattle.newt_objects.specs.Calls.{Looks, Reads as ObjectReads}
use Rattle.newt_objects.specs.Held.{Held}
use Rattle.newt_objects_commit.specs.Commit.{AreKept}
use Rattle.newt_store_catalog.specs.Calls.{CanRead, Reads}
use Rattle.newt_store_catalog.specs.Readable.{readable}
use Rattle.newt_store_catalog.specs.Reading.{BookReads, ReadsOf, ReadEnds, SearchEnds}
use Rattle.newt_store_catalog.proofs.Kept.{kept-over}

-- the answer is this fault
abbrev pub Fails : {T E : Type 0} → Result T E → E → Type 0
Fails r f = IsErrAnd r (λ fault. fault ≡ f)

-- then it is no value
pub no-value : {T E : Type 0} (r : Result T E) (f : E) (P : T → Type 0) → Fails r f → IfOk r P
no-value (Ok x) f P fails = absurd fails
no-value (Err e) f P fails = tt

-- and no other fault
pub fault-is : {T : Type 0} (r : Result T BookFault) (f q : BookFault) → Fails r f → IsErrOf r q → f ≡ q
fault-is {T = T} r f q fails same = sym (subst (λ (x : Result T BookFault). Fails x f) same fails)

-- a value is no fault
pub no-fault : {T : Type 0} {x : T} {f : BookFault} → IsErrOf (Ok x) f → ⊥
no-fault same = cc

-- nor one that lies in the image one of the device
pub no-device : {T : Type 0} → IsErrOf {T = T} (Err NotStore) Device → ⊥
no-device same = cc

pub memory-store : Memory ≡ NotStore → ⊥
memory-store same = cc

pub memory-device : Memory ≡ Device → ⊥
memory-device same = cc

pub store-device : NotStore ≡ Device → ⊥
store-device same = cc

-- what a done call shows shows more
pub on-done : {T E : Type 0} (r : Result T E) (A B : Type 0) → OnOk r A → (A → B) → OnOk r B
on-done (Ok x) A B done more = more done
on-done (Err e) A B done more = tt

-- ---- calls that only read, one after another

pub looks-on : {unit unit' : ℕ} {old mid new : Outside} → unit' ≡ unit → OnlyReads unit old mid → OnlyReads unit' mid new → OnlyReads unit old new
looks-on {mid = mid} {new = new} same one two = OnlyReads-append one (subst (λ (u : ℕ). OnlyReads u mid new) same two)

-- a unit that broke in the later ones broke since the first
pub broke-on : {unit unit' : ℕ} {old mid : Outside} (new : Outside) → unit' ≡ unit → NoFault old mid → Broke unit' mid new → Broke unit old new
broke-on {unit = unit} new same none broke = Broke-since (none.dev_faults unit) (Broke-on same broke)

pub stops-on : (stop : Stop) {unit unit' : ℕ} {old mid : Outside} (new : Outside) → unit' ≡ unit → OnlyReads unit old mid → NoFault old mid → StopsAt unit' mid new stop → StopsAt unit old new stop
stops-on stops.Memory new same one none at = NoFault-append none at
stops-on (stops.Device unit) new same one none at = (at.0 ∙ same, broke-on new same none at.1)

pub book-on : {B : Type 0} {place : B → ℕ} {numbers : B → Numbers} {stands : Bool → B → Outside → Type 0} {told : Bool} {a b c : B} {before between after : Outside}
    → BookReads place numbers stands told a b before between → BookReads place numbers stands told b c between after → BookReads place numbers stands told a c before after
book-on x y = record {
  stood = y.stood;
  same_place = y.same_place ∙ x.same_place;
  same_numbers = y.same_numbers ∙ x.same_numbers;
  looks = looks-on x.same_place x.looks y.looks;
}

pub of-book : {B : Type 0} {place : B → ℕ} {numbers : B → Numbers} {stands : Bool → B → Outside → Type 0} {told : Bool} {objects : Held} {a b : B} {before after : Outside}
    → ReadsOf place numbers stands told objects a b before after → BookReads place numbers stands told a b before after
of-book x = record { stood = x.stood; same_place = x.same_place; same_numbers = x.same_numbers; looks = x.looks }

pub reads-on : {B : Type 0} {place : B → ℕ} {numbers : B → Numbers} {stands : Bool → B → Outside → Type 0} {told : Bool} {objects : Held} {a b c : B} {before between after : Outside}
    → ReadsOf place numbers stands told objects a b before between → ReadsOf place numbers stands told objects b c between after → ReadsOf place numbers stands told objects a c before after
reads-on x y = record {
  stood = y.stood;
  kept = y.kept;
  same_place = y.same_place ∙ x.same_place;
  same_numbers = y.same_numbers ∙ x.same_numbers;
  looks = looks-on x.same_place x.looks y.looks;
}

-- what may be read may be read on
pub can-on : {B : Type 0} {place : B → ℕ} {numbers : B → Numbers} {stands : Bool → B → Outside → Type 0} {told : Bool} {objects : Held} {a b : B} {before after : Outside}
    → ReadsOf place numbers stands told objects a b before after → CanRead place numbers stands told objects b after
can-on x = record { stands = x.stood; kept = x.kept }

-- what the objects promise
pub of-looks : {B : Type 0} {place : B → ℕ} {numbers : B → Numbers} {spare : B → ℕ} {stands : Bool → B → Outside → Type 0} {told : Bool} {a b : B} {before after : Outside}
    → Looks place numbers spare stands told a b before after → BookReads place numbers stands told a b before after
of-looks x = record { stood = x.stands; same_place = x.same_place; same_numbers = x.same_numbers; looks = x.looks }

pub with-kept : {B : Type 0} {place : B → ℕ} {numbers : B → Numbers} {spare : B → ℕ} {stands : Bool → B → Outside → Type 0} {told : Bool} {objects : Held} {a b : B} {before after : Outside}
    → AreKept told objects (numbers a) (place a) before → Looks place numbers spare stands told a b before after → ReadsOf place numbers stands told objects a b before after
with-kept {place = place} {numbers = numbers} {told = told} {objects = objects} {a = a} {b = b} {before = before} {after = after} kept x = record {
  stood = x.stands;
  kept = kept-over told objects (numbers a) (numbers b) (place a) (place b) before after x.same_place x.same_numbers x.looks.moment kept;
  same_place = x.same_place;
  same_numbers = x.same_numbers;
  looks = x.looks;
}

-- nothing was read
pub reads-none : {B : Type 0} (place : B → ℕ) (numbers : B → Numbers) (stands : Bool → B → Outside → Type 0) (told : Bool) (objects : Held) (book : B) (outside : Outside)
    → CanRead place numbers stands told objects book outside → ReadsOf place numbers stands told objects book book outside outside
reads-none place numbers stands told objects book outside can = record {
  stood = can.stands;
  kept = can.kept;
  same_place = λ i. place book;
  same_numbers = λ i. numbers book;
  looks = OnlyReads-refl (place book) outside;
}

-- ---- why a reading stops

-- a fault that is handed on
pub read-fails : {T U : Type 0} {unit : ℕ} {before after : Outside} (r : Result U Stop) (stop : Stop) → IsErrAnd r (λ s. s ≡ stop) → ReadEnds {T = T} unit before after (Err stop) → ReadEnds unit before after r
read-fails (Ok x) stop fails e = absurd fails
read-fails {unit = unit} {before = before} {after = after} (Err s) stop fails e = record { cause = subst (StopsAt unit before after) (sym fails) e.cause; no_fault = tt }

-- what a reading of an object says of the catalog's
pub of-reading : {B : Type 0} {place : B → ℕ} {numbers : B → Numbers} {spare : B → ℕ} {stands : Bool → B → Outside → Type 0} {told : Bool} {objects : Held} {a b : B} {before after : Outside} {T : Type 0} {r : Result T Stop}
    → AreKept told objects (numbers a) (place a) before → ObjectReads place numbers spare stands told a b before after r → Reads place numbers stands told objects a b before after r
of-reading kept x = record { book = with-kept kept x.book; ends = record { cause = x.cause; no_fault = x.no_fault } }

-- out of memory, where no fault was counted
pub read-memory : {T : Type 0} {unit : ℕ} {before after : Outside} (r : Result T Stop) → NoFault before after → IsErrAnd r (λ s. s ≡ stops.Memory) → ReadEnds unit before after r
read-memory r none fails = read-fails {T = Unit {0}} r stops.Memory fails (record { cause = none; no_fault = tt })

-- after calls that only read
pub read-after : {T : Type 0} {unit unit' : ℕ} {before mid after : Outside} (r : Result T Stop) → unit' ≡ unit → OnlyReads unit before mid → NoFault before mid → ReadEnds unit' mid after r → ReadEnds unit before after r
read-after (Ok x) same looks none e = record { cause = tt; no_fault = NoFault-append none e.no_fault }
read-after {after = after} (Err stop) same looks none e = record { cause = stops-on stop after same looks none e.cause; no_fault = tt }

-- ---- why a search ends

pub search-value : {T : Type 0} {told : Bool} {unit : ℕ} {before after : Outside} {x : T} → NoFault before after → SearchEnds told unit before after (Ok x)
search-value none = record { not_store = λ is. absurd (no-fault is); cause = λ is. absurd (no-fault is); no_fault = λ opening. none }

pub search-none : {T : Type 0} {told : Bool} {unit : ℕ} {before after : Outside} → (IsTrue told → readable (image unit before.now) ≡ None) → NoFault before after → SearchEnds {T = T} told unit before after (Err NotStore)
search-none reads none = record { not_store = λ is. reads; cause = λ is. absurd (no-device is); no_fault = λ opening. none }

pub search-memory : {T : Type 0} {told : Bool} {unit : ℕ} {before after : Outside} → NoFault before after → SearchEnds {T = T} told unit before after (Err Memory)
search-memory {T = T} none = record {
  not_store = λ is. absurd (memory-store (fault-is {T = T} (Err Memory) Memory NotStore (λ i. Memory) is));
  cause = λ is. absurd (memory-device (fault-is {T = T} (Err Memory) Memory Device (λ i. Memory) is));
  no_fault = λ opening. none;
}

pub search-device : {T : Type 0} {told : Bool} {unit : ℕ} {before after : Outside} → Broke unit before after → SearchEnds {T = T} told unit before after (Err Device)
search-device {T = T} broke = record {
  not_store = λ is. absurd (store-device (sym (fault-is {T = T} (Err Device) Device NotStore (λ i. Device) is)));
  cause = λ is. broke;
  no_fault = λ opening. absurd opening;
}

pub blames-is : (T U : Type 0) (f : BookFault) → BlamesNone {T = U} (Err f) → BlamesNone {T = T} (Err f)
blames-is T U NotStore opening = tt
blames-is T U Memory opening = tt
blames-is T U Device opening = absurd opening

blames-of : (T : Type 0) {U : Type 0} (r : Result U BookFault) (f : BookFault) → Fails r f → BlamesNone r → BlamesNone {T = T} (Err f)
blames-of T (Ok x) f fails opening = absurd fails
blames-of T {U = U} (Err e) f fails opening = subst (λ (x : BookFault). BlamesNone {T = T} (Err x)) fails (blames-is T U e opening)

-- a fault that is handed on
pub search-fails : {T U : Type 0} {told : Bool} {unit : ℕ} {before after : Outside} (r : Result U BookFault) (f : BookFault) → Fails r f → SearchEnds {T = T} told unit before after (Err f) → SearchEnds told unit before after r
search-fails {T = T} r f fails e = record {
  not_store = λ is. e.not_store (ap Err (fault-is r f NotStore fails is));
  cause = λ is. e.cause (ap Err (fault-is r f Device fails is));
  no_fault = λ opening. e.no_fault (blames-of T r f fails opening);
}

-- after calls that only read
pub search-after : {T : Type 0} {told : Bool} {unit unit' : ℕ} {before mid after : Outside} {r : Result T BookFault} → unit' ≡ unit → OnlyReads unit before mid → NoFault before mid
    → SearchEnds told unit' mid after r → SearchEnds told unit before after r
search-after {after = after} same looks none e = record {
  not_store = λ is tells. (λ i. readable (image (sym same i) (sym looks.moment i))) ∙ e.not_store is tells;
  cause = λ is. broke-on after same none (e.cause is);
  no_fault = λ opening. NoFault-append none (e.no_fault opening);
}
