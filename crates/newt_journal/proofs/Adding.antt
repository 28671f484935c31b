-- What calls on one unit did, one after the other.
use Rattle.std.proofs.Common.{◌≡◌, ◌+◌, ◌≤◌, ◌||◌, ℕ, Bool, true, false, IsTrue, List, Result, Ok, Err, nat_lt, refl, sym, ap, ◌∙◌, subst, arith}
use Rattle.std.specs.Prelude.{IsErr}
use Rattle.std.proofs.lemmas.Bool.{false≢true}
use Rattle.std.proofs.lemmas.Bool.Decides.{nat_tests}
use Rattle.newt_host.specs.Moments.{Leaves}
use Rattle.newt_host.specs.Outside.{Outside, Spends, Touches, UnitCall, Wears, Work}
use Rattle.newt_host.proofs.Outside.{Touches-append, Spends-append, Spends-widen, Wears-append, Wears-widen}
use Rattle.newt_journal.specs.Calls.{Programs, Reads}

-- So much was done at most, and to no other unit.
pub record Did (unit programs fetches erases syncs : ℕ) (old new : Outside) : Type 0 where
  pub alone : Touches unit old new
  pub costs : Spends unit programs fetches old new
  pub wears : Wears unit erases syncs old new

pub did-call : {T E : Type 0} {unit : ℕ} {work : Work} {result : Result T E} {a b : Outside} → UnitCall unit work result a b → Did unit work.programs work.fetches work.erases work.syncs a b
did-call c = record { alone = c.alone; costs = c.costs; wears = c.wears }

pub did-write : {T E : Type 0} {told : Bool} {unit : ℕ} {work : Work} {leaves : List ℕ → Type 0} {result : Result T E} {a b : Outside} → Programs told unit work leaves result a b
    → Did unit work.programs work.fetches work.erases work.syncs a b
did-write c = record { alone = c.alone; costs = c.costs; wears = c.wears }

pub did-read : {T E : Type 0} {unit fetches : ℕ} {result : Result T E} {a b : Outside} → Reads unit fetches result a b → Did unit 0 fetches 0 0 a b
did-read c = record { alone = c.alone; costs = c.costs; wears = c.wears }

-- one after the other
pub then : {unit programs fetches erases syncs more_programs more_fetches more_erases more_syncs : ℕ} {a b c : Outside} → Did unit programs fetches erases syncs a b
    → Did unit more_programs more_fetches more_erases more_syncs b c
    → Did unit (programs + more_programs) (fetches + more_fetches) (erases + more_erases) (syncs + more_syncs) a c
then {programs = p} {fetches = f} {erases = e} {syncs = s} {more_programs = q} {more_fetches = g} {more_erases = d} {more_syncs = r} x y =
    record { alone = Touches-append x.alone y.alone; costs = Spends-append p f q g x.costs y.costs; wears = Wears-append e s d r x.wears y.wears }

-- at most so much
pub widen : {unit p f e s : ℕ} {a b : Outside} → Did unit p f e s a b → (programs fetches erases syncs : ℕ)
    → (nat_lt programs p || nat_lt fetches f || nat_lt erases e || nat_lt syncs s) ≡ false → Did unit programs fetches erases syncs a b
widen {p = p} {f = f} {e = e} {s = s} x programs fetches erases syncs few =
    let low : (p ≤ programs) × (f ≤ fetches) × (e ≤ erases) × (s ≤ syncs) = (grind (arith, nat_tests), grind (arith, nat_tests), grind (arith, nat_tests), grind (arith, nat_tests)) in
    record { alone = x.alone; costs = Spends-widen p f programs fetches low.0 low.1 x.costs; wears = Wears-widen e s erases syncs low.2 low.3 x.wears }

pub widen-by : {unit p f e s : ℕ} {a b : Outside} → Did unit p f e s a b → (programs fetches erases syncs : ℕ) → p ≤ programs → f ≤ fetches → e ≤ erases → s ≤ syncs
    → Did unit programs fetches erases syncs a b
widen-by {p = p} {f = f} {e = e} {s = s} x programs fetches erases syncs low few rare calm =
    record { alone = x.alone; costs = Spends-widen p f programs fetches low few x.costs; wears = Wears-widen e s erases syncs rare calm x.wears }
