-- Pages that are copied, one after the other.
use Rattle.std.proofs.Common.{IsTrue, ◌≡◌, ℕ, zero, suc, ◌+◌, ◌-◌, ◌<◌, ◌≤◌, Bool, true, false, nat_eq, List, [], ◌∷◌, ◌++◌, length, Option, Some, None, Result, refl, sym, ◌∙◌, ap, subst, arith, append-nil, length-append}
use Rattle.std.specs.List.{flat_map}
use Rattle.std.specs.Map.{lookup}
use Rattle.std.specs.Option.{is_some}
use Rattle.std.proofs.lemmas.List.{map-append}
use Rattle.std.proofs.lemmas.Grind.{flat_map-append}
use Rattle.newt_host.specs.Moments.{Moment, image, Leaves}
use Rattle.newt_host.specs.Outside.{Outside, Touches, fetching}
use Rattle.newt_host.proofs.Outside.{same_cards}
use Rattle.newt_host.proofs.Moments.{Leaves-start}
use Rattle.newt_spec_image.specs.Records.{records}
use Rattle.newt_spec_image.specs.Pages.{written_put}
use Rattle.newt_journal.specs.Calls.{Reads}
use Rattle.newt_journal.specs.Journal.{Reading, reading, ReadsAs}
use Rattle.newt_journal.specs.Appending.{IsDrafted}
use Rattle.newt_journal.specs.Switch.{IsSwitching}
use Rattle.newt_journal.specs.Draft.{IsDraftOf, journal_of, unit_of, payload_of}
use Rattle.newt_journal.specs.declared.draft.Draft.{Draft}
use Rattle.newt_journal.specs.declared.draft.Draft.TheVariants.{Append, Switch}
use Rattle.newt_journal.specs.declared.journal.Journal.{Journal}
use Rattle.newt_pagelog.specs.Placed.{Places, lifted, page_of}
use Rattle.newt_pagelog.specs.Steps.{IsSteady, Stays, WritesMore, done}
use Rattle.newt_pagelog.proofs.Stepping.{keeps-start, writes-none, more-two, writes-same}
use Rattle.newt_pages.specs.Copies.{place_at, below, copying, CopiesPage, CopiesAll, IsBound}

pub stays-start : (told : Bool) (unit : ℕ) (o : Outside) → (IsTrue told → IsSteady unit o.now)
    → Stays told unit (copying 0) done o o
stays-start told unit o steady = keeps-start told unit o steady

-- a read of the unit
pub stays-looked : {T E : Type 0} {r : Result T E} (told : Bool) (unit n : ℕ) (a b : Outside)
    → (IsTrue told → IsSteady unit a.now) → Reads unit n r a b → Stays told unit (fetching n) r a b
stays-looked told unit n a b steady reads = record {
  any_moment = λ tells. subst (λ (m : Moment). Leaves unit (ReadsAs (reading (image unit a.now))) a.now m) (sym reads.moment) (Leaves-start (steady tells));
  alone = reads.alone;
  costs = reads.costs;
  wears = reads.wears;
  faults = reads.faults;
}

-- a draft stands on after a read
pub draft-looked : (told : Bool) (d : Draft) (a b : Outside) → Touches (unit_of d) a b → b.now ≡ a.now → IsDraftOf told d a → IsDraftOf told d b
draft-looked told (Append d) a b alone moment is = record { has = same_cards alone.cards is.has; held = λ tells. subst (λ (m : Moment). IsDrafted d m) (sym moment) (is.held tells) }
draft-looked told (Switch s) a b alone moment is = record { has = same_cards alone.cards is.has; held = λ tells. subst (λ (m : Moment). IsSwitching s m) (sym moment) (is.held tells) }

-- what is written after a read was written after the moment before it
pub writes-looked : (told : Bool) (unit : ℕ) (bytes : List ℕ) (x y : Draft) (a b c : Outside) → b.now ≡ a.now → WritesMore told unit bytes x y b c → WritesMore told unit bytes x y a c
writes-looked told unit bytes x y a b c moment w = record {
  draft = w.draft;
  put = w.put;
  on = w.on;
  holds = w.holds;
  len = w.len;
  kind = w.kind;
  rest = w.rest;
  more = λ tells. w.more tells ∙ ap (λ (m : Moment). payload_of x (image unit m) ++ bytes) moment;
  same = λ tells. w.same tells ∙ ap (λ (m : Moment). reading (image unit m)) moment;
  steady = w.steady;
}

-- one page alone, and none
pub copies-one : (told : Bool) (unit number at : ℕ) (x y : Draft) (a b : Outside) → CopiesPage told unit number at x y a b → CopiesAll told unit ((number, at) ∷ []) x y a b
copies-one told unit number at x y a b c = record {
  pages = (number, c.page) ∷ [];
  count = refl;
  shows = λ tells payloads is. ap (λ (p : List ℕ). (number, p) ∷ []) (c.shows tells payloads is);
  put = omega (arith, c.writes.put, c.size);
  writes = writes-same told unit (written_put (number, c.page)) (flat_map written_put ((number, c.page) ∷ [])) x y a b (sym (append-nil (written_put (number, c.page)))) c.writes;
}

pub copies-none : (told : Bool) (x : Draft) (a : Outside) → IsDraftOf told x a → (IsTrue told → IsSteady (unit_of x) a.now) → CopiesAll told (unit_of x) [] x x a a
copies-none told x a draft steady = record {
  pages = [];
  count = refl;
  shows = λ tells payloads is. refl;
  put = omega arith;
  writes = writes-none told x a draft steady;
}

-- some, and more after them
pub copies-two : (told : Bool) (unit : ℕ) (first second all : Places) (x y z : Draft) (a b c : Outside) → all ≡ first ++ second → CopiesAll told unit first x y a b → CopiesAll told (unit_of y) second y z b c → CopiesAll told unit all x z a c
copies-two told unit first second all x y z a b c is one other =
    let front = one.writes in
    let unit_is : unit_of y ≡ unit = front.on in
    let same : IsTrue told → records (image (unit_of y) b.now) ≡ records (image unit a.now) = λ tells. ap (λ (u : ℕ). records (image u b.now)) unit_is ∙ ap (λ (r : Reading). r.1) (front.same tells) in
    record {
      pages = one.pages ++ other.pages;
      count = omega (arith, one.count, other.count, length-append one.pages other.pages, ap (λ (l : Places). length l) is, length-append first second);
      shows = λ tells payloads there.
          let f = page_of (journal_of x) payloads in
          (λ i. one.shows tells payloads there i ++ (other.shows tells payloads (same tells ∙ there) ∙ ap (λ (j : Journal). lifted (page_of j payloads) second) front.holds) i)
          ∙ sym (map-append (λ (e : ℕ × ℕ). (e.0, f e.1)) first second) ∙ ap (λ (l : Places). lifted f l) (sym is);
      put = omega (arith, one.put, other.put, ap (λ (l : Places). length l) is, length-append first second);
      writes = writes-same told unit (flat_map written_put one.pages ++ flat_map written_put other.pages) (flat_map written_put (one.pages ++ other.pages)) x z a c
          (sym (flat_map-append written_put one.pages other.pages)) (more-two told unit (flat_map written_put one.pages) (flat_map written_put other.pages) x y z a b c front other.writes);
    }

-- one number more
pub below-none : (places : Places) → below 0 places ≡ []
unfolding below
below-none places = refl

pub below-more : (n : ℕ) (places : Places) → below (n + 1) places ≡ below n places ++ place_at n (lookup (nat_eq n) places)
unfolding below
below-more n places = ap (λ (k : ℕ). below k places) (let e : n + 1 ≡ suc n = omega arith in e)

-- no more below a number than below another that is not less
pub below-le : (n k : ℕ) (places : Places) → length (below n places) ≤ length (below (n + k) places)
below-le n zero places = omega (arith, ap (λ (m : ℕ). length (below m places)) (let e : n + 0 ≡ n = omega arith in e))
below-le n (suc k) places = omega (
  arith,
  below-le n k places,
  ap (λ (l : Places). length l) (below-more (n + k) places),
  length-append (below (n + k) places) (place_at (n + k) (lookup (nat_eq (n + k)) places)),
  ap (λ (m : ℕ). length (below m places)) (let e : n + suc k ≡ n + k + 1 = omega arith in e),
)

pub below-room : (n m : ℕ) (places : Places) → n < m → length (below n places) + length (place_at n (lookup (nat_eq n) places)) ≤ length (below m places)
below-room n m places low = omega (
  arith,
  ap (λ (l : Places). length l) (below-more n places),
  length-append (below n places) (place_at n (lookup (nat_eq n) places)),
  below-le (n + 1) (m - (n + 1)) places,
  ap (λ (k : ℕ). length (below k places)) (let e : n + 1 + (m - (n + 1)) ≡ m = omega (arith, low) in e),
)

place-some : (number : ℕ) (o : Option ℕ) → is_some o ≡ true → length (place_at number o) ≡ 1
place-some number None e = absurd cc
place-some number (Some at) e = refl

place-none : (number : ℕ) (o : Option ℕ) → is_some o ≡ false → length (place_at number o) ≡ 0
place-none number None e = refl
place-none number (Some at) e = absurd cc

-- one number more, where it has a place and where it has none
pub long-some : (n : ℕ) (places : Places) → is_some (lookup (nat_eq n) places) ≡ true → length (below (n + 1) places) ≡ length (below n places) + 1
long-some n places e = omega (
  arith,
  ap (λ (l : Places). length l) (below-more n places),
  length-append (below n places) (place_at n (lookup (nat_eq n) places)),
  place-some n (lookup (nat_eq n) places) e,
)

pub long-none : (n : ℕ) (places : Places) → is_some (lookup (nat_eq n) places) ≡ false → length (below (n + 1) places) ≡ length (below n places)
long-none n places e = omega (
  arith,
  ap (λ (l : Places). length l) (below-more n places),
  length-append (below n places) (place_at n (lookup (nat_eq n) places)),
  place-none n (lookup (nat_eq n) places) e,
)

-- Above a bound no number has a place.
no-place : (number : ℕ) (o : Option ℕ) → length (place_at number o) ≤ 0 → o ≡ None
no-place number None few = refl
no-place number (Some at) few = absurd (omega (arith, few))

below-same : (n k : ℕ) (places : Places) → length (below (n + k) places) ≤ length (below n places)
    → below (n + k) places ≡ below n places
below-same n zero places le = ap (λ (m : ℕ). below m places) (let e : n + 0 ≡ n = omega arith in e)
below-same n (suc k) places le =
    let size = below-room (n + k) (n + suc k) places (omega arith) in
    let none : lookup (nat_eq (n + k)) places ≡ None = no-place (n + k) (lookup (nat_eq (n + k)) places) (omega (arith, le, size, below-le n k places)) in
    ap (λ (m : ℕ). below m places) (let e : n + suc k ≡ n + k + 1 = omega arith in e) ∙ below-more (n + k) places
    ∙ ap (λ (o : Option ℕ). below (n + k) places ++ place_at (n + k) o) none ∙ append-nil (below (n + k) places)
    ∙ below-same n k places (omega (arith, le, size))

pub bound-is : (bound : ℕ) (places : Places) → IsBound bound places → below bound places ≡ below 65536 places
bound-is bound places is =
    let sum : bound + (65536 - bound) ≡ 65536 = omega (arith, is.small) in
    let size = ap (λ (m : ℕ). length (below m places)) sum in
    sym (below-same bound (65536 - bound) places (omega (arith, is.all, size))) ∙ ap (λ (m : ℕ). below m places) sum

pub bound-none : (bound q : ℕ) (places : Places) → IsBound bound places → bound ≤ q → q < 65536 → lookup (nat_eq q) places ≡ None
bound-none bound q places is low high =
    let size = ap (λ (m : ℕ). length (below m places)) (let e : bound + (q - bound) ≡ q = omega (arith, low) in e) in
    no-place q (lookup (nat_eq q) places) (omega (arith, is.all, size, below-le bound (q - bound) places, below-room q 65536 places high))

-- the place of a number that has one
pub at-some : (number at : ℕ) (o : Option ℕ) → o ≡ Some at → (number, at) ∷ [] ≡ place_at number o
at-some number at o is = ap (place_at number) (sym is)

pub at-none : (number : ℕ) (o : Option ℕ) → o ≡ None → [] ≡ place_at number o
at-none number o is = ap (place_at number) (sym is)

pub copies-same : (told : Bool) (unit : ℕ) (one other : Places) (x y : Draft) (a b : Outside) → one ≡ other → CopiesAll told unit one x y a b → CopiesAll told unit other x y a b
copies-same told unit one other x y a b is c = subst (λ (l : Places). CopiesAll told unit l x y a b) is c
