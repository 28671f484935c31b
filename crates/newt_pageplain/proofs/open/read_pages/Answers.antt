use Rattle.std.proofs.Common.{◌≡◌, ℕ, ◌+◌, ◌<◌, ◌≤◌, true, false, nat_eq, List, Some, None, Err, refl, sym, ◌∙◌, ap, arith, ⊎_elim}
use Rattle.std.specs.Map.{lookup}
use Rattle.std.specs.Option.{is_some, option_map}
use Rattle.std.specs.Cmp.{nat_cmp_total}
use Rattle.std.specs.FinMap as map
use Rattle.std.specs.FinSet as set
use Rattle.std.proofs.lemmas.Bool.{cases_lt}
use Rattle.std.proofs.lemmas.Bool.Decides.{nat_tests}
use Rattle.newt_host.specs.Moments.{image}
use Rattle.newt_host.proofs.Outside.{OnlyReads-append}
use Rattle.newt_spec_image.specs.Pages.{Pages}
use Rattle.newt_pagebook.specs.Book.{Numbers}
use Rattle.newt_pagebook.proofs.Tests.{true_or_false, is_same, equal_false, none_is}
use Rattle.newt_pagelog.specs.Kept.{Entries, page_in, numbers_in, is_kept, kept_number}
use Rattle.newt_pagelog.specs.Placed.{Places, AreNumbered, lifted, page_from}
use Rattle.newt_pagelog.proofs.Counts.{live-is}
use Rattle.newt_pagebook.specs.declared.book.BookFault.TheVariants.{Device}
use Rattle.newt_pagelog.proofs.Failing.{blames-as, broke-over, same-err}
use Rattle.newt_pagelog.proofs.Maps.{same_entries}
use Rattle.newt_pagelog.proofs.Placing.{looks-image, lookup-lifted, pages-from}
use Rattle.newt_pageplain.proofs.open.read_pages.Goals as goal

-- a fact of one number more
less_of : (q n : ℕ) → q < n + 1 → nat_eq n q ≡ false → q < n
less_of q n low un = ⊎_elim (λ (is : q < n). is) (λ (not : n ≤ q). absurd (let same : n ≡ q = omega (arith, low, not) in let t : nat_eq n q ≡ true = ap (λ (k : ℕ). nat_eq n k) (sym same) ∙ itself n in cc)) (cases_lt q n) where
  itself : (n : ℕ) → nat_eq n n ≡ true
  itself n = ⊎_elim (λ (t : nat_eq n n ≡ true). t) (λ (f : nat_eq n n ≡ false). absurd (different n f)) (true_or_false (nat_eq n n)) where
    different : (n : ℕ) → nat_eq n n ≡ false → ⊥
    different n f = grind (arith, nat_tests)

pub loop-number-preserved : goal.loop-number-preserved
loop-number-preserved g c =
    let o = g.H.Host.outside in
    let u = c.args.journal.now.unit in
    let n = c.loop-number.number in
    let old = c.loop-number.pages.entries in
    let new = c.read_number.new.pages.entries in
    let places = c.in_ok-places.places.entries in
    let inv = c.loop-number.invariant in
    let e = c.in_ok-read_number.ensures in
    record {
      looks = OnlyReads-append inv.looks c.read_number.ensures.reads.looks;
      no_fault = e.reads.no_fault tt ∙ inv.no_fault;
      unique = e.took.unique;
      above = λ q low. e.took.others q (equal_false n q (λ is. omega (arith, is, low))) ∙ inv.above q (omega (arith, low));
      kept = λ q low. ⊎_elim
          (λ (t : nat_eq n q ≡ true). ap (λ (k : ℕ). is_kept new k) (sym (is_same n q t)) ∙ e.took.here ∙ ap (λ (k : ℕ). is_kept places k) (is_same n q t))
          (λ (f : nat_eq n q ≡ false). ap is_some (e.took.others q f) ∙ inv.kept q (less_of q n low f))
          (true_or_false (nat_eq n q));
      whole = λ q page is. ⊎_elim
          (λ (t : nat_eq n q ≡ true). e.took.whole page (ap (λ (k : ℕ). page_in new k) (is_same n q t) ∙ is))
          (λ (f : nat_eq n q ≡ false). inv.whole q page (sym (e.took.others q f) ∙ is))
          (true_or_false (nat_eq n q));
      same = λ tells q low.
          let img : List ℕ = image u (o c.args.host.now).now in
          let now : image u (o c.loop-number.host).now ≡ img = looks-image u (o c.args.host.now) (o c.loop-number.host) inv.looks in
          ⊎_elim
          (λ (t : nat_eq n q ≡ true).
          ap (λ (k : ℕ). page_in new k) (sym (is_same n q t)) ∙ e.page tells ∙ ap (λ (l : List ℕ). page_in (lifted (page_from l) places) n) now ∙ ap (λ (k : ℕ). page_in (lifted (page_from img) places) k) (is_same n q t))
          (λ (f : nat_eq n q ≡ false). e.took.others q f ∙ inv.same tells q (less_of q n low f))
          (true_or_false (nat_eq n q));
    }

-- of all numbers
all-kept : (pages : Entries) (places : Places) → ((q : ℕ) → 65536 ≤ q → page_in pages q ≡ None) → ((q : ℕ) → q < 65536 → is_kept pages q ≡ is_kept places q) → AreNumbered places → (q : ℕ) → is_kept pages q ≡ is_kept places q
all-kept pages places above kept numbered q = ⊎_elim
    (λ (low : q < 65536). kept q low)
    (λ (high : 65536 ≤ q). ap is_some (above q high) ∙ sym (gone q high))
    (cases_lt q 65536) where
      gone : (q : ℕ) → 65536 ≤ q → is_kept places q ≡ false
      gone q high = ⊎_elim (λ (t : is_kept places q ≡ true). absurd (let low = numbered.small q t in omega (arith, low, high))) (λ (f : is_kept places q ≡ false). f) (true_or_false (is_kept places q))

pub returns-clause-sound : goal.returns-clause-sound
returns-clause-sound g c =
    let pages = c.loop-number.pages.entries in
    let places = c.in_ok-places.places.entries in
    let inv = c.loop-number.invariant in
    let numbered = c.in_ok-places.ensures.numbered in
    let end : c.loop-number.number ≡ 65536 = omega (arith, c.loop-number-test.false, c.loop-number.auto.number-end) in
    let all : (q : ℕ) → is_kept pages q ≡ is_kept places q = all-kept pages places (λ q high. inv.above q (omega (arith, high, end))) (λ q low. inv.kept q (omega (arith, low, end))) numbered in
    let same : numbers_in pages ≡ numbers_in places = set.same_set nat_cmp_total map.nat_cmp-IsAntisymmetric (numbers_in pages) (numbers_in places) (λ q. kept_number pages q ∙ all q ∙ sym (kept_number places q)) in
    record {
      unique = inv.unique;
      few = omega (arith, numbered.few, live-is pages inv.unique, live-is places numbered.unique, ap (λ (s : Numbers). set.len s) same);
      small = λ q page is. numbered.small q (sym (all q) ∙ ap is_some is);
      whole = inv.whole;
    }

pub returns-clause-pages : goal.returns-clause-pages
returns-clause-pages g c = λ tells.
    let o = g.H.Host.outside in
    let j = c.args.journal.now in
    let u = j.unit in
    let pages = c.loop-number.pages.entries in
    let places = c.in_ok-places.places.entries in
    let inv = c.loop-number.invariant in
    let numbered = c.in_ok-places.ensures.numbered in
    let img : List ℕ = image u (o c.args.host.now).now in
    let end : c.loop-number.number ≡ 65536 = omega (arith, c.loop-number-test.false, c.loop-number.auto.number-end) in
    let all : (q : ℕ) → is_kept pages q ≡ is_kept places q = all-kept pages places (λ q high. inv.above q (omega (arith, high, end))) (λ q low. inv.kept q (omega (arith, low, end))) numbered in
    let f = page_from img in
    let same : (q : ℕ) → page_in pages q ≡ page_in (lifted f places) q = λ q. ⊎_elim
    (λ (low : q < 65536). inv.same tells q (omega (arith, low, end)))
    (λ (high : 65536 ≤ q). inv.above q (omega (arith, high, end)) ∙ sym (lookup-lifted f places q ∙ ap (option_map f) (none_is (lookup (nat_eq q) places) (sym (all q) ∙ ap is_some (inv.above q (omega (arith, high, end)))))))
    (cases_lt q 65536) in
    pages-from g.H.Host.told j (o c.args.host.now) places c.requires tells c.in_ok-places.ensures.placed (c.in_ok-places.ensures.pages tells) ∙ ap (λ (m : Pages). Some m) (sym (same_entries (lifted f places) pages same))

-- what was read until the places were found, and until all pages were read
pub returns-in_err-read_number-clause-reads : goal.returns-in_err-read_number-clause-reads
returns-in_err-read_number-clause-reads g c =
    let o = g.H.Host.outside in
    let u = c.args.journal.now.unit in
    let inv = c.loop-number.invariant in
    let r = c.from_residual-in_err-read_number.result in
    let e = c.in_err-read_number.field-0.0 in
    let is = c.from_residual-in_err-read_number.ensures in
    let reads = c.in_err-read_number.ensures.reads in
    record {
      looks = OnlyReads-append inv.looks c.read_number.ensures.reads.looks;
      cause = λ bad. broke-over u u (o c.args.host.now) (o c.loop-number.host) (o c.read_number.new.host)
          refl inv.no_fault (reads.cause (ap Err (same-err r e Device is.1 bad)));
      no_fault = λ none. reads.no_fault (blames-as (Unit {0}) r e is.1 none) ∙ inv.no_fault;
    }
