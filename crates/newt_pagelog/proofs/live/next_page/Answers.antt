use Rattle.std.proofs.Common.{◌≡◌, ℕ, ◌≤◌, ◌<◌, true, false, List, sym, ◌∙◌, subst, arith}
use Rattle.std.specs.FinSet as set
use Rattle.newt_pagebook.proofs.Tests.{some_inj}
use Rattle.newt_pagelog.specs.Kept.{numbers_in, is_kept, kept_number}
use Rattle.newt_pagelog.proofs.live.next_page.Goals as goal

not_kept : {V : Type 0} (entries : List (ℕ × V)) (k : ℕ) → is_kept entries k ≡ false → set.contains (numbers_in entries) k ≡ true → ⊥
not_kept entries k gone there = let t : is_kept entries k ≡ true = sym (kept_number entries k) ∙ there in cc

pub returns-then-contains_key : goal.returns-then-contains_key
returns-then-contains_key g c =
    let entries = c.args.pages.now.entries in
    let n = c.loop-number.number-counter in
    let inv = c.loop-number.invariant in
    let there : set.contains (numbers_in entries) n ≡ true = kept_number entries n ∙ sym c.contains_key.ensures ∙ c.if-contains_key.true in
    record {
      found = λ k e. subst (λ (k : ℕ). (set.contains (numbers_in entries) k ≡ true) × (c.args.from ≤ k)) (some_inj n k e) (there, inv.low);
      small = λ k e. subst (λ (k : ℕ). k < 65536) (some_inj n k e) (c.requires n there);
      least = λ m k e low below is. not_kept entries k (inv.passed k low (subst (λ (m : ℕ). k < m) (sym (some_inj n m e)) below)) is;
      none = λ k e. absurd (cc);
    }

pub returns : goal.returns
returns g c =
    let entries = c.args.pages.now.entries in
    let inv = c.loop-number.invariant in
    record {
      found = λ k e. absurd (cc);
      small = λ k e. absurd (cc);
      least = λ m k e. absurd (cc);
      none = λ k e low is. not_kept entries k (inv.passed k low (let small : k < 65536 = c.requires k is in omega (arith, small, c.loop-number-test.false))) is;
    }
