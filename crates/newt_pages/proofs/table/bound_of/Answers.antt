use Rattle.std.proofs.Common.{◌≡◌, length, refl, sym, ◌∙◌, ap, arith}
use Rattle.newt_pagelog.specs.Placed.{Places}
use Rattle.newt_pages.proofs.Copying.{below-none, long-some, long-none}
use Rattle.newt_pages.proofs.table.bound_of.Goals as goal
use Rattle.newt_pages.proofs.table.bound_of.Goals.{then-contains_key, else-contains_key}

pub loop-number-init : goal.loop-number-init
loop-number-init c = omega (arith, c.requires, ap (λ (l : Places). length l) (below-none c.args.places.now.entries))

pub loop-number-preserved : goal.loop-number-preserved
loop-number-preserved c =
    let n = c.loop-number.number-counter in
    let places = c.args.places.now.entries in
    elim c.if-contains_key.branch [
      | then-contains_key w ↦ omega (arith, w.left-is, c.loop-number.invariant, long-some n places (sym c.contains_key.ensures ∙ w.if-contains_key.true))
      | else-contains_key w ↦ omega (arith, w.left-is, c.loop-number.invariant, long-none n places (sym c.contains_key.ensures ∙ w.if-contains_key.false))
    ]

pub returns-then-left-eq0 : goal.returns-then-left-eq0
returns-then-left-eq0 c = record {
  small = omega (arith, c.loop-number-test.true);
  all = omega (arith, c.loop-number.invariant, c.if-left-eq0.true);
}

pub returns : goal.returns
returns c = record { small = omega arith; all = refl }
