use Rattle.std.proofs.Common.{◌≡◌, ℕ, ◌≤◌, ◌<◌, false}
use Rattle.newt_pagelog.specs.Kept.{is_kept}
use Rattle.newt_pagelog.proofs.live.next_page.Given as goal

abbrev pub invariant-loop-number : goal.invariant-loop-number
invariant-loop-number g l = record {
  low : l.from ≤ l.number-counter;
  passed : (k : ℕ) → l.from ≤ k → k < l.number-counter → is_kept l.pages.entries k ≡ false;
}
