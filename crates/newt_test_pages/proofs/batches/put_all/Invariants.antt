use Rattle.std.proofs.Common.{◌≡◌, ℕ, ◌+◌, ◌≤◌, false, length}
use Rattle.newt_pagebook.specs.Batch.{names}
use Rattle.newt_test_pages.proofs.batches.put_all.Given as goal

abbrev pub invariant-loop-number : goal.invariant-loop-number
invariant-loop-number l = record {
  new : (n : ℕ) → l.number ≤ n → names l.batch n ≡ false;
  size : length l.batch.puts + l.from ≡ length l.fn.batch.puts + l.number;
}
