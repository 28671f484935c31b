use Rattle.std.proofs.Common.{◌≡◌, ◌+◌, ◌≤◌, length, take}
use Rattle.std.specs.FinSet as set
use Rattle.newt_pagebook.specs.Book.{with_put_numbers, without_deleted}
use Rattle.newt_pagelog.specs.Kept.{numbers_in}
use Rattle.newt_pagelog.proofs.live.live_after.Given as goal

abbrev pub invariant-loop-put : goal.invariant-loop-put
invariant-loop-put g l = record {
  few : l.live ≤ length l.pages.entries + l.put-index;
  is : l.live ≡ set.len (with_put_numbers (take l.put-index l.fn.batch.puts) (numbers_in l.pages.entries));
}

abbrev pub invariant-loop-number : goal.invariant-loop-number
invariant-loop-number g l = record {
  is : l.live ≡ set.len (without_deleted (take l.number-index l.fn.batch.deletes) (with_put_numbers l.fn.batch.puts (numbers_in l.pages.entries)));
}
